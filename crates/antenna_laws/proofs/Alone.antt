-- A lane is as it would be alone: another antenna's call leaves it, one of its own that meets 12 leaves it too, and any other is the lone lane's. So
-- over a list what it hears is what the lane alone would answer.
use Prim.Native.Nat.{ℕ, ◌<◌}
use mathlib.Core.Bool.{Bool, true, false, cond, not, ◌&&◌}
use mathlib.Core.Path.{◌≡◌, refl, sym, ◌∙◌, ap, subst}
use mathlib.Core.List.{List, [], ◌∷◌}
use lib.Dec.{eqb, ltb, leb}
use borrow.Author.Tests.{eqb-true, eqb-false}
use Rattle.std.specs.Prelude.{Err}
use Rattle.refusals.specs.declared.Refusal.TheVariants as refusal
use Rattle.commands.specs.Command.{Found}
use Rattle.calls.specs.Turn.{State, Called, called, next, unchanged}
use Rattle.among.specs.Among.{antennas, places, called_among, Lanes, lane_at, others_out, no_antenna, answer_to, after_call, Sized}
use Rattle.among.specs.Settled.{is_begin_of, late_of}
use Rattle.antenna_laws.specs.Calls.{Sent, after_all, met12, keep_if, heard, commands_of, answers_of, alone, alone_after}
use Rattle.antenna_laws.specs.Theorems.{AsAlone, OthersKept, OnlyTheirNumber, OnlyLettingIn}
use Rattle.antenna_laws.proofs.One.{meets, among_alone, among_twelve, among_met, answer_own, after_sized, after_lane, after_other}

pub others_kept : OthersKept
unfolding OthersKept
others_kept p i j k h = after_other p i j k h

-- ---- one call of the antenna's own

module _ (p : Lanes) (i : ℕ) (k : Found) (h : i < antennas) where
  pub met_own : met12 (answer_to p i k).0.reply ≡ meets (others_out p.0 i) (lane_at p i) k
  met_own = ap (λ (c : Called). met12 c.0.reply) (answer_own p i k h) ∙ among_met (others_out p.0 i) (lane_at p i) k

  pub own_alone : met12 (answer_to p i k).0.reply ≡ false → answer_to p i k ≡ called (lane_at p i) k
  own_alone e = answer_own p i k h ∙ among_alone (others_out p.0 i) (lane_at p i) k (sym met_own ∙ e)

  pub own_twelve : met12 (answer_to p i k).0.reply ≡ true → answer_to p i k ≡ unchanged (Err refusal.Places) (lane_at p i)
  own_twelve e = answer_own p i k h ∙ among_twelve (others_out p.0 i) (lane_at p i) k (sym met_own ∙ e)

-- ---- a list of calls

-- the commands with their answers, alone
unfoldable pub paired : State → List Found → List (Found × Called)
paired p [] = []
paired p (k ∷ ks) = (k, called p k) ∷ paired (next (called p k)) ks

pub paired_answers : (p : State) (ks : List Found) → answers_of (paired p ks) ≡ alone p ks
unfolding paired alone
paired_answers p [] = refl
paired_answers p (k ∷ ks) = ap (λ (cs : List Called). called p k ∷ cs) (paired_answers (next (called p k)) ks)

-- these are heard from the state p of the lane on, and lead to q
abbrev Leads : State → List (Found × Called) → State → Type 0
Leads p hs q = (hs ≡ paired p (commands_of hs)) × (q ≡ alone_after p (commands_of hs))

pub heard_leads : (j : ℕ) (p : Lanes) (cs : List Sent) → j < antennas → Sized p → Leads (lane_at p j) (heard j p cs) (lane_at (after_all p cs) j)
unfolding heard after_all paired alone_after keep_if
heard_leads j p [] h s = (refl, refl)
heard_leads j p (c ∷ cs) h s = go (heard_leads j q cs h (after_sized p i k s)) (eqb i j) (met12 a.0.reply) refl refl
  where
    i : ℕ
    i = c.0

    k : Found
    k = c.1

    a : Called
    a = answer_to p i k

    q : Lanes
    q = after_call p i k

    rest : List (Found × Called)
    rest = heard j q cs

    last : State
    last = lane_at (after_all q cs) j

    Goal : Bool → Type 0
    Goal b = Leads (lane_at p j) (keep_if b (k, a) rest) last

    there : i ≡ j → i < antennas
    there e = subst (λ (n : ℕ). n < antennas) (sym e) h

    -- the lane after a call of its own
    own : (e : i ≡ j) → lane_at q j ≡ next a
    own e = ap (λ (n : ℕ). lane_at q n) (sym e) ∙ after_lane p i k (there e) s

    left : lane_at q j ≡ lane_at p j → Leads (lane_at q j) rest last → Goal false
    left e r = subst (λ (z : State). Leads z rest last) e r

    go : Leads (lane_at q j) rest last → (b n : Bool) → eqb i j ≡ b → met12 a.0.reply ≡ n → Goal (b && not n)
    go r false n e m = left (after_other p i j k (eqb-false i j e)) r
    go r true true e m =
        let is : i ≡ j = eqb-true i j e in
        left (own is ∙ ap next (own_twelve p i k (there is) m) ∙ ap (λ (n : ℕ). lane_at p n) is) r
    go r true false e m =
        let is : i ≡ j = eqb-true i j e in
        let same : a ≡ called (lane_at p j) k = own_alone p i k (there is) m ∙ ap (λ (n : ℕ). called (lane_at p n) k) is in
        let t = subst (λ (z : State). Leads z rest last) (own is ∙ ap next same) r in
        (ap (λ (x : Called). (k, x) ∷ rest) same ∙ ap (λ (xs : List (Found × Called)). (k, called (lane_at p j) k) ∷ xs) t.0, t.1)

pub as_alone : AsAlone
unfolding AsAlone
as_alone j p cs h s = let l = heard_leads j p cs h s in (ap answers_of l.0 ∙ paired_answers (lane_at p j) (commands_of (heard j p cs)), l.1)

-- ---- what an answer depends on

pub only_their_number : OnlyTheirNumber
unfolding OnlyTheirNumber answer_to
only_their_number p q j k e n =
    ap (λ (z : State). cond (ltb j antennas) (called_among (others_out p.0 j) z k) (unchanged (no_antenna k) z)) e
    ∙ ap (λ (m : ℕ). cond (ltb j antennas) (called_among m (lane_at q j) k) (unchanged (no_antenna k) (lane_at q j))) n

not_begin : (n : ℕ) (p : State) (k : Found) → is_begin_of k ≡ false → called_among n p k ≡ called p k
not_begin n p k h = among_alone n p k (ap (λ (b : Bool). b && (leb places n && late_of (called p k).0.reply)) h)

pub only_letting_in : OnlyLettingIn
unfolding OnlyLettingIn answer_to
only_letting_in p q j k h e =
    ap (λ (c : Called). cond (ltb j antennas) c (unchanged (no_antenna k) (lane_at p j))) (not_begin (others_out p.0 j) (lane_at p j) k h)
    ∙ ap (λ (z : State). cond (ltb j antennas) (called z k) (unchanged (no_antenna k) z)) e
    ∙ ap (λ (c : Called). cond (ltb j antennas) c (unchanged (no_antenna k) (lane_at q j))) (sym (not_begin (others_out q.0 j) (lane_at q j) k h))
