-- What is said of commands that were taken (`Passed`), of one and of several.
use Prim.Native.Nat.{ℕ, ◌+◌, ◌<◌, ◌≤◌}
use mathlib.Core.Bool.{Bool, true, false, cond}
use mathlib.Core.Path.{◌≡◌, refl, ap, sym, ◌∙◌, subst}
use mathlib.Core.List.{List, [], ◌++◌, append-nil}
use native.Mathlib.Omega.{arith}
use lib.ListN.{length, take, drop, length-take, length-drop, length-append}
use lib.Seq.{sets, sets-eq, take_at, drop-drop, drop-append-le}
use lib.Dec.{eqb}
use borrow.Author.Tests.{eqb-true, eqb-false, eq-eqb, ne_eqb}
use Rattle.stream.specs.Machine.{Machine, May, Settled, Orderly, printed_of, Turns, more}
use Rattle.stream.specs.Blocks.{Seen, Passed}
use Rattle.stream.proofs.Printed.{unroll}

moved : (used from n : ℕ) → used ≡ from + n → eqb used from ≡ eqb n 0
moved used from n e = go (eqb n 0) refl
  where
    go : (b : Bool) → eqb n 0 ≡ b → eqb used from ≡ b
    go true q = eq-eqb used from (omega (arith, e, eqb-true n 0 q))
    go false q = ne_eqb used from (λ z. eqb-false n 0 q (omega (arith, e, z)))

-- a text stored where there is room, up to its end
pub stored : (x w : List ℕ) (at : ℕ) → at + length w ≤ length x → take (at + length w) (sets x at w) ≡ take at x ++ w
stored x w at h =
    ap (take (at + length w)) (sets-eq w x at h)
    ∙ take_at (take at x ++ w) (drop (at + length w) x) (at + length w) (omega (arith, length-append (take at x) w, length-take at x))

module _ (M : Machine) (O : Orderly M) where
  -- ---- one command
  module _ (p : M.State) (s t : List ℕ) (from : ℕ) (inside : from ≤ length s) (seen : Seen M s from t) where
    -- its lines, and those of what is left, are the lines of the whole
    one_line : M.text p (drop from s) ++ cond (eqb (M.size (drop from s)) 0) [] (printed_of M (M.next p (drop from s)) (drop (from + M.size (drop from s)) s ++ t)) ≡ printed_of M p (drop from s ++ t)
    one_line =
        let u : List ℕ = drop from s in
        ap (λ (v : List ℕ). M.text p u ++ cond (eqb (M.size u) 0) [] (printed_of M (M.next p u) v))
        (ap (λ (v : List ℕ). v ++ t) (sym (drop-drop (M.size u) from s)) ∙ sym (drop-append-le (M.size u) u t (O.fits u)))
        ∙ ap (λ (w : List ℕ). w ++ cond (eqb (M.size u) 0) [] (printed_of M (M.next p u) (drop (M.size u) (u ++ t)))) (sym (seen.text_same p))
        ∙ ap (λ (q : M.State). M.text p (u ++ t) ++ cond (eqb (M.size u) 0) [] (printed_of M q (drop (M.size u) (u ++ t)))) (sym (seen.next_same p))
        ∙ ap (λ (n : ℕ). M.text p (u ++ t) ++ cond (eqb n 0) [] (printed_of M (M.next p (u ++ t)) (drop n (u ++ t)))) (sym seen.size_same)
        ∙ sym (unroll M O p (u ++ t))

    one_turn : (o : M.State) → (M.size (drop from s) ≡ 0 → ⊥) → Turns M o (s ++ t) from p → Turns M o (s ++ t) (from + M.size (drop from s)) (M.next p (drop from s))
    one_turn o some h =
        let e : drop from (s ++ t) ≡ drop from s ++ t = drop-append-le from s t inside in
        let size : M.size (drop from s) ≡ M.size (drop from (s ++ t)) = sym (ap M.size e ∙ seen.size_same) in
        more h (λ z. some (size ∙ z)) (ap (λ (n : ℕ). from + n) size) (sym (ap (M.next p) e ∙ seen.next_same p))

  -- the one command at a place, by itself
  pub passed_one : (p : M.State) (s : List ℕ) (from used : ℕ) (w : List ℕ) (q : M.State) → from ≤ length s
      → used ≡ from + M.size (drop from s) → w ≡ M.text p (drop from s) → q ≡ M.next p (drop from s) → Passed M p s from used w q
  passed_one p s from used w q inside is_used is_w is_q =
      record {
        onward = omega (arith, is_used);
        inside = omega (arith, is_used, O.fits (drop from s), length-drop from s);
        left = λ o t seen some h. subst (λ (n : ℕ). Turns M o (s ++ t) n q) (sym is_used) (subst (Turns M o (s ++ t) (from + M.size (drop from s))) (sym is_q) (one_turn p s t from inside seen o (λ z. some (omega (arith, is_used, z))) h));
        ended = λ z. let none : M.size (drop from s) ≡ 0 = omega (arith, is_used, z) in (none, is_q ∙ O.stays p (drop from s) none);
        same = λ t seen. again t seen;
      }
    where
      again : (t : List ℕ) → Seen M s from t → w ++ cond (eqb used from) [] (printed_of M q (drop used s ++ t)) ≡ printed_of M p (drop from s ++ t)
      again t seen =
          ap (λ (b : Bool). w ++ cond b [] (printed_of M q (drop used s ++ t))) (moved used from (M.size (drop from s)) is_used)
          ∙ ap (λ (n : ℕ). w ++ cond (eqb (M.size (drop from s)) 0) [] (printed_of M q (drop n s ++ t))) is_used
          ∙ ap (λ (v : List ℕ). v ++ cond (eqb (M.size (drop from s)) 0) [] (printed_of M q (drop (from + M.size (drop from s)) s ++ t))) is_w
          ∙ ap (λ (o : M.State). M.text p (drop from s) ++ cond (eqb (M.size (drop from s)) 0) [] (printed_of M o (drop (from + M.size (drop from s)) s ++ t))) is_q
          ∙ one_line p s t from inside seen

  -- after commands of which none printed, further ones
  pub passed_then : (p : M.State) (s : List ℕ) (from used : ℕ) (v : List ℕ) (q : M.State) (end : ℕ) (w : List ℕ) (n : M.State)
      → Passed M p s from used v q → v ≡ [] → from < used → ((t : List ℕ) → Seen M s used t) → used < end → Passed M q s used end w n → Passed M p s from end w n
  passed_then p s from used v q end w n h quiet up sees on g =
      record {
        onward = omega arith;
        inside = g.inside;
        left = λ o t seen stays k. g.left o t (sees t) (λ e. omega (arith, e)) (h.left o t seen (λ e. omega (arith, e)) k);
        ended = λ e. absurd (omega (arith, e));
        same = λ t seen. again t seen;
      }
    where
      again : (t : List ℕ) → Seen M s from t → w ++ cond (eqb end from) [] (printed_of M n (drop end s ++ t)) ≡ printed_of M p (drop from s ++ t)
      again t seen =
          ap (λ (b : Bool). w ++ cond b [] (printed_of M n (drop end s ++ t))) (ne_eqb end from (λ e. omega (arith, e)) ∙ sym (ne_eqb end used (λ e. omega (arith, e))))
          ∙ g.same t (sees t)
          ∙ sym (ap (λ (x : List ℕ). x ++ cond (eqb used from) [] (printed_of M q (drop used s ++ t))) quiet ∙ ap (λ (b : Bool). cond b [] (printed_of M q (drop used s ++ t))) (ne_eqb used from (λ e. omega (arith, e))))
          ∙ h.same t seen

  -- where a byte is, a command is there
  pub some_left : (s : List ℕ) (from : ℕ) → from < length s → M.waits true (drop from s) ≡ false
  some_left s from inside = go (M.waits true (drop from s)) refl
    where
      go : (b : Bool) → M.waits true (drop from s) ≡ b → b ≡ false
      go true q = absurd (omega (arith, ap length (O.all_used (drop from s) q), length-drop from s))
      go false q = refl

-- ---- what comes after a command

-- a command is the same whatever comes after it, where no byte will come, and else where one that is not waited for is
pub settles : (M : Machine) → ((s t : List ℕ) → M.waits false s ≡ false → Settled M s t) → (last : Bool) (s t : List ℕ) → May last t → M.waits last s ≡ false → Settled M s t
settles M whole true s t may w =
    subst (Settled M s) (sym (may refl))
    (record { size_same = ap M.size (append-nil s); next_same = λ p. ap (M.next p) (append-nil s); text_same = λ p. ap (M.text p) (append-nil s) })
settles M whole false s t may w = whole s t w
