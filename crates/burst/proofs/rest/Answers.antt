-- The code takes presence first, in OOK mode none, and then the end of the burst in one place; the
-- definition has the end twice, in OOK mode and after presence: `rest_beside`, by the mode.
use Rattle.std.proofs.Common.{◌≡◌, ℕ, Bool, true, false, cond, eqb, List, refl}
use lib.Ieee.{Float}
use borrow.Author.Tests.{not-true, not-false}
use Rattle.shared.specs.Answers.{is_stay_of}
use Rattle.shared.specs.declared.Settings.{Settings}
use Rattle.ook.specs.Types.{Done}
use Rattle.presence.specs.Presence.{presence_of}
use Rattle.envelope.specs.Tail.{tail_of}
use Rattle.envelope.specs.declared.At.{At}
use Rattle.envelope.specs.declared.Seen.{Seen}
use Rattle.burst.specs.Makers.{body_in, done_in}
use Rattle.burst.specs.Sample.{absence_of, inputs_of, last_of, present_of, rest_of}
use Rattle.burst.specs.Lead.{staying}
use Rattle.burst.specs.Core.{beside_by, beside_of}
use Rattle.burst.specs.Types.{Burst}
use Rattle.burst.specs.Types.{Sampled}
use Rattle.burst.proofs.rest.Goals as goal

-- the end of the burst, unless presence has ended it
abbrev last_by : Settings → At → Seen → Sampled × List ℕ × List ℕ → Sampled × List ℕ × List ℕ
last_by p a s q = cond (is_stay_of q.0.next) (last_of p s.on a.e q.0.burst q.1 q.2) q

rest_beside : (p : Settings) (a : At) (ep : Float) (s : Seen) (b : Burst) (ook fsk : List ℕ) → rest_of p a ep s b ook fsk ≡ last_by p a s (beside_of p a ep s b ook fsk)
unfolding rest_of present_of beside_of
rest_beside p a ep s b ook fsk = go (eqb p.mode 0) refl where
  go : (off : Bool) → eqb p.mode 0 ≡ off → cond off (last_of p s.on a.e b ook fsk) (present_of p a ep s b ook fsk) ≡ last_by p a s (cond off (staying b ook fsk) (beside_by b (presence_of p (inputs_of a ep s b) b.pres (body_in b) ook fsk)))
  go true e = refl
  go false e = refl

-- the rest of a sample, from what presence and the end of the burst give
module _ (p : Settings) (a : At) (ep : Float) (s : Seen) (b : Burst) (ook fsk : List ℕ) (w : Sampled) (ook₁ fsk₁ : List ℕ) (stay : Bool) where
  rest_stays : (d : Done) (ook₂ : List ℕ) (r : Sampled) → (w, ook₁, fsk₁) ≡ beside_of p a ep s b ook fsk → stay ≡ is_stay_of w.next → stay ≡ true
      → (d, ook₂) ≡ tail_of p s.on a.e w.burst.env.run (absence_of w.burst) w.burst.high w.burst.train w.burst.out_ook ook₁
      → r ≡ done_in w.burst d → (r, ook₂, fsk₁) ≡ rest_of p a ep s b ook fsk
  unfolding last_of
  rest_stays d ook₂ r e₁ e₂ e₃ e₄ e₅ = simp (rest_beside p a ep s b ook fsk, ← e₁, ← e₂, e₃, ← e₄, e₅)

  rest_ends : (w, ook₁, fsk₁) ≡ beside_of p a ep s b ook fsk → stay ≡ is_stay_of w.next → stay ≡ false → (w, ook₁, fsk₁) ≡ rest_of p a ep s b ook fsk
  rest_ends e₁ e₂ e₃ = simp (rest_beside p a ep s b ook fsk, ← e₁, ← e₂, e₃)

pub returns-then-not-is_stay : goal.returns-then-not-is_stay
returns-then-not-is_stay c = rest_ends _ _ _ _ _ _ _ _ _ _ _ c.present-w.ensures c.is_stay.ensures (not-true _ c.if-not-is_stay.true-raw)

pub returns : goal.returns
returns c = rest_stays _ _ _ _ _ _ _ _ _ _ _ _ _ _ c.present-w.ensures c.is_stay.ensures (not-false _ c.if-not-is_stay.false-raw) c.tail-d.ensures (c.with_done.ensures _)
