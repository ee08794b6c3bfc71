-- Writers of a `Text`, one after another.
use Prim.Native.Nat.{ℕ, ◌+◌, ◌≤◌}
use mathlib.Core.Path.{◌≡◌, refl, sym, ap, ◌∙◌}
use mathlib.Core.Bool.{Bool, true, cond}
use mathlib.Core.List.{List, [], ◌++◌, append_assoc}
use native.Mathlib.Omega.{arith}
use borrow.Rule.Slice.PartMut.{put_mid}
use lib.ListN.{length, take, drop}
use lib.Seq.{sets, sets-eq, take_at, drop-drop}
use Rattle.std.specs.Prelude.{Option, Some, None}
use Rattle.lines.specs.declared.Text.{Text}
use Rattle.lines.specs.Line.{put, Put}
use Rattle.lines.specs.Text.{Puts}
use Rattle.lines.proofs.Laws as laws

-- a text, and then another after it
pub then : {w v : List ℕ} {m n : ℕ} {s t u : Text} → Puts w m s t → Puts v n t u → Puts (w ++ v) (m + n) s u
then p q = record { same = q.same ∙ p.same; long = q.long ∙ p.long; put = laws.then p.put q.put }

-- a text that equals another
pub same : {w v : List ℕ} {m : ℕ} {s t : Text} → w ≡ v → Puts w m s t → Puts v m s t
same e p = record { same = p.same; long = p.long; put = laws.same e p.put }

pub within : {w : List ℕ} {m : ℕ} {s t : Text} (n : ℕ) → m ≤ n → Puts w m s t → Puts w n s t
within n h p = record { same = p.same; long = p.long; put = laws.within n h p.put }

pub none : (t : Text) (m : ℕ) → Puts [] m t t
none t m = record { same = refl; long = refl; put = laws.put_none t.bytes.now t.at m }

-- what a copy of the whole of w at a place leaves
pub copied : {s v w : List ℕ} {at k : ℕ} → v ≡ w → k ≡ length w → at + length w ≤ length s → Put w (length w) at s (at + length w) (put_mid at k s v)
unfolding put
copied {s} {v} {w} {at} {k} p e h =
    record { text = ap (λ (t : List ℕ). (at + length w, t)) (rw (sets-eq w s at h) (simp (p, e, drop-drop, append_assoc))); near = omega arith }

-- a text that was put into a lent buffer, where there was room
pub written_in : {w x y : List ℕ} {m at : ℕ} {s t : Text} (b : Bool) → b ≡ true → s.at ≡ at → s.bytes.now ≡ x → Puts w m s t → t.bytes.now ≡ y
    → ◌≡◌ {A = Option ℕ × List ℕ} (Some t.at, y) (cond b (Some (at + length w), sets x at w) (None, x))
unfolding put
written_in {w} {x} {y} {m} {at} {s} {t} b q place held p now =
    simp (q, ← place, ← held, ← now, ap (λ (r : ℕ × List ℕ). r.0) p.put.text, ap (λ (r : ℕ × List ℕ). r.1) p.put.text)

-- what a text put at the start of a lent buffer leaves there
pub at_start : {w y : List ℕ} {m : ℕ} {s t : Text} → s.at ≡ 0 → m ≤ length s.bytes.now → Puts w m s t → t.bytes.now ≡ y
    → (t.at ≤ m) × (t.at ≤ length y) × (take t.at y ≡ w)
unfolding put
at_start {w} {y} {m} {s} {t} zero room p now =
    let end : t.at ≡ s.at + length w = ap (λ (r : ℕ × List ℕ). r.0) p.put.text in
    let short : t.at ≤ m = omega (arith, p.put.near) in
    let long : length y ≡ length s.bytes.now = sym (ap length now) ∙ p.long in
    let fits : s.at + length w ≤ length s.bytes.now = omega arith in
    let whole : length w ≡ t.at = omega arith in (
      short,
      omega arith,
      ap (take t.at) (sym now ∙ ap (λ (r : ℕ × List ℕ). r.1) p.put.text ∙ sets-eq w s.bytes.now s.at fits ∙ ap (λ (i : ℕ). take i s.bytes.now ++ w ++ drop (s.at + length w) s.bytes.now) zero)
          ∙ take_at w (drop (s.at + length w) s.bytes.now) t.at whole,
    )
