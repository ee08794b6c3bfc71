-- Block after block, with the tail carried over, prints the lines of the unbroken stream: a command that is not waited for is decoded from a
-- part as from the whole, and more turns than bytes change nothing.
use Prim.Native.Nat.{ℕ, zero, suc, ◌<◌}
use mathlib.Core.Bool.{Bool, true, false, cond}
use mathlib.Core.Path.{◌≡◌, refl, sym, ◌∙◌, ap}
use mathlib.Core.Logic.{inl, inr}
use mathlib.Core.List.{List, [], ◌++◌, append-nil, append_assoc}
use native.Mathlib.Omega.{arith}
use native.Mathlib.Nat.{not-suc-le-zero}
use lib.ListN.{length, take, drop, length-drop}
use lib.Dec.{eqb}
use borrow.Author.Tests.{eqb-false, eq-eqb}
use Rattle.stream.specs.Machine.{Machine, May, Orderly, listed, printed_of}
use Rattle.stream.specs.Blocks.{is_over, Blocks, none, more, Over}

onward : (b : Bool) (x y : List ℕ) → (b ≡ false → x ≡ y) → cond b [] x ≡ cond b [] y
onward true x y h = refl
onward false x y h = h refl

module _ (M : Machine) (O : Orderly M) where
  shorter : (s : List ℕ) → (M.size s ≡ 0 → ⊥) → length (drop (M.size s) s) < length s
  shorter s n = omega (arith, length-drop (M.size s) s, O.fits s)

  -- more turns than bytes change nothing
  fuel : (n m : ℕ) (p : M.State) (s : List ℕ) → length s < n → length s < m → listed M n p s ≡ listed M m p s
  unfolding listed
  fuel zero m p s h g = absurd (not-suc-le-zero h)
  fuel (suc n) zero p s h g = absurd (not-suc-le-zero g)
  fuel (suc n) (suc m) p s h g =
      ap (λ (r : List ℕ). M.text p s ++ r)
      (onward (eqb (M.size s) 0) _ _ (λ q. fuel n m (M.next p s) (drop (M.size s) s) (omega (arith, shorter s (eqb-false _ _ q))) (omega (arith, shorter s (eqb-false _ _ q)))))

  pub unroll : (p : M.State) (s : List ℕ) → printed_of M p s ≡ M.text p s ++ cond (eqb (M.size s) 0) [] (printed_of M (M.next p s) (drop (M.size s) s))
  unfolding printed_of listed
  unroll p s =
      ap (λ (r : List ℕ). M.text p s ++ r)
      (onward (eqb (M.size s) 0) _ _ (λ q. fuel (length s) (suc (length (drop (M.size s) s))) (M.next p s) (drop (M.size s) s) (shorter s (eqb-false _ _ q)) (omega arith)))

  nothing : (p : M.State) → printed_of M p [] ≡ []
  nothing p =
      let none : M.size [] ≡ 0 = omega (arith, O.fits []) in
      unroll p [] ∙ ap (λ (w : List ℕ). w ++ cond (eqb (M.size []) 0) [] (printed_of M (M.next p []) (drop (M.size []) []))) (O.none_printed p)
      ∙ ap (λ (b : Bool). cond b [] (printed_of M (M.next p []) (drop (M.size []) []))) (eq-eqb (M.size []) 0 none)

  -- nothing comes after the last byte: neither now nor later
  may_both : (last end : Bool) (c t : List ℕ) → May last c → (last ≡ true → end ≡ true) → May end t → May last (c ++ t)
  may_both last end c t h g f e = ap (λ (d : List ℕ). d ++ t) (h e) ∙ f (g e)

  -- whatever comes, the lines printed and those of what is left are the lines of the whole
  pub blocks_print : {p q : M.State} {last ended : Bool} {u w v : List ℕ} → Blocks M p last ended u w q v → (t : List ℕ) → May last t
      → w ++ cond ended [] (printed_of M q (v ++ t)) ≡ printed_of M p (u ++ t)
  blocks_print none t may = refl
  blocks_print {p = p} (more {q = q} {o = o} {u = u} {w = w} {v = v} {c = c} {x = x} {y = y} {last = last} {end = end} {r = r} before came on block left) t may =
      append_assoc w (take r.at y) (cond (is_over r.stop) [] (printed_of M o (x ++ t)))
      ∙ ap (λ (z : List ℕ). w ++ (take r.at y ++ cond (is_over r.stop) [] (printed_of M o (z ++ t)))) left
      ∙ ap (λ (z : List ℕ). w ++ z) (block.printed t may ∙ ap (printed_of M q) (append_assoc v c t))
      ∙ blocks_print before (c ++ t) (may_both last end c t came on may)
      ∙ ap (printed_of M p) (sym (append_assoc u c t))

  -- a stream that is over is printed whole, whatever comes after its end
  pub program_prints : {p q : M.State} {last ended : Bool} {u w v : List ℕ} → Blocks M p last ended u w q v → Over last ended v → (t : List ℕ) → May last t → w ≡ printed_of M p (u ++ t)
  program_prints {q = q} {w = w} {v = v} b (inl e) t may =
      sym (append-nil w) ∙ ap (λ (d : Bool). w ++ cond d [] (printed_of M q (v ++ t))) (sym e) ∙ blocks_print b t may
  program_prints {q = q} {ended = ended} {w = w} {v = v} b (inr (e, n)) t may =
      sym (append-nil w) ∙ ap (λ (z : List ℕ). w ++ z) (sym (go ended (ap (λ (z : List ℕ). printed_of M q (z ++ t)) n ∙ ap (printed_of M q) (may e) ∙ nothing q))) ∙ blocks_print b t may
    where
      go : (d : Bool) → printed_of M q (v ++ t) ≡ [] → cond d [] (printed_of M q (v ++ t)) ≡ []
      go true h = refl
      go false h = h
