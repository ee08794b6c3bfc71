-- The larger and the smaller magnitude are those that the definition takes.
use Rattle.std.proofs.Common.{◌≡◌, Bool, false, cond, sym, ap, ◌∙◌}
use Rattle.std.specs.Prelude.{from_bits}
use lib.Ieee.{Float, binary32, div, eq, lt}
use Rattle.ieee.specs.Constants.{zero32}
use Rattle.arith.specs.Leaves.{abs_of}
use Rattle.arith.specs.Angle.{octant, fold, signed, atan2_of}
use Rattle.arith.proofs.angle.atan2_fast.Goals as goal
use Rattle.arith.proofs.angle.atan2_fast.Goals.{Joined-steep, then-steep, else-steep}

abbrev ordered : Float → Float → Float × Float
ordered ax ay = (cond (lt ax ay) ay ax, cond (lt ax ay) ax ay)

is_ordered : (c : Joined-steep) → c.if-steep.large ≡ ordered c.abs-ax.result c.abs-ay.result
is_ordered c =
    let ax = c.abs-ax.result in
    let ay = c.abs-ay.result in
    elim c.if-steep.branch [
      | then-steep w ↦ w.large-is ∙ ap (λ (s : Bool). (cond s ay ax, cond s ax ay)) (sym w.if-steep.true)
      | else-steep w ↦ w.large-is ∙ ap (λ (s : Bool). (cond s ay ax, cond s ax ay)) (sym w.if-steep.false)
    ]

is_angle : (y x ax ay : Float) (p : Float × Float) (o r q : Float) → ax ≡ abs_of x → ay ≡ abs_of y → p ≡ ordered ax ay → eq p.0 zero32 ≡ false
    → o ≡ octant (div binary32 p.1 p.0) → r ≡ fold (lt ax ay) (from_bits binary32 0x3fc9_0fdb) o → q ≡ fold (lt x zero32) (from_bits binary32 0x4049_0fdb) r
    → signed (lt y zero32) q ≡ atan2_of y x
unfolding atan2_of
is_angle y x ax ay p o r q a b l z eo er eq' =
    rw (eq', er, eo, l)
    (simp (← a, ← b, sym (ap (λ (p : Float × Float). eq p.0 zero32) l) ∙ z))

pub returns-then-y : goal.returns-then-y
returns-then-y c =
    ap (λ (b : Bool). signed b c.fold-r-2.result) (sym c.if-y.true)
    ∙ is_angle c.args.y c.args.x c.abs-ax.result c.abs-ay.result c.if-steep.large c.octant_of.result c.fold-r.result c.fold-r-2.result
    c.abs-ax.ensures c.abs-ay.ensures (is_ordered c.before.before.before.before.before) c.if-large.false c.octant_of.ensures c.fold-r.ensures c.fold-r-2.ensures

pub returns-else-y : goal.returns-else-y
returns-else-y c =
    ap (λ (b : Bool). signed b c.fold-r-2.result) (sym c.if-y.false)
    ∙ is_angle c.args.y c.args.x c.abs-ax.result c.abs-ay.result c.if-steep.large c.octant_of.result c.fold-r.result c.fold-r-2.result
    c.abs-ax.ensures c.abs-ay.ensures (is_ordered c.before.before.before.before.before) c.if-large.false c.octant_of.ensures c.fold-r.ensures c.fold-r-2.ensures

pub returns-then-large : goal.returns-then-large
unfolding atan2_of
returns-then-large c =
    simp (← c.abs-ax.ensures, ← c.abs-ay.ensures, sym (ap (λ (p : Float × Float). eq p.0 zero32) (is_ordered c.before)) ∙ c.if-large.true)
