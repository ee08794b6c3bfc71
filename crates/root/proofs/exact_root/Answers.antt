-- A positive number's pattern is that of a * 2 ^ k of 4 ^ -75 (`Reading` of `RootSteps.antt`).
use mathlib.Core.Path.{sym, ap, ◌∙◌}
use Prim.Native.Nat.{◌<◌}
use Rattle.ieee.proofs.Nan.{told}
use lib.Ieee.{binary32, to_bits}
use lib.Ieee.Bits.{of_bits-to_bits}
use Rattle.root.specs.Root.{exact_of, scaled}
use Rattle.root.proofs.RootSteps.{positive_bits, positive_plain, read_low, read_high, read_scaled}
use Rattle.root.proofs.exact_root.Goals as goal
use Rattle.root.proofs.exact_root.Goals.{Start}

in_range : (c : Start) → (0 < to_bits binary32 c.args.x) × (to_bits binary32 c.args.x < 2139095040)
in_range c = positive_bits c.args.x (told c.well_formed.0.1) c.requires

pub float_to_bits-b : goal.float_to_bits-b
float_to_bits-b c = positive_plain c.args.x c.requires

pub exact_of-requires : goal.exact_of-requires
exact_of-requires c =
    let r = read_low (to_bits binary32 c.args.x) (in_range c.before).0 c.if-f-eq0.true in
    (r.some, r.short, r.small)

pub exact_of-requires-else-f-eq0 : goal.exact_of-requires-else-f-eq0
exact_of-requires-else-f-eq0 c =
    let r = read_high (to_bits binary32 c.args.x) c.if-f-eq0.false (in_range c.before).1 in
    (r.some, r.short, r.small)

pub returns-then-f-eq0 : goal.returns-then-f-eq0
returns-then-f-eq0 c =
    let x = c.args.x in
    c.exact_of.ensures ∙ ap exact_of (sym (read_scaled (read_low (to_bits binary32 x) (in_range c.before.before).0 c.if-f-eq0.true)) ∙ ap scaled (of_bits-to_bits binary32 x (told c.well_formed.0.1)))

pub returns-else-f-eq0 : goal.returns-else-f-eq0
returns-else-f-eq0 c =
    let x = c.args.x in
    c.exact_of-else-f-eq0.ensures ∙ ap exact_of (sym (read_scaled (read_high (to_bits binary32 x) c.if-f-eq0.false (in_range c.before.before).1)) ∙ ap scaled (of_bits-to_bits binary32 x (told c.well_formed.0.1)))
