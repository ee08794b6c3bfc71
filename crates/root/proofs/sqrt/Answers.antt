-- The three steps in a row, and what the first leaves is what the second asks for (`RootSpecial.antt`, `RootSteps.antt`).
use Rattle.std.proofs.Common.{sym, ap, ◌∙◌}
use Rattle.ieee.proofs.Nan.{told}
use Rattle.root.specs.Root.{round_exact_of}
use Rattle.root.proofs.RootSpecial.{special_step, root_answered, root_left}
use Rattle.root.proofs.RootSteps.{exact_range}
use Rattle.root.proofs.sqrt.Goals as goal

pub exact_root-requires : goal.exact_root-requires
exact_root-requires c = special_step.left c.args.x (sym c.special.ensures ∙ c.in-None.is)

pub round_exact-requires : goal.round_exact-requires
round_exact-requires c =
    let x = c.args.x in
    exact_range x (told c.well_formed.0.1) (special_step.left x (sym c.special.ensures ∙ c.in-None.is)) c.exact_root.result c.exact_root.ensures

pub returns-in-Some : goal.returns-in-Some
returns-in-Some c = sym (root_answered c.args.x c.in-Some.root (sym c.special.ensures ∙ c.in-Some.is))

pub returns-in-None : goal.returns-in-None
returns-in-None c =
    let x = c.args.x in
    c.round_exact.ensures ∙ ap round_exact_of c.exact_root.ensures ∙ sym (root_left x (sym c.special.ensures ∙ c.in-None.is))
