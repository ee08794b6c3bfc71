-- By the library's law of `find` over a range.
use Rattle.std.proofs.Common.{◌≡◌, true, false, rules, ◌∙◌, arith}
use Rattle.std.proofs.lemmas.Iterator.{first_from_Range}
use lib.ListN.{get_or}
use lib.Ieee.{nan}
use Rattle.fsk.specs.Resolve.{past_of}
use Rattle.fsk.proofs.Resolve.{found_first}
use Rattle.fsk.proofs.first_past.Goals as goal

pub returns : goal.returns
returns c =
    let up = c.args.first_upper in
    let thr = c.args.thr in
    let cs = c.args.cs.now in
    let d = first_from_Range _ _ _ _ (λ j. past_of up (get_or cs j nan) thr ≡ true) (λ j. past_of up (get_or cs j nan) thr ≡ false) c.find.ensures.ran (λ x q k. search rules) (λ x q k. search rules) in
    c.unwrap_or.ensures ∙ found_first up thr cs c.args.other c.args.n c.find.result d
