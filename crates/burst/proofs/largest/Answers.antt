use Rattle.std.proofs.Common.{sym, ◌∙◌, rules, tests}
use Rattle.std.proofs.lemmas.Iterator.{YieldsList-from_slice}
use Rattle.std.proofs.lemmas.Iterator.Consumers.{fold_from_yields_List}
use Rattle.burst.proofs.LeadLaws.{larger, largest_whole}
use Rattle.burst.proofs.largest.Goals as goal

pub returns : goal.returns
returns c =
    fold_from_yields_List _ larger _ _ c.fold.ensures.ran (YieldsList-from_slice c.args.es.now cc) (λ m x r q k. search (rules, tests)) ∙ sym (largest_whole c.args.es.now)
