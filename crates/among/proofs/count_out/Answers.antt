use Rattle.std.proofs.Common.{◌∙◌, arith, rules, tests}
use Rattle.std.proofs.lemmas.Iterator.{YieldsList-from_slice, YieldsList-from_map}
use Rattle.std.proofs.lemmas.Iterator.Consumers.{sum_by_from_yields_List, fits_by_from_yields_list}
use Rattle.among.specs.Among.{out_of}
use Rattle.among.proofs.Laws.{counted, outs_most, outs_sum}
use Rattle.among.proofs.count_out.Goals as goal

pub sum-requires-clause-fits : goal.sum-requires-clause-fits
sum-requires-clause-fits c = fits_by_from_yields_list out_of c.args.lanes.now c.map.result _ (YieldsList-from_map _ out_of (YieldsList-from_slice c.args.lanes.now cc) c.map.ensures.closure (λ x r q k. search (rules, tests, counted))) (omega (arith, outs_sum c.args.lanes.now 0, outs_most c.args.lanes.now, c.told-lanes))

pub returns : goal.returns
returns c = sum_by_from_yields_List out_of c.args.lanes.now c.map.result _ c.sum.ensures.ran (YieldsList-from_map _ out_of (YieldsList-from_slice c.args.lanes.now cc) c.map.ensures.closure (λ x r q k. search (rules, tests, counted))) ∙ outs_sum c.args.lanes.now 0 ∙ (omega arith)
