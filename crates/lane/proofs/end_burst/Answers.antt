-- The train ends from a cleared record, and its record takes that one's place.
use Prim.Native.Nat.{ℕ}
use mathlib.Core.Path.{◌≡◌, ap, ◌∙◌}
use mathlib.Core.List.{List}
use Rattle.shared.specs.Core.{whole_out, numbered}
use Rattle.ook.specs.Core.{whole_ended}
use Rattle.ook.specs.Train.{end_train_of}
use Rattle.ook.specs.Types.{Ended}
use Rattle.ook.specs.Types.{EndedCore}
use Rattle.shared.specs.declared.Out.{Out}
use Rattle.shared.specs.declared.OutCore.{OutCore}
use Rattle.burst.specs.Makers.{with_train, with_serials}
use Rattle.burst.specs.Types.{Burst}
use Rattle.lane.specs.Begin.{cleared_of}
use Rattle.lane.specs.Close.{ended_by, end_burst_of}
use Rattle.lane.specs.Idle.{no_out}
use Rattle.lane.proofs.end_burst.Goals as goal

end_is : (b n : Burst) (serial : ℕ) (none : OutCore) (e : EndedCore) (out : Out) (ook ook' : List ℕ) → whole_out none ≡ no_out
    → (whole_ended e, ook') ≡ end_train_of b.train b.high (whole_out none) ook → out ≡ numbered serial (whole_out e.out) → n ≡ with_serials serial serial (cleared_of b)
    → ◌≡◌ {A = Burst × List ℕ} (with_train e.train out n, ook') (with_serials serial serial (end_burst_of b ook).0, (end_burst_of b ook).1)
unfolding end_burst_of
end_is b n serial none e out ook ook' is_none ends is-out is-n =
    ap (λ (x : Out). (with_train e.train x n, ook')) is-out
    ∙ ap (λ (x : Burst). (with_train e.train (numbered serial (whole_out e.out)) x, ook')) is-n
    ∙ ap (λ (q : Ended × List ℕ). (with_serials serial serial (ended_by b q).0, (ended_by b q).1)) (ends ∙ ap (λ (o : Out). end_train_of b.train b.high o ook) is_none)

pub returns : goal.returns
returns c = end_is _ _ _ _ c.end_train-e.result _ _ _ c.no_core_out.ensures c.end_train-e.ensures c.whole_out.ensures c.clear_records.ensures
