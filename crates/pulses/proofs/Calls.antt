-- The lane beside the yardstick: they agree call by call, so over a list the lane's trains are the yardstick's.
use mathlib.Core.Path.{◌≡◌, refl, sym, ap, ◌∙◌, subst}
use mathlib.Core.Bool.{Bool, true, false, cond}
use mathlib.Core.List.{List, [], ◌∷◌, ◌++◌}
use Prim.Native.Nat.{ℕ}
use lib.Ieee.{Float}
use Rattle.lane.specs.declared.Lane.{Lane}
use Rattle.lane.specs.declared.Answer.{Answer}
use Rattle.lane.specs.declared.BeginArgs.{BeginArgs}
use Rattle.lane.specs.declared.StepArgs.{StepArgs}
use Rattle.lane.specs.Begin.{cleared_of, lead_lane}
use Rattle.lane.specs.Serial.{stamp_of, stamped}
use Rattle.lane.specs.Step.{stay, opened, begun, stepped, closed}
use Rattle.pulses.specs.Runs.{Sample}
use Rattle.pulses.specs.Yardstick.{as_left, other, lent, Call, opening, begin, step, close, Given, Yardstick, refusal, accepts, step_samples, step_phases, step_of, closing_of, fetched, answered_by, advanced, ends, lent_well, handed_on}
use Rattle.pulses.specs.Demand.{returned_by, the_lane, Place, after, after_all, bursts}
use Rattle.pulses.specs.Auto.{EachWhere, NoneYetWhere}
use Rattle.shared.proofs.Tests.{clash, both_true}
use Rattle.pulses.proofs.Measure.{ListedAt, Good, Fine, call_fine, good, none_yet}
use Rattle.pulses.proofs.BurstEnd.{given_none}
use Rattle.pulses.proofs.Accepted.{open_accepted, open_refused, begin_accepted, begin_refused, step_accepted, step_refused, close_accepted, close_refused}

pub record Same (k : Place the_lane) : Type 0 where
  pub lane : k.lane ≡ k.yard.lane
  pub ook : k.ook ≡ k.yard.ook
  pub trains : k.trains ≡ k.yard.trains

module _ (k : Place the_lane) (S : Same k) where
  abbrev y : Yardstick
  y = k.yard

  begin_same : (b : BeginArgs) (ook fsk : List ℕ) → accepts y (begin b ook fsk) ≡ true → Same (after the_lane true k (begin b ook fsk))
  unfolding after advanced returned_by refusal stamp_of lead_lane cleared_of
  begin_same b ook fsk q = rw e (record { lane = refl; ook = refl; trains = given_none _ _ refl })
    where
      e : begun k.lane b ook fsk ≡ stamped y.lane (stay (lead_lane y.lane b))
      e = ap (λ (l : Lane). begun l b ook fsk) S.lane ∙ begin_accepted y.lane b ook fsk q

  -- a step or a close: the lane answers q and the yardstick r
  answer_same : (q r : Answer × List ℕ × List ℕ) (xs : List (Sample Float)) (ns : List ℕ) → q ≡ r
      → Same (record { lane = q.0.lane; ook = q.1; trains = k.trains ++ fetched q; yard = answered_by y r xs ns })
  answer_same q r xs ns e = record {
    lane = ap (λ (a : Answer × List ℕ × List ℕ). a.0.lane) e;
    ook = ap (λ (a : Answer × List ℕ × List ℕ). a.1) e;
    trains = ap (λ (a : Answer × List ℕ × List ℕ). k.trains ++ fetched a) e ∙ ap (λ (ts : List Given). ts ++ fetched r) S.trains;
  }

  pub step_answers : (s : StepArgs) (fsk : List ℕ) → accepts y (step s as_left fsk) ≡ true → stepped k.lane s k.ook fsk ≡ step_of y s fsk
  unfolding refusal lent
  step_answers s fsk q = ap (λ (l : Lane). stepped l s k.ook fsk) S.lane ∙ ap (λ (o : List ℕ). stepped y.lane s o fsk) S.ook ∙ step_accepted y.lane s y.ook fsk q

  step_same : (s : StepArgs) (fsk : List ℕ) → accepts y (step s as_left fsk) ≡ true → Same (after the_lane true k (step s as_left fsk))
  unfolding after advanced returned_by lent
  step_same s fsk q = answer_same (stepped k.lane s k.ook fsk) (step_of y s fsk) (y.recorded ++ step_samples y.lane s y.ook fsk) (y.phases ++ step_phases y.lane s y.ook fsk) (step_answers s fsk q)

  close_same : (fsk : List ℕ) → accepts y (close as_left fsk) ≡ true → Same (after the_lane true k (close as_left fsk))
  unfolding after advanced returned_by refusal lent
  close_same fsk q = answer_same (closed k.lane k.ook fsk) (closing_of y fsk) y.recorded y.phases e
    where
      e : closed k.lane k.ook fsk ≡ closing_of y fsk
      e = ap (λ (l : Lane). closed l k.ook fsk) S.lane ∙ ap (λ (o : List ℕ). closed y.lane o fsk) S.ook ∙ close_accepted y.lane y.ook fsk q

  pub after_same : (c : Call) (a : Bool) → accepts y c ≡ a → lent_well a c ≡ true → Same (after the_lane a k c)
  unfolding after advanced returned_by refusal lent_well
  after_same (opening p) true q h = record { lane = ap (λ (l : Lane). (opened l p).lane) S.lane ∙ ap (λ (a : Answer). a.lane) (open_accepted y.lane p q); ook = S.ook; trains = refl }
  after_same (opening p) false q h = record { lane = ap (λ (l : Lane). (opened l p).lane) S.lane ∙ open_refused y.lane p q; ook = S.ook; trains = S.trains }
  after_same (begin b ook fsk) true q h = begin_same b ook fsk q
  after_same (begin b ook fsk) false q h =
      record { lane = ap (λ (l : Lane). (begun l b ook fsk).lane) S.lane ∙ begin_refused y.lane b ook fsk q; ook = S.ook; trains = S.trains }
  after_same (step s as_left fsk) true q h = step_same s fsk q
  after_same (step s (other o) fsk) true q h = clash (sym h)
  after_same (step s o fsk) false q h =
      record {
        lane =
            ap (λ (l : Lane). (stepped l s (lent o k.ook) fsk).0.lane) S.lane
            ∙ ap (λ (b : List ℕ). (stepped y.lane s (lent o b) fsk).0.lane) S.ook
            ∙ step_refused y.lane s (lent o y.ook) fsk q;
        ook = S.ook;
        trains = S.trains;
      }
  after_same (close as_left fsk) true q h = close_same fsk q
  after_same (close (other o) fsk) true q h = clash (sym h)
  after_same (close o fsk) false q h =
      record {
        lane =
            ap (λ (l : Lane). (closed l (lent o k.ook) fsk).0.lane) S.lane
            ∙ ap (λ (b : List ℕ). (closed y.lane (lent o b) fsk).0.lane) S.ook
            ∙ close_refused y.lane (lent o y.ook) fsk q;
        ook = S.ook;
        trains = S.trains;
      }

pub yard_after : (k : Place the_lane) (c : Call) (a : Bool) → (after the_lane a k c).yard ≡ advanced a k.yard c
unfolding after
yard_after k (opening p) a = refl
yard_after k (begin b ook fsk) a = refl
yard_after k (step s o fsk) a = refl
yard_after k (close o fsk) a = refl

-- a burst that ends
ended : (k : Place the_lane) (e : Bool) → Same k → Fine k.yard e → EachWhere ListedAt (cond e (k ∷ []) [])
unfolding Fine EachWhere
ended k false S F = tt
ended k true S F = ((λ o. record { gives = rw S.trains (F.1 refl o); numbers = S.trains }), tt)

each_append : (bs cs : List (Place the_lane)) → EachWhere ListedAt bs → EachWhere ListedAt cs → EachWhere ListedAt (bs ++ cs)
unfolding EachWhere
each_append [] cs h k = k
each_append (b ∷ bs) cs h k = (h.0, each_append bs cs h.1 k)

-- from any place of a list on
pub from : (cs : List Call) (k : Place the_lane) → Good k.yard → Same k → handed_on k.yard cs ≡ true
    → EachWhere ListedAt (bursts the_lane k cs) × NoneYetWhere ListedAt (after_all the_lane k cs)
unfolding handed_on bursts after_all EachWhere
from [] k G S H = (tt, λ h o. S.trains ∙ none_yet k.yard G h o)
from (c ∷ cs) k G S H =
    let a : Bool = accepts k.yard c in
    let e : Bool = ends a k.yard c in
    let k' : Place the_lane = after the_lane a k c in
    let H' = both_true (lent_well a c) (handed_on (advanced a k.yard c) cs) H in
    let S' : Same k' = after_same k S c a refl H'.0 in
    let F : Fine k'.yard e = subst (λ (y : Yardstick). Fine y e) (sym (yard_after k c a)) (call_fine k.yard c a refl G) in
    let rest = from cs k' (good k'.yard e F) S' (subst (λ (y : Yardstick). handed_on y cs ≡ true) (sym (yard_after k c a)) H'.1) in
    (each_append (cond e (k' ∷ []) []) (bursts the_lane k' cs) (ended k' e S' F) rest.0, rest.1)
