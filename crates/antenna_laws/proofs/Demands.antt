-- Demand 3 and R-9 of each antenna: the lone lane's commands are a list of demand 3's calls, and run along with the place of that list. The lane is
-- the same at each call; the OOK buffer is the same while a burst is under way, and while none is, a step or a close is refused whatever it is
-- lent.
use Prim.Native.Nat.{ℕ}
use mathlib.Core.Bool.{Bool, true, false, cond, not}
use mathlib.Core.Path.{◌≡◌, refl, sym, ◌∙◌, ap, subst}
use mathlib.Core.List.{List, [], ◌∷◌, ◌++◌}
use lib.ListN.{length, get_or-replicate}
use lib.Dec.{eqb}
use borrow.Author.Tests.{eqb-true, eqb-false}
use Rattle.std.specs.Prelude.{⊤, Result, Ok, Err, is_ok, is_err}
use Rattle.shared.specs.declared.Settings.{Settings}
use Rattle.refusals.specs.declared.Refusal.{Refusal}
use Rattle.lane.specs.declared.Lane.{Lane}
use Rattle.lane.specs.declared.Answer.{Answer}
use Rattle.lane.specs.declared.BeginArgs.{BeginArgs}
use Rattle.lane.specs.declared.StepArgs.{StepArgs}
use Rattle.lane.specs.Refusals.{open_refusal, begin_refusal, step_refusal, close_refusal}
use Rattle.lane.specs.Idle.{idle_lane}
use Rattle.lane.specs.Serial.{stamp_of}
use Rattle.lane.specs.Step.{new_lane, opened, begun, stepped, closed}
use Rattle.commands.specs.Command.{Found}
use Rattle.commands.specs.declared.Missing.TheVariants as missing
use Rattle.commands.specs.declared.Command.TheVariants.{Open, OpenCarry, Begin, Step, Close}
use Rattle.calls.specs.Turn.{State, Called, called, next}
use Rattle.pulses.specs.Yardstick.{as_left, lent, Call, opening, begin, step, close, Given, fetched, Yardstick, unused, refusal, accepts, advanced, lent_well, handed_on}
use Rattle.pulses.specs.Demand.{the_lane, Place, returned_by, start, after, Demand3}
use Rattle.pulses.specs.Demand as demand
use Rattle.pulses.specs.Auto.{Demand3Where}
use Rattle.pulses.proofs.Accepted.{when_refused, step_tells, close_tells, open_accepted, open_refused, begin_refused}
use Rattle.pulses.proofs.Calls.{Same, after_same}
use Rattle.pulses.proofs.Theorem.{demand_3, auto_pulses}
use Rattle.quiet.specs.Quiet.{QuietEnds, WaitKnown}
use Rattle.quiet.proofs.Theorem.{quiet_ends, wait_known}
use Rattle.among.specs.Among.{antennas, Lanes, lane_at}
use Rattle.antenna_laws.specs.Demands.{call_of, calls_of, calls_at, trains_by, trains_of}
use Rattle.antenna_laws.specs.Calls.{new_lanes, heard, commands_of, alone_after}
use Rattle.antenna_laws.specs.Theorems.{EachAntenna}
use Rattle.antenna_laws.proofs.Answers.{open_refuses, begin_refuses, step_refuses, close_refuses}
use Rattle.antenna_laws.proofs.Four.{new_sized}
use Rattle.antenna_laws.proofs.Alone.{paired, heard_leads}

-- ---- a refused step or close leaves the buffers too

step_kept : (l : Lane) (s : StepArgs) (ook fsk : List ℕ) → is_ok (step_refusal l s (length ook) (length fsk)) ≡ false → next (stepped l s ook fsk) ≡ (l, ook, fsk)
unfolding stepped
step_kept l s ook fsk q = when_refused (λ (a : Called). next a ≡ (l, ook, fsk)) (step_refusal l s (length ook) (length fsk)) _ _ q (λ n. refl)

close_kept : (l : Lane) (ook fsk : List ℕ) → is_ok (close_refusal l (length ook) (length fsk)) ≡ false → next (closed l ook fsk) ≡ (l, ook, fsk)
unfolding closed
close_kept l ook fsk q = when_refused (λ (a : Called). next a ≡ (l, ook, fsk)) (close_refusal l (length ook) (length fsk)) _ _ q (λ n. refl)

not_ok : (k : Result ⊤ Refusal) → (k ≡ Ok tt → ⊥) → is_ok k ≡ false
not_ok (Ok u) h = absurd (h refl)
not_ok (Err n) h = refl

-- ---- the list is handed on

-- a call whose buffer is lent as it was left, accepted or not
well : (c : Call) (cs : List Call) → ((b : Bool) → lent_well b c ≡ true) → ((y : Yardstick) → handed_on y cs ≡ true) → (y : Yardstick) → handed_on y (c ∷ cs) ≡ true
unfolding handed_on
well c cs w h y = rw (w (accepts y c)) (h (advanced (accepts y c) y c))

-- a call that is lent well where it is accepted is so in any case
lent_always : (c : Call) → lent_well true c ≡ true → (b : Bool) → lent_well b c ≡ true
unfolding lent_well
lent_always c h true = h
lent_always c h false = refl

one_handed : (p : State) (k : Found) (cs : List Call) → ((y : Yardstick) → handed_on y cs ≡ true) → (y : Yardstick) → handed_on y (call_of p k ++ cs) ≡ true
unfolding call_of lent_well
one_handed p (Ok (Open s)) cs h = well (opening s) cs (lent_always _ refl) h
one_handed p (Ok (OpenCarry s)) cs h = well (opening s) cs (lent_always _ refl) h
one_handed p (Ok (Begin b)) cs h = well (begin b p.1 p.2) cs (lent_always _ refl) h
one_handed p (Ok (Step s)) cs h = well (step s as_left p.2) cs (lent_always _ refl) h
one_handed p (Ok Close) cs h = well (close as_left p.2) cs (lent_always _ refl) h
one_handed p (Err m) cs h = h

pub handed_on_lem : (p : State) (ks : List Found) (y : Yardstick) → handed_on y (calls_of p ks) ≡ true
unfolding calls_of handed_on
handed_on_lem p [] y = refl
handed_on_lem p (k ∷ ks) y = one_handed p k (calls_of (next (called p k)) ks) (handed_on_lem (next (called p k)) ks) y

-- ---- place and lane run along

-- the place of the list, the lane's state, and the trains of its last burst
record Follows (k : Place the_lane) (p : State) (ts : List Given) : Type 0 where
  same : Same k
  lane : k.lane ≡ p.0
  ook : (p.0.phase ≡ 0 → ⊥) → k.ook ≡ p.1
  trains : k.trains ≡ ts

module _ (k : Place the_lane) (p : State) (ts : List Given) (F : Follows k p ts) where
  yard_lane : k.yard.lane ≡ p.0
  yard_lane = sym F.same.lane ∙ F.lane

  yard_ook : (p.0.phase ≡ 0 → ⊥) → k.yard.ook ≡ p.1
  yard_ook n = sym F.same.ook ∙ F.ook n

  -- after a command that is the call c
  abbrev shows : Found → Bool → List Given
  shows m n = cond n ts (trains_by ts m (called p m))

  Advances : Found → Call → Type 0
  Advances m c = Follows (after the_lane (accepts k.yard c) k c) (next (called p m)) (shows m (is_err (called p m).0.reply))

  joined : (m : Found) (c : Call) (b : Bool) → accepts k.yard c ≡ b → is_err (called p m).0.reply ≡ not b
      → Follows (after the_lane b k c) (next (called p m)) (shows m (not b)) → Advances m c
  unfolding Advances
  joined m c b a r f =
      subst (λ (n : Bool). Follows (after the_lane (accepts k.yard c) k c) (next (called p m)) (shows m n)) (sym r)
      (subst (λ (d : Bool). Follows (after the_lane d k c) (next (called p m)) (shows m (not b))) (sym a) f)

  -- a refused call leaves all as it was
  refused : (k' : Place the_lane) (q : State) → Same k' → k'.lane ≡ k.lane → k'.ook ≡ k.ook → k'.trains ≡ k.trains → q ≡ p → Follows k' q ts
  refused k' q S l o t e = subst (λ (z : State). Follows k' z ts) (sym e) (record { same = S; lane = l ∙ F.lane; ook = λ n. o ∙ F.ook n; trains = t ∙ F.trains })

  open_advances : (s : Settings) → Advances (Ok (Open s)) (opening s)
  unfolding after refusal called lent_well stamp_of idle_lane
  open_advances s = go (is_ok (open_refusal p.0 s)) refl
    where
      yard : (b : Bool) → is_ok (open_refusal p.0 s) ≡ b → accepts k.yard (opening s) ≡ b
      yard b q = ap (λ (l : Lane). is_ok (open_refusal l s)) yard_lane ∙ q

      rests : is_ok (open_refusal p.0 s) ≡ true → (opened p.0 s).lane.phase ≡ 0
      rests q = ap (λ (a : Answer). a.lane.phase) (open_accepted p.0 s q)

      go : (b : Bool) → is_ok (open_refusal p.0 s) ≡ b → Advances (Ok (Open s)) (opening s)
      go true q =
          joined (Ok (Open s)) (opening s) true (yard true q) (open_refuses p.0 s ∙ ap not q)
          (record { same = after_same k F.same (opening s) true (yard true q) refl; lane = ap (λ (l : Lane). (opened l s).lane) F.lane; ook = λ n. absurd (n (rests q)); trains = refl })
      go false q =
          joined (Ok (Open s)) (opening s) false (yard false q) (open_refuses p.0 s ∙ ap not q)
          (refused (after the_lane false k (opening s)) (next (called p (Ok (Open s)))) (after_same k F.same (opening s) false (yard false q) refl)
          (open_refused k.lane s (ap (λ (l : Lane). is_ok (open_refusal l s)) F.lane ∙ q)) refl refl (ap (λ (l : Lane). (l, p.1, p.2)) (open_refused p.0 s q)))

  carry_advances : (s : Settings) → Advances (Ok (OpenCarry s)) (opening s)
  unfolding Advances called
  carry_advances s = open_advances s

  begin_advances : (b : BeginArgs) → Advances (Ok (Begin b)) (begin b p.1 p.2)
  unfolding after refusal called lent_well returned_by
  begin_advances b = go (is_ok (begin_refusal p.0 b (length p.1) (length p.2))) refl
    where
      c : Call
      c = begin b p.1 p.2

      as_here : (l : Lane) (d : Bool) → l ≡ p.0 → is_ok (begin_refusal p.0 b (length p.1) (length p.2)) ≡ d → is_ok (begin_refusal l b (length p.1) (length p.2)) ≡ d
      as_here l d e q = ap (λ (x : Lane). is_ok (begin_refusal x b (length p.1) (length p.2))) e ∙ q

      go : (d : Bool) → is_ok (begin_refusal p.0 b (length p.1) (length p.2)) ≡ d → Advances (Ok (Begin b)) c
      go true q =
          joined (Ok (Begin b)) c true (as_here k.yard.lane true yard_lane q) (begin_refuses p.0 b p.1 p.2 ∙ ap not q)
          (record {
            same = after_same k F.same c true (as_here k.yard.lane true yard_lane q) refl;
            lane = ap (λ (l : Lane). (begun l b p.1 p.2).lane) F.lane;
            ook = λ n. refl;
            trains = ap (λ (l : Lane). fetched (begun l b p.1 p.2, p.1, p.2)) F.lane;
          })
      go false q =
          joined (Ok (Begin b)) c false (as_here k.yard.lane false yard_lane q) (begin_refuses p.0 b p.1 p.2 ∙ ap not q)
          (refused (after the_lane false k c) (next (called p (Ok (Begin b)))) (after_same k F.same c false (as_here k.yard.lane false yard_lane q) refl)
          (begin_refused k.lane b p.1 p.2 (as_here k.lane false F.lane q)) refl refl (ap (λ (l : Lane). (l, p.1, p.2)) (begin_refused p.0 b p.1 p.2 q)))

  -- the place after a step or a close whose answer is r
  abbrev placed : Bool → Call → Called → Place the_lane
  placed a c r = record { lane = r.0.lane; ook = cond a r.1 k.ook; trains = cond a (k.trains ++ fetched r) k.trains; yard = advanced a k.yard c }

  -- a step or a close: `run` is its answer, and `no` its first check that fails, which there is none of only of a lane out of idle
  module _ (m : Found) (c : Call) (run : Lane → List ℕ → Called) (no : Lane → ℕ → Result ⊤ Refusal)
      (is_called : called p m ≡ run p.0 p.1) (is_shown : trains_by ts m (called p m) ≡ ts ++ fetched (called p m))
      (is_after : (a : Bool) → after the_lane a k c ≡ placed a c (run k.lane k.ook)) (is_lent : (a : Bool) → lent_well a c ≡ true)
      (yards : accepts k.yard c ≡ is_ok (no k.yard.lane (length k.yard.ook)))
      (refuses : (l : Lane) (ook : List ℕ) → is_err (run l ook).0.reply ≡ not (is_ok (no l (length ook))))
      (keeps : (l : Lane) (ook : List ℕ) → is_ok (no l (length ook)) ≡ false → next (run l ook) ≡ (l, ook, p.2))
      (tells : (l : Lane) (n : ℕ) → no l n ≡ Ok tt → l.phase ≡ 0 → ⊥) where
    tested : (b : Bool) → is_ok (no p.0 (length p.1)) ≡ b → is_err (called p m).0.reply ≡ not b
    tested b q = ap (λ (r : Called). is_err r.0.reply) is_called ∙ refuses p.0 p.1 ∙ ap not q

    -- refused on the lane and on the place alike
    lane_refused : is_ok (no p.0 (length p.1)) ≡ false → is_ok (no k.lane (length k.ook)) ≡ false → accepts k.yard c ≡ false → Advances m c
    lane_refused q u a =
        joined m c false a (tested false q)
        (refused (after the_lane false k c) (next (called p m)) (after_same k F.same c false a (is_lent false))
        (ap (λ (z : Place the_lane). z.lane) (is_after false) ∙ ap (λ (z : State). z.0) (keeps k.lane k.ook u))
        (ap (λ (z : Place the_lane). z.ook) (is_after false)) (ap (λ (z : Place the_lane). z.trains) (is_after false)) (ap next is_called ∙ keeps p.0 p.1 q))

    -- while the lane is idle it is refused, whatever the buffer
    idle_advances : p.0.phase ≡ 0 → Advances m c
    idle_advances h = lane_refused (none p.0 p.1 refl) (none k.lane k.ook F.lane) (yards ∙ none k.yard.lane k.yard.ook yard_lane)
      where
        none : (l : Lane) (ook : List ℕ) → l ≡ p.0 → is_ok (no l (length ook)) ≡ false
        none l ook e = not_ok (no l (length ook)) (λ z. tells l (length ook) z (ap (λ (x : Lane). x.phase) e ∙ h))

    -- while it is not, lane and buffer are those of the place
    busy_advances : (p.0.phase ≡ 0 → ⊥) → Advances m c
    busy_advances n = go (is_ok (no p.0 (length p.1))) refl
      where
        as_here : (b : Bool) (l : Lane) (ook : List ℕ) → l ≡ p.0 → ook ≡ p.1 → is_ok (no p.0 (length p.1)) ≡ b → is_ok (no l (length ook)) ≡ b
        as_here b l ook e f q = ap (λ (x : Lane). is_ok (no x (length ook))) e ∙ ap (λ (o : List ℕ). is_ok (no p.0 (length o))) f ∙ q

        yard : (b : Bool) → is_ok (no p.0 (length p.1)) ≡ b → accepts k.yard c ≡ b
        yard b q = yards ∙ as_here b k.yard.lane k.yard.ook yard_lane (yard_ook n) q

        runs : run k.lane k.ook ≡ called p m
        runs = ap (λ (l : Lane). run l k.ook) F.lane ∙ ap (run p.0) (F.ook n) ∙ sym is_called

        go : (b : Bool) → is_ok (no p.0 (length p.1)) ≡ b → Advances m c
        go true q =
            joined m c true (yard true q) (tested true q)
            (record {
              same = after_same k F.same c true (yard true q) (is_lent true);
              lane = ap (λ (z : Place the_lane). z.lane) (is_after true) ∙ ap (λ (r : Called). r.0.lane) runs;
              ook = λ z. ap (λ (x : Place the_lane). x.ook) (is_after true) ∙ ap (λ (r : Called). r.1) runs;
              trains =
                  ap (λ (z : Place the_lane). z.trains) (is_after true)
                  ∙ ap (λ (r : Called). k.trains ++ fetched r) runs
                  ∙ ap (λ (t : List Given). t ++ fetched (called p m)) F.trains
                  ∙ sym is_shown;
            })
        go false q = lane_refused q (as_here false k.lane k.ook F.lane (F.ook n) q) (yard false q)

    advances : Advances m c
    advances = go (eqb p.0.phase 0) refl
      where
        go : (b : Bool) → eqb p.0.phase 0 ≡ b → Advances m c
        go true q = idle_advances (eqb-true p.0.phase 0 q)
        go false q = busy_advances (eqb-false p.0.phase 0 q)

  step_advances : (s : StepArgs) → Advances (Ok (Step s)) (step s as_left p.2)
  unfolding after refusal called lent lent_well returned_by
  step_advances s =
      advances (Ok (Step s)) (step s as_left p.2) (λ l ook. stepped l s ook p.2) (λ l n. step_refusal l s n (length p.2)) refl refl (λ a. refl)
      (lent_always _ refl) refl
      (λ l ook. step_refuses l s ook p.2) (λ l ook q. step_kept l s ook p.2 q) (λ l n. step_tells l s n (length p.2))

  close_advances : Advances (Ok Close) (close as_left p.2)
  unfolding after refusal called lent lent_well returned_by
  close_advances =
      advances (Ok Close) (close as_left p.2) (λ l ook. closed l ook p.2) (λ l n. close_refusal l n (length p.2)) refl refl (λ a. refl)
      (lent_always _ refl) refl
      (λ l ook. close_refuses l ook p.2) (λ l ook q. close_kept l ook p.2 q) (λ l n. close_tells l n (length p.2))

-- ---- over a list

follows_all : (ks : List Found) (k : Place the_lane) (p : State) (ts : List Given) → Follows k p ts
    → Follows (demand.after_all the_lane k (calls_of p ks)) (alone_after p ks) (trains_of ts (paired p ks))
unfolding demand.after_all calls_of call_of alone_after trains_of paired called Advances
follows_all [] k p ts F = F
follows_all (Ok (Open s) ∷ ks) k p ts F = follows_all ks _ _ _ (open_advances k p ts F s)
follows_all (Ok (OpenCarry s) ∷ ks) k p ts F = follows_all ks _ _ _ (carry_advances k p ts F s)
follows_all (Ok (Begin b) ∷ ks) k p ts F = follows_all ks _ _ _ (begin_advances k p ts F b)
follows_all (Ok (Step s) ∷ ks) k p ts F = follows_all ks _ _ _ (step_advances k p ts F s)
follows_all (Ok Close ∷ ks) k p ts F = follows_all ks _ _ _ (close_advances k p ts F)
follows_all (Err missing.End ∷ ks) k p ts F = follows_all ks k p ts F
follows_all (Err missing.Unknown ∷ ks) k p ts F = follows_all ks k p ts F
follows_all (Err missing.Short ∷ ks) k p ts F = follows_all ks k p ts F

-- ---- from a new lane

module _ (p : State) (new : p.0 ≡ new_lane) where
  start_follows : Follows (start the_lane) p []
  unfolding start unused new_lane idle_lane
  start_follows = record { same = record { lane = refl; ook = refl; trains = refl }; lane = sym new; ook = λ n. absurd (n (ap (λ (l : Lane). l.phase) new)); trains = refl }

pub each_antenna : EachAntenna
unfolding EachAntenna Demand3 Demand3Where QuietEnds WaitKnown
each_antenna ook fsk cs j h g i =
    let p : Lanes = new_lanes ook fsk in
    let ks : List Found = commands_of (heard j p cs) in
    let l = heard_leads j p cs i (new_sized ook fsk h g) in
    let handed : handed_on unused (calls_at j p cs) ≡ true = handed_on_lem (lane_at p j) ks unused in
    let F = follows_all ks (start the_lane) (lane_at p j) [] (start_follows (lane_at p j) (get_or-replicate antennas j new_lane new_lane i)) in
    record {
      handed = handed;
      own_lane = F.lane ∙ ap (λ (q : State). q.0) (sym l.1);
      own_trains = F.trains ∙ ap (trains_of []) (sym l.0);
      each = (demand_3 (calls_at j p cs) handed).0;
      none_yet = (demand_3 (calls_at j p cs) handed).1;
      each_auto = (auto_pulses (calls_at j p cs) handed).0;
      none_yet_auto = (auto_pulses (calls_at j p cs) handed).1;
      ends = quiet_ends (calls_at j p cs) handed;
      waits = wait_known (calls_at j p cs);
    }
