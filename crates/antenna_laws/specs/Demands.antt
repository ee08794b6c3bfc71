-- The commands that one antenna hears, as the calls of demand 3's lists (crate pulses): so that demand 3 and R-9 speak of each antenna.
use Rattle.std.specs.Prelude.{ℕ, cond, true, ◌≡◌, List, [], ◌∷◌, ◌++◌, Ok, Err, is_err}
use Rattle.commands.specs.Command.{Found}
use Rattle.commands.specs.declared.Command.TheVariants.{Open, OpenCarry, Begin, Step, Close}
use Rattle.calls.specs.Turn.{State, Called, called, next}
use Rattle.pulses.specs.Yardstick.{as_left, Call, opening, begin, step, close, Given, fetched, unused, handed_on}
use Rattle.pulses.specs.Demand.{the_lane, start, bursts, Each, NoneYet}
use Rattle.pulses.specs.Demand as demand
use Rattle.pulses.specs.Auto.{EachWhere, NoneYetWhere, StaysZero}
use Rattle.quiet.specs.Quiet.{wait, EachEnds, counted, Waits}
use Rattle.among.specs.Among.{Lanes, lane_at}
use Rattle.antenna_laws.specs.Calls.{Sent, after_all, heard, commands_of}

-- The call of a command to a lane in the state p. Begin is lent the lane's own buffers as they stand; so are step and close, and since no one
-- else writes to them the OOK buffer is then the one that the accepted call before left. (Before any begin was accepted there is no such call:
-- the lane is idle, and refusal 5 comes before anything that a buffer could change.) No command, or bytes that are none, is no call.
unfoldable pub call_of : State → Found → List Call
call_of p (Ok (Open s)) = opening s ∷ []
call_of p (Ok (OpenCarry s)) = opening s ∷ []
call_of p (Ok (Begin b)) = begin b p.1 p.2 ∷ []
call_of p (Ok (Step s)) = step s as_left p.2 ∷ []
call_of p (Ok Close) = close as_left p.2 ∷ []
call_of p (Err m) = []

unfoldable pub calls_of : State → List Found → List Call
calls_of p [] = []
calls_of p (k ∷ ks) = call_of p k ++ calls_of (next (called p k)) ks

-- those of antenna j
abbrev pub calls_at : ℕ → Lanes → List Sent → List Call
calls_at j p cs = calls_of (lane_at p j) (commands_of (heard j p cs))

-- the trains of the last burst, read from the antenna's own answers: what an accepted begin, step or close decides, with the part fetched
abbrev pub trains_by : List Given → Found → Called → List Given
trains_by ts (Ok (Open s)) c = []
trains_by ts (Ok (OpenCarry s)) c = []
trains_by ts (Ok (Begin b)) c = fetched c
trains_by ts (Ok (Step s)) c = ts ++ fetched c
trains_by ts (Ok Close) c = ts ++ fetched c
trains_by ts (Err m) c = ts

unfoldable pub trains_of : List Given → List (Found × Called) → List Given
trains_of ts [] = ts
trains_of ts (h ∷ hs) = trains_of (cond (is_err h.1.0.reply) ts (trains_by ts h.0 h.1)) hs

-- What is said of antenna j over the list cs. Its calls are one of demand 3's lists, and where that ends the lane and the trains are the
-- antenna's own: since that is so of every list, it is so wherever a burst ends in one.
pub record Demands (j : ℕ) (p : Lanes) (cs : List Sent) : Type 0 where
  pub handed : handed_on unused (calls_at j p cs) ≡ true
  pub own_lane : (demand.after_all the_lane (start the_lane) (calls_at j p cs)).lane ≡ (lane_at (after_all p cs) j).0
  pub own_trains : (demand.after_all the_lane (start the_lane) (calls_at j p cs)).trains ≡ trains_of [] (heard j p cs)
  -- demand 3, and in Auto mode (R-9)
  pub each : Each (bursts the_lane (start the_lane) (calls_at j p cs))
  pub none_yet : NoneYet (demand.after_all the_lane (start the_lane) (calls_at j p cs))
  pub each_auto : EachWhere StaysZero (bursts the_lane (start the_lane) (calls_at j p cs))
  pub none_yet_auto : NoneYetWhere StaysZero (demand.after_all the_lane (start the_lane) (calls_at j p cs))
  -- R-9's wait
  pub ends : EachEnds wait the_lane (start the_lane) (calls_at j p cs)
  pub waits : Waits wait (counted (unused, 0) (calls_at j p cs))
