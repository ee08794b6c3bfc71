-- Demand 3 as a statement of a program, `Demand3`: lists of calls run on it, the trains that it returns, and what is asked of them. Record,
-- run, edge and pulse stand in Runs, the yardstick in Yardstick. `demand_3` in proofs/Theorem is `Demand3 the_lane`.
use Rattle.std.specs.Prelude.{◌≡◌, Result, Bool, true, cond, List, [], ◌∷◌, ◌++◌, map, ℕ, ◌-◌, ◌*◌, min, ltb, length, take, Float}
use Rattle.std.proofs.Math.Option.{Option, none, some}
use Rattle.arith.specs.Leaves.{width_of}
use Rattle.shared.specs.declared.Settings.{Settings}
use Rattle.shared.specs.declared.Next.{Next}
use Rattle.shared.specs.declared.Out.{Out}
use Rattle.refusals.specs.declared.Refusal.{Refusal}
use Rattle.shared.specs.Counts.{bit}
use Rattle.lane.specs.declared.Lane.{Lane}
use Rattle.lane.specs.declared.Answer.{Answer}
use Rattle.lane.specs.declared.BeginArgs.{BeginArgs}
use Rattle.lane.specs.declared.StepArgs.{StepArgs}
use Rattle.lane.specs.Step.{new_lane, opened, begun, stepped, closed}
use Rattle.lane.specs.Part.{part_of}
use Rattle.slots.specs.Slots.{slots_of}
use Rattle.pulses.specs.Runs.{Pulse, pulses, edges, pulse_width}
use Rattle.pulses.specs.Yardstick.{lent, Call, opening, begin, step, close, Given, given_by, Yardstick, unused, accepts, advanced, ends, handed_on}

-- ---- programs
-- What begin, step and close return: reply, lane, OOK record, and both buffers as the call leaves them. Of the reply demands 1 and 2 speak;
-- why it refuses, a program says in a type of its own.
pub record Returned (E L : Type 0) : Type 0 where
  pub reply : Result Next E
  pub lane : L
  pub out : Out
  pub ook : List ℕ
  pub fsk : List ℕ

-- A program, right or hollow: refusals and lanes of any type, the lane that never had settings, and the four calls. Opening returns a lane alone.
-- "Fetching a part takes lane and record" (document 02, R-6), and both buffers.
pub record Program : Type 1 where
  pub Refused : Type 0
  pub Lanes : Type 0
  pub new : Lanes
  pub opening : Lanes → Settings → Lanes
  pub begin : Lanes → BeginArgs → List ℕ → List ℕ → Returned Refused Lanes
  pub step : Lanes → StepArgs → List ℕ → List ℕ → Returned Refused Lanes
  pub close : Lanes → List ℕ → List ℕ → Returned Refused Lanes
  pub part : Lanes → Out → List ℕ → List ℕ → List ℕ

-- the program of this repository: the definitions that the contracts of `new_lane`, `open`, `begin`, `step`, `close` and `part` cite
unfoldable pub returned_by : Answer × List ℕ × List ℕ → Returned Refusal Lane
returned_by r = record { reply = r.0.reply; lane = r.0.lane; out = r.0.lane.burst.out_ook; ook = r.1; fsk = r.2 }

abbrev pub the_lane : Program
the_lane = record {
  Refused = Refusal;
  Lanes = Lane;
  new = new_lane;
  opening = λ l p. (opened l p).lane;
  begin = λ l b ook fsk. returned_by (begun l b ook fsk, ook, fsk);
  step = λ l s ook fsk. returned_by (stepped l s ook fsk);
  close = λ l ook fsk. returned_by (closed l ook fsk);
  part = part_of;
}

-- ---- lists of calls
-- Where a list stands: the program's lane, the OOK buffer as its last accepted begin, step or close left it, and the trains that the last
-- burst gave; and the yardstick.
pub record Place (W : Program) : Type 0 where
  pub lane : W.Lanes
  pub ook : List ℕ
  pub trains : List Given
  pub yard : Yardstick

module _ (W : Program) where
  unfoldable pub start : Place W
  start = record { lane = W.new; ook = []; trains = []; yard = unused }

  -- "A burst gives a train where a call of it returns an OOK record that decides one": begin, step or close c returned r, and earlier are
  -- the trains that its burst had given before. The part is fetched by the lane that the call returned. A refusal returns its reason alone.
  abbrev taken : Bool → Place W → Call → List Given → Returned W.Refused W.Lanes → Place W
  taken a k c earlier r = record {
    lane = r.lane;
    ook = cond a r.ook k.ook;
    trains = cond a (earlier ++ given_by r.out (W.part r.lane r.out r.ook r.fsk)) k.trains;
    yard = advanced a k.yard c;
  }

  -- After a call, accepted (true) or refused: "Each call works on the lane as the one before left it."
  unfoldable pub after : Bool → Place W → Call → Place W
  after a k (opening p) = record { lane = W.opening k.lane p; ook = k.ook; trains = cond a [] k.trains; yard = advanced a k.yard (opening p) }
  after a k (begin b ook fsk) = taken a k (begin b ook fsk) [] (W.begin k.lane b ook fsk)
  after a k (step s o fsk) = taken a k (step s o fsk) k.trains (W.step k.lane s (lent o k.ook) fsk)
  after a k (close o fsk) = taken a k (close o fsk) k.trains (W.close k.lane (lent o k.ook) fsk)

  -- where the list ends, and where bursts end in it
  unfoldable pub after_all : Place W → List Call → Place W
  after_all k [] = k
  after_all k (c ∷ cs) = after_all (after (accepts k.yard c) k c) cs

  unfoldable pub bursts : Place W → List Call → List (Place W)
  bursts k [] = []
  bursts k (c ∷ cs) =
      let a : Bool = accepts k.yard c in
      cond (ends a k.yard c) (after a k c ∷ []) [] ++ bursts (after a k c) cs

-- ---- what is asked of a burst
-- the first slot of each pair
unfoldable pub firsts : List ℕ → List ℕ
firsts [] = []
firsts (x ∷ []) = x ∷ []
firsts (x ∷ y ∷ l) = x ∷ firsts l

-- demand 2's `width` between two edges, in whole steps
abbrev pub width : Float → Float → ℕ
width a b = (width_of a b).0

-- The slots from the first pulse to the last, where these are the pulses' edges in order: the widths between neighbouring edges, pulse and
-- gap in turn. Without carry each is demand 2's `width`. Document 02, R-1: in carry mode "A width is the difference of its two boundaries",
-- and these are a fold over the edges, from the first pulse's on.
unfoldable pub slots_between : ℕ → Option (List Float) → Option (List ℕ)
slots_between carry none = none
slots_between carry (some es) = some (slots_of carry es)

-- The train g of a burst whose record has the pulses ps.
pub record TrainOf (p : Settings) (ps : List (Pulse Float)) (g : Given) : Type 0 where
  -- the record is an OOK train's
  pub kind : g.out.fsk ≡ 0
  -- "The number of pairs is the smaller of the record's pulse count and max_pulses."
  pub pairs : g.out.pairs ≡ min (length ps) p.max_pulses
  -- two slots for each
  pub whole : length g.part ≡ 2 * g.out.pairs
  -- "Pair by pair they are the record's pulses from the first on, each once, in order", with carry off. A width is `some`: both edges are
  -- there.
  pub widths : p.carry ≡ 0 → map some (firsts g.part) ≡ map (pulse_width width p.min_steps) (take p.max_pulses ps)
  -- R-1: with carry on "the list of pulses is still the one in the record, and demand 3 stands with the widths taken here". So it does in
  -- either mode, the gaps between the pulses included.
  pub slots : some (take (2 * g.out.pairs - 1) g.part) ≡ slots_between p.carry (edges p.min_steps (take p.max_pulses ps))
  -- "The train is marked cut exactly when the record has more than max_pulses."
  pub cut : g.out.cut ≡ bit (ltb p.max_pulses (length ps))

-- "the burst gives a train, one only, exactly when its record has a pulse"
unfoldable pub Gives : Settings → List (Pulse Float) → List Given → Type 0
Gives p [] trains = trains ≡ []
Gives p (q ∷ qs) trains = (g : Given) × (trains ≡ g ∷ []) × TrainOf p (q ∷ qs) g

abbrev pub settings_at : {W : Program} → Place W → Settings
settings_at k = k.yard.lane.settings

abbrev pub pulses_at : {W : Program} → Place W → List (Pulse Float)
pulses_at k = pulses (settings_at k).min_steps k.yard.recorded

-- Where a burst has ended. "Its gaps and other numbers are those that demand 2's definition gives."
pub record Holds {W : Program} (k : Place W) : Type 0 where
  pub gives : Gives (settings_at k) (pulses_at k) k.trains
  pub numbers : k.trains ≡ k.yard.trains

-- of every OOK burst (mode 0)
unfoldable pub Each : {W : Program} → List (Place W) → Type 0
Each [] = Unit {0}
Each (k ∷ ks) = ((settings_at k).mode ≡ 0 → Holds k) × Each ks

-- Where a burst is under way (the yardstick's phase is not idle, 0) it has given no train. So neither has one that an opening drops, since
-- this is asked where any list ends: "which has then not ended and gives no train".
abbrev pub NoneYet : {W : Program} → Place W → Type 0
NoneYet k = (k.yard.lane.phase ≡ 0 → ⊥) → (settings_at k).mode ≡ 0 → k.trains ≡ []

-- "for every list of openings, begins and steps, refused ones included, from a lane that never had settings, lane and OOK buffer handed
-- on as document 01 says, and for every OOK burst that ends in the list"; closes stand in it too (R-13)
unfoldable pub Demand3 : Program → Type 0
Demand3 W = (cs : List Call) → handed_on unused cs ≡ true → Each (bursts W (start W) cs) × NoneYet (after_all W (start W) cs)
