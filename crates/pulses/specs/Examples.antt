-- What the lane gives in small lists of calls.
use Rattle.std.specs.Prelude.{◌≡◌, Bool, true, List, [], ◌∷◌, ◌++◌, map, ℕ, suc, ◌+◌, length, replicate, Float}
use Rattle.pulses.specs.Runs.{Pulse}
use Rattle.pulses.specs.Yardstick.{other, Call, opening, step, close, Given}
use Rattle.pulses.specs.Demand.{the_lane, Place, settings_at, pulses_at}
use Rattle.pulses.specs.Lists.{settings, opens, slots, first, at, eight, lo, hi, shut, los, his, m6, m8, halves, unended}
use Rattle.pulses.specs.Ran.{Ran, ran}

-- what a burst shows: its mode, its record's length, of each pulse of the record how many high runs, and of each train pairs, cut mark and part
abbrev pub Shown : Type 0
Shown = ℕ × ℕ × List ℕ × List (ℕ × ℕ × List ℕ)

unfoldable pub shown : Place the_lane → Shown
shown k = (
  (settings_at k).mode,
  length k.yard.recorded,
  map (λ (q : Pulse Float). suc (length q.more)) (pulses_at k),
  map (λ (g : Given). (g.out.pairs, g.out.cut, g.part)) k.trains,
)

-- whether the list is handed on, and its bursts
unfoldable pub shown_in : List Call → Bool × List Shown
shown_in cs = let r : Ran the_lane = ran the_lane cs in (r.handed, map shown r.ended)

-- M7. Refused among its calls are begin and step before an opening (3 and 5), settings outside the domain (3), a begin with too few slots
-- (8), a begin in a burst (5), an index that is not the last plus 1 (6), a step with another, shorter buffer (8), and a step of an idle
-- lane (5).
abbrev refusals : List Call
refusals =
    lo 1 ∷ first 10 (slots 8) ∷ opening (settings 0 0 1000) ∷ opening (settings 0 4 1000) ∷ first 10 (slots 7) ∷ first 10 (slots 8) ∷ hi 11 ∷ first 12 (slots 8) ∷ hi 12
    ∷ hi 13 ∷ opening (settings 3 4 1000) ∷ hi 14 ∷ lo 15 ∷ hi 15 ∷ step (at eight 16) (other (slots 2)) (slots 8) ∷ his 16 2 ++ lo 20 ∷ hi 18 ∷ los 19 6

-- two pulses where one has room: the closing run of the second ends the burst
abbrev full : List Call
full = opens 1 ++ (first 10 (slots 2) ∷ his 11 3 ++ los 14 3 ++ his 17 3 ++ los 20 3)

-- one pulse and 3 low samples, then a carrier of more than 5
abbrev carrier : List Call
carrier = opening (settings 0 4 5) ∷ first 10 (slots 8) ∷ his 11 3 ++ los 14 3 ++ his 17 8

-- one pulse and 3 low samples, then so many high ones and so many low ones, and a close (R-13)
abbrev later : ℕ → ℕ → List Call
later high low = opens 4 ++ (first 10 (slots 8) ∷ his 11 3 ++ los 14 3 ++ his 17 high ++ los (17 + high) low ++ shut ∷ [])

-- refused are a close before an opening and one before a begin (5), a close with another, shorter buffer (8), and one after a close (5)
abbrev refused_closes : List Call
refused_closes = shut ∷ opens 4 ++ shut ∷ unended 10 (slots 8) ++ close (other (slots 2)) (slots 8) ∷ shut ∷ shut ∷ []

-- M6: one pulse of 4 samples, which has the last gap 0
abbrev of_m6 : Shown
of_m6 = (0, 10, 1 ∷ [], (1, 0, 4 ∷ 0 ∷ []) ∷ [])

-- R-1's two pulses, with this gap between
abbrev of_halves : ℕ → Shown
of_halves gap = (0, 12, 1 ∷ 1 ∷ [], (2, 0, 2 ∷ gap ∷ 2 ∷ 0 ∷ []) ∷ [])

abbrev pub table : List (List Call × List Shown)
table =
    (refusals, (0, 14, 2 ∷ [], (1, 0, 8 ∷ 0 ∷ []) ∷ []) ∷ [])
    -- as many pulses as have room, and one more
    ∷ (opens 1 ++ m6 10 (slots 2), of_m6 ∷ [])
    ∷ (full, (0, 12, 1 ∷ 1 ∷ [], (1, 1, 3 ∷ 3 ∷ []) ∷ []) ∷ [])
    ∷ (carrier, (0, 13, 1 ∷ [], (1, 0, 3 ∷ 3 ∷ []) ∷ []) ∷ [])
    -- two bursts with a train each, the second in another buffer, longer and full of 9s
    ∷ (opens 4 ++ m6 10 (slots 8) ++ m6 30 (replicate 12 9), of_m6 ∷ of_m6 ∷ [])
    -- a burst that an opening drops, one that ends, and one that has not ended
    ∷ (opens 4 ++ unended 10 (slots 8) ++ opens 4 ++ m6 30 (slots 8) ++ unended 50 (slots 8), of_m6 ∷ [])
    -- M8, in OOK and in FSK mode, and M6 after them
    ∷ (opens 4 ++ m8 10 (slots 8) ++ opening (settings 1 4 1000) ∷ m8 20 (slots 8) ++ opens 4 ++ m6 30 (slots 8), (0, 5, [], []) ∷ (1, 5, [], []) ∷ of_m6 ∷ [])
    -- R-1: without carry and with it, and without it again
    ∷ (halves 0, of_halves 3 ∷ [])
    ∷ (halves 1 ++ halves 0, of_halves 2 ∷ of_halves 3 ∷ [])
    -- R-13, "a gap already closed by a later pulse's start stays as the last gap": a close within that pulse, one after a low sample that
    -- does not count yet, and one after its closing run
    ∷ (later 3 0, (0, 10, 1 ∷ [], (1, 0, 3 ∷ 3 ∷ []) ∷ []) ∷ [])
    ∷ (later 3 1, (0, 11, 1 ∷ [], (1, 0, 3 ∷ 3 ∷ []) ∷ []) ∷ [])
    ∷ (later 3 2, (0, 12, 1 ∷ 1 ∷ [], (2, 0, 3 ∷ 3 ∷ 3 ∷ 0 ∷ []) ∷ []) ∷ [])
    -- closed in lead, and M6 after it
    ∷ (opens 4 ++ (first 10 (slots 8) ∷ hi 11 ∷ shut ∷ m6 30 (slots 8)), (0, 0, [], []) ∷ of_m6 ∷ [])
    ∷ (refused_closes, (0, 8, 1 ∷ [], (1, 0, 4 ∷ 0 ∷ []) ∷ []) ∷ [])
    ∷ []

-- each list is handed on and shows what stands beside it
abbrev pub Right : List (List Call × List Shown) → Type 0
Right rows = map (λ (r : List Call × List Shown). shown_in r.0) rows ≡ map (λ (r : List Call × List Shown). (true, r.1)) rows
