-- The hollow programs of specs/Hollow do not meet demand 3: each stands beside the list of calls that refutes it and the test that it fails there,
-- by computation. The buffer of most lists has room for four pulses.
use mathlib.Core.Path.{◌≡◌, refl}
use mathlib.Core.Bool.{Bool, true, not, ◌&&◌}
use mathlib.Core.List.{List, [], ◌∷◌, ◌++◌, map}
use borrow.Author.Tests.{not-true}
use Rattle.shared.proofs.Tests.{both_true}
use Rattle.std.specs.Prelude.{Result}
use Rattle.shared.specs.declared.Next.{Next}
use Rattle.pulses.specs.Yardstick.{Call}
use Rattle.pulses.specs.Demand.{Program}
use Rattle.pulses.specs.Lists.{opens, slots, first, lo, his, shut, m6, m7, two, halves, unended}
use Rattle.pulses.specs.Ran.{ran}
use Rattle.pulses.specs.Hollow.{AllFail, silent, fixed, first_only, invented, idle_early, cut_early, glitch_counts, train_early, other_kind, gapless, never_carries, always_carries, carries_on, too_late, loses, zeroes_gap, replays_lead}
use Rattle.pulses.proofs.Refuted.{Test, by_pulses, by_slots, under_way, passes, refuted}

abbrev Row : Type 1
Row = Test × Program × List Call

abbrev hollow : {E : Type 0} → Result Next E → List Row
hollow reply =
    -- M6, and no train, whatever it replies
    (by_pulses, silent reply, opens 4 ++ m6 10 (slots 8))
    -- two pulses came: a train of one
    ∷ (by_pulses, fixed, opens 4 ++ two 10 (slots 8))
    -- M6 twice: a train for the first, none for the second
    ∷ (by_pulses, first_only, opens 4 ++ m6 10 (slots 8) ++ m6 30 (slots 8))
    -- M6: two pairs
    ∷ (by_pulses, invented, opens 4 ++ m6 10 (slots 8))
    -- two pulses came: the gap between them ends the burst after one
    ∷ (by_pulses, idle_early, opens 4 ++ two 10 (slots 8))
    -- M6 with room for its one pulse: marked cut
    ∷ (by_pulses, cut_early, opens 1 ++ m6 10 (slots 2))
    -- M7, one pulse with a glitch: two pulses
    ∷ (by_pulses, glitch_counts, opens 4 ++ m7 10 (slots 8))
    -- one pulse is closed and its burst goes on: a train with each sample of the gap from then on
    ∷ (under_way, train_early, opens 4 ++ unended 10 (slots 8))
    -- M6: its record is an FSK frame's
    ∷ (by_pulses, other_kind, opens 4 ++ m6 10 (slots 8))
    -- two pulses came: both widths are right, and the gap between them is 0 and not 3
    ∷ (by_slots, gapless, opens 4 ++ two 10 (slots 8))
    -- two pulses of 1.5 steps, a gap of 2.5 between them: the gap is 3 without carry and 2 with it
    ∷ (by_pulses, never_carries, halves 1)
    ∷ (by_pulses, always_carries, halves 0)
    ∷ (by_pulses, carries_on, halves 1 ++ halves 0)
    -- M6: one pair, and an empty part
    ∷ (by_pulses, too_late, opens 4 ++ m6 10 (slots 8))
    -- a close in the gap after one pulse: no train
    ∷ (by_pulses, loses, opens 4 ++ unended 10 (slots 8) ++ shut ∷ [])
    -- a close within a second pulse: the gap before it is 0 and not 3
    ∷ (by_slots, zeroes_gap, opens 4 ++ unended 10 (slots 8) ++ his 18 3 ++ shut ∷ [])
    -- a close in lead, one sample before it is full: the burst goes on, and the M6 after it gives no train
    ∷ (by_pulses, replays_lead, opens 4 ++ (first 10 (slots 8) ∷ his 11 4 ++ lo 15 ∷ shut ∷ m6 30 (slots 8)))
    ∷ []

-- in each row the list is handed on and the program does not pass
fails : Row → Bool
fails r = (ran r.1 r.2).handed && not (passes r.0 (ran r.1 r.2))

all_fail : List Row → Bool
all_fail [] = true
all_fail (r ∷ rs) = fails r && all_fail rs

all_fail_lem : (rs : List Row) → all_fail rs ≡ true → AllFail (map (λ (r : Row). r.1) rs)
unfolding fails all_fail AllFail
all_fail_lem [] h = tt
all_fail_lem (r ∷ rs) h =
    let t = both_true (fails r) (all_fail rs) h in
    let f = both_true (ran r.1 r.2).handed (not (passes r.0 (ran r.1 r.2))) t.0 in
    (refuted r.0 r.1 r.2 f.0 (not-true _ f.1), all_fail_lem rs t.1)

pub hollow_fail : {E : Type 0} (reply : Result Next E)
    → AllFail (silent reply ∷ fixed ∷ first_only ∷ invented ∷ idle_early ∷ cut_early ∷ glitch_counts ∷ train_early ∷ other_kind ∷ gapless ∷ never_carries ∷ always_carries ∷ carries_on ∷ too_late ∷ loses ∷ zeroes_gap ∷ replays_lead ∷ [])
unfolding fails all_fail passes ran silent fixed first_only invented idle_early cut_early glitch_counts train_early other_kind gapless never_carries always_carries carries_on too_late loses zeroes_gap replays_lead
hollow_fail reply = all_fail_lem (hollow reply) refl
