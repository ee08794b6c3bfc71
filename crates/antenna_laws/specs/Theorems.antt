-- Document 02, R-4, sentence by sentence, over every list of calls. The proofs are in proofs/, one file for each group.
use Rattle.std.specs.Prelude.{ℕ, ◌+◌, ◌<◌, ◌≤◌, true, false, ◌≡◌, ◌⊎◌, List, length, Ok, Err}
use Rattle.shared.specs.declared.Next.TheVariants.{Stay}
use Rattle.refusals.specs.declared.Refusal.TheVariants as refusal
use Rattle.lane.specs.declared.Lane.{Lane}
use Rattle.commands.specs.Command.{Found}
use Rattle.calls.specs.Turn.{State, called, unchanged}
use Rattle.among.specs.Among.{antennas, places, Lanes, lane_at, outs, others_out, answer_to, after_call, Sized}
use Rattle.among.specs.Settled.{is_begin_of}
use Rattle.antenna_laws.specs.Calls.{Sent, after_all, new_lanes, others, heard, commands_of, answers_of, alone, alone_after}
use Rattle.antenna_laws.specs.Demands.{Demands}

-- ---- "from sixteen idle ones at most four are ever out of idle together"

-- the paper's number, and not by its name
unfoldable pub AtMostFour : Type 0
AtMostFour = (p : Lanes) (cs : List Sent) → Sized p → outs p.0 ≡ 0 → outs (after_all p cs).0 ≤ 4

-- a call keeps it so
unfoldable pub FourStay : Type 0
FourStay = (p : Lanes) (i : ℕ) (k : Found) → Sized p → outs p.0 ≤ places → outs (after_call p i k).0 ≤ places

-- sixteen lanes that never had settings are idle
unfoldable pub FourFromNew : Type 0
FourFromNew = (ook fsk : List (List ℕ)) (cs : List Sent) → length ook ≡ antennas → length fsk ≡ antennas → outs (after_all (new_lanes ook fsk) cs).0 ≤ 4

-- ---- "A lane that was let in gives the replies it would give alone, with the calls that met 12 left out, however the others are fed."

-- The whole answers: reply, lane with its records, and both buffers, from which parts and lines follow; and the lane with its buffers after the list.
unfoldable pub AsAlone : Type 0
AsAlone =
    (j : ℕ) (p : Lanes) (cs : List Sent) → j < antennas → Sized p
    → (answers_of (heard j p cs) ≡ alone (lane_at p j) (commands_of (heard j p cs))) × (lane_at (after_all p cs) j ≡ alone_after (lane_at p j) (commands_of (heard j p cs)))

-- a call that meets 12 changes nothing
unfoldable pub TwelveKeeps : Type 0
TwelveKeeps = (p : Lanes) (i : ℕ) (k : Found) → (answer_to p i k).0.reply ≡ Err refusal.Places → (answer_to p i k ≡ unchanged (Err refusal.Places) (lane_at p i)) × (after_call p i k ≡ p)

-- and no call changes another antenna's lane or buffers
unfoldable pub OthersKept : Type 0
OthersKept = (p : Lanes) (i j : ℕ) (k : Found) → (i ≡ j → ⊥) → lane_at (after_call p i k) j ≡ lane_at p j

-- ---- "Only the letting in depends on them, and only through their number."

unfoldable pub OnlyTheirNumber : Type 0
OnlyTheirNumber = (p q : Lanes) (j : ℕ) (k : Found) → lane_at p j ≡ lane_at q j → others_out p.0 j ≡ others_out q.0 j → answer_to p j k ≡ answer_to q j k

unfoldable pub OnlyLettingIn : Type 0
OnlyLettingIn = (p q : Lanes) (j : ℕ) (k : Found) → is_begin_of k ≡ false → lane_at p j ≡ lane_at q j → answer_to p j k ≡ answer_to q j k

-- the number is that of the other lanes out of idle
unfoldable pub OthersCounted : Type 0
OthersCounted = (ls : List Lane) (i : ℕ) → i < length ls → others_out ls i ≡ outs (others ls i)

-- ---- "12: begin finds at least four other lanes out of idle; it comes after 7, before 8, and is given in no other case."

-- the lane alone would have accepted the begin, or refused it by 8
pub record Twelve (p : Lanes) (i : ℕ) (k : Found) : Type 0 where
  pub antenna : i < antennas
  pub begins : is_begin_of k ≡ true
  pub full : places ≤ others_out p.0 i
  pub late : ((called (lane_at p i) k).0.reply ≡ Ok Stay) ⊎ ((called (lane_at p i) k).0.reply ≡ Err refusal.Room)

unfoldable pub TwelveExactly : Type 0
TwelveExactly = (p : Lanes) (i : ℕ) (k : Found) → ((answer_to p i k).0.reply ≡ Err refusal.Places → Twelve p i k) × (Twelve p i k → (answer_to p i k).0.reply ≡ Err refusal.Places)

-- a lane alone never gives it
unfoldable pub NeverAlone : Type 0
NeverAlone = (p : State) (k : Found) → (called p k).0.reply ≡ Err refusal.Places → ⊥

-- ---- "A lane that turns idle frees its place for the next call."

-- lane i was out of idle, and is idle after its call: by idle, idle-at, an opening or a close
pub record Turns (p : Lanes) (i : ℕ) (k : Found) : Type 0 where
  pub antenna : i < antennas
  pub was_out : (lane_at p i).0.phase ≡ 0 → ⊥
  pub is_idle : (answer_to p i k).0.lane.phase ≡ 0

unfoldable pub PlaceFreed : Type 0
PlaceFreed = (p : Lanes) (i : ℕ) (k : Found) → Sized p → Turns p i k → outs (after_call p i k).0 + 1 ≡ outs p.0

-- so the very next call, a begin of any other antenna j too, finds fewer than four others and is answered as alone
unfoldable pub NextLetIn : Type 0
NextLetIn =
    (p : Lanes) (i j : ℕ) (k m : Found) → Sized p → outs p.0 ≤ places → Turns p i k → j < antennas → (i ≡ j → ⊥)
    → (others_out (after_call p i k).0 j < places) × (answer_to (after_call p i k) j m ≡ called (lane_at p j) m)

-- ---- demand 3 and R-9 of each antenna, from sixteen lanes that never had settings, with any buffers

unfoldable pub EachAntenna : Type 0
EachAntenna = (ook fsk : List (List ℕ)) (cs : List Sent) (j : ℕ) → length ook ≡ antennas → length fsk ≡ antennas → j < antennas → Demands j (new_lanes ook fsk) cs
