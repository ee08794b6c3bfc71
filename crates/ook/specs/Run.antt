-- The run of the envelope: `begin_run`, and what `sample` does to the run with each level (source document 000).
use Rattle.std.specs.Prelude.{ℕ, Bool, cond, not, Float}
use Rattle.arith.specs.declared.C32.{C32}
use Rattle.shared.specs.Counts.{bit, zero_c32}
use Rattle.run.specs.Run.{moved_of, start_run_of}
use Rattle.run.specs.declared.Run.{Run}
use Rattle.run.specs.declared.Move.{Move}
use Rattle.run.specs.declared.Move.TheVariants.{Same, Glitch, Begins}
use Rattle.ook.specs.declared.Env.{Env}

-- the makers: the run of the envelope from its fields, and with some of its fields changed
abbrev pub env_of : Run → Float → Float → ℕ → ℕ → Env
env_of run c_run c_prev ref_idx ref_pending =
    record { run = run; c_run = c_run; c_prev = c_prev; ref_idx = ref_idx; ref_pending = ref_pending }

abbrev pub with_run : Run → Env → Env
with_run r s = env_of r s.c_run s.c_prev s.ref_idx s.ref_pending

-- what a move of the run to r does to its edges: a glitch takes its own back, and that of a run that begins waits for its refinement
abbrev pub follow_of : Move → Run → Env → ℕ → Env
follow_of Same r s idx = with_run r s
follow_of Glitch r s idx = env_of r s.c_prev s.c_prev s.ref_idx 0
follow_of Begins r s idx = env_of r r.t_run s.c_run idx 1

-- the run after a sample whose level is `on`; tc is where a run that begins here has its edge
unfoldable pub advance_of : Move → Env → Bool → Float → ℕ → Env
advance_of m s on tc idx = follow_of m (moved_of m s.run (bit on) tc) s idx

-- `pac = [0.0; 2]` under a test
unfoldable pub zero_if : Bool → C32 → C32
zero_if b pac = cond b zero_c32 pac

-- the pulse's sum: a glitch that is a short pulse leaves nothing, and a pulse that begins starts from 0
abbrev pub pac_run_of : Move → Bool → C32 → C32
pac_run_of Same on pac = pac
pac_run_of Glitch on pac = zero_if (not on) pac
pac_run_of Begins on pac = zero_if on pac

-- the part of begin_burst that sets the run; ref_idx and ref_pending stay
unfoldable pub begin_env_of : Float → Env → Env
begin_env_of t s = env_of (start_run_of t) t t s.ref_idx s.ref_pending
