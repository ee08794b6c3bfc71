use Rattle.lines.proofs.Writers.{then, same, none}
use Rattle.lines.proofs.Tagged.{refused_tagged, stay_tagged, idle_tagged, carrier_tagged}
use Rattle.lines.proofs.Text.put_phase.Goals as goal

pub returns-in-Err : goal.returns-in-Err
returns-in-Err c = same (refused_tagged _ _ _ _ c.in-Err.is) (then c.put_bytes.ensures c.put_refused.ensures)

pub returns-in-Ok-Stay : goal.returns-in-Ok-Stay
returns-in-Ok-Stay c = same (stay_tagged _ _ c.args.r (simp (c.in-Ok-Stay.is, rw c.in-Ok-Stay.is at c.in-Ok-Stay.field-0-is))) (none _ _)

pub returns-in-Ok-Idle : goal.returns-in-Ok-Idle
returns-in-Ok-Idle c = same (idle_tagged _ _ c.args.r (simp (c.in-Ok-Idle.is, rw c.in-Ok-Idle.is at c.in-Ok-Idle.field-0-is))) (then c.put_bytes-in-Ok-Idle.ensures c.put_idle.ensures)

pub returns-in-Ok-IdleAt : goal.returns-in-Ok-IdleAt
returns-in-Ok-IdleAt c = same (carrier_tagged _ _ c.args.r c.in-Ok-IdleAt.e (simp (c.in-Ok-IdleAt.is, rw c.in-Ok-IdleAt.is at c.in-Ok-IdleAt.field-0-is))) (then c.put_bytes-in-Ok-IdleAt.ensures c.put_idle_at.ensures)
