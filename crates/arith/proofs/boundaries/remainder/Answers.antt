-- The signed difference is within an i32 (`Signed.antt`).
use Rattle.std.proofs.Common.{◌+◌, ◌%◌, arith}
use Rattle.arith.proofs.Signed.{read_fits, read_remainder}
use Rattle.arith.proofs.boundaries.remainder.Goals as goal

pub overflow_sub-result : goal.overflow_sub-result
overflow_sub-result c = read_fits ((c.args.b % 64 + 32) % 64) (omega arith)

pub returns : goal.returns
returns c = read_remainder c.args.b
