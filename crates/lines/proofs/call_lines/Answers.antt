use mathlib.Core.Path.{ap}
use native.Mathlib.Omega.{arith}
use lib.ListN.{length}
use Rattle.lines.proofs.Writers.{same, written_in}
use Rattle.lines.proofs.Tagged.{call_untagged}
use borrow.Author.Rules.{rules}
use Rattle.lines.proofs.Room.{parts_fit}
use Rattle.lines.specs.Line.{record_line, larger_of, has_room, written_call}
use Rattle.lines.proofs.call_lines.Goals as goal

pub put_call-requires : goal.put_call-requires
put_call-requires c =
    let a = c.args in
    omega (
      arith,
      parts_fit (length a.fs.now) (length a.os.now) (length a.text.now) a.at
          (simp (← c.max.ensures, ← c.has_room.ensures, c.if-not-has_room.false)),
      ap length c.new-t.ensures.held,
    )

pub returns : goal.returns
unfolding written_call
returns c =
    let a = c.args in
    written_in (has_room (larger_of (length a.fs.now) (length a.os.now)) (length a.text.now) a.at)
    (simp (← c.max.ensures, ← c.has_room.ensures, c.if-not-has_room.false))
    c.new-t.ensures.place c.new-t.ensures.held (same (call_untagged a.r (record_line a.f a.fs.now) (record_line a.o a.os.now) a.index) c.put_call.ensures) (search rules)

pub returns-then-not-has_room : goal.returns-then-not-has_room
unfolding written_call
returns-then-not-has_room c =
    let a = c.args in
    simp (← c.max.ensures, ← c.has_room.ensures, c.if-not-has_room.true)
