use Rattle.std.proofs.Common.{ℕ, List, ◌-◌, take, ap, ◌∙◌, arith}
use Rattle.feed.proofs.Laws.{moved}
use Rattle.feed.proofs.shift.Goals as goal

pub returns : goal.returns
returns c =
    let a = c.args in (
      omega (arith, c.copy_within.ensures.len, c.requires.0, c.requires.1),
      ap (λ (l : List ℕ). take (a.end - a.from) l) c.copy_within.ensures.after ∙ moved a.buf.now a.from a.end c.requires.0 c.requires.1,
    )
