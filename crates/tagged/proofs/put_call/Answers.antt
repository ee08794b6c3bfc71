use borrow.Author.Rules.{rules}
use Rattle.lines.proofs.Writers.{same, within}
use Rattle.tagged.proofs.Laws.{text_is}
use Rattle.tagged.proofs.put_call.Goals as goal

pub returns : goal.returns
returns c = within _ (search rules) (same (text_is _ _ _ _ _ _ c.tag.ensures.1) c.put_call.ensures)
