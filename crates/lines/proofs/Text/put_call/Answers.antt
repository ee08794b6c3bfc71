use borrow.Author.Rules.{rules}
use Rattle.lines.proofs.Writers.{then, same, within}
use Rattle.lines.proofs.Tagged.{refused_call, accepted_call}
use Rattle.lines.proofs.Text.put_call.Goals.{then-is_ok, else-is_ok}
use Rattle.lines.proofs.Text.put_call.Goals as goal

pub returns : goal.returns
returns c = elim c.if-is_ok.branch [
  | then-is_ok w ↦ within _ (search rules)
      (same (accepted_call _ _ _ _ _ (simp (c.is_ok.ensures.negation, w.if-is_ok.true)))
      (then (then w.put_record.ensures w.put_record-then-is_ok.ensures) (rw w.self-is at c.put_phase.ensures)))
  | else-is_ok w ↦ within _ (search rules) (same (refused_call _ _ _ _ _ (simp (c.is_ok.ensures.negation, w.if-is_ok.false))) (rw w.self-is at c.put_phase.ensures))
]
