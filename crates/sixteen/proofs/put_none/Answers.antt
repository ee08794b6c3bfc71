use mathlib.Core.Path.{ap, sym, ◌∙◌}
use Rattle.lines.specs.Line.{refused_line}
use Rattle.lines.proofs.Writers.{same, none}
use Rattle.sixteen.specs.Sixteen.{none_text}
use Rattle.sixteen.proofs.put_none.Goals as goal

pub returns-in-End : goal.returns-in-End
returns-in-End c = same (ap none_text (sym c.in-End.is)) (none _ _)

pub returns-in-Unknown : goal.returns-in-Unknown
returns-in-Unknown c = same (ap refused_line c.into.ensures ∙ ap none_text (sym c.in-Unknown.is)) c.put_refused.ensures

pub returns-in-Short : goal.returns-in-Short
returns-in-Short c = same (ap refused_line c.into-in-Short.ensures ∙ ap none_text (sym c.in-Short.is)) c.put_refused-in-Short.ensures
