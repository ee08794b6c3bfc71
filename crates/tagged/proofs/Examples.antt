-- Every row of the table is right: computed from the definitions.
use mathlib.Core.Path.{refl}
use Rattle.lines.specs.Line.{leading, decimal, idle_line, refused_line}
use Rattle.tagged.specs.Tagged.{tagged}
use Rattle.tagged.specs.Examples.{Right, table}

pub examples : Right table
unfolding leading decimal idle_line refused_line tagged
examples = refl
