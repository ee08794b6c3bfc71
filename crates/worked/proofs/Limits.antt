use mathlib.Core.Path.{refl}
use Rattle.worked.specs.Limits.{passes, Limited, limits, others}

pub limited : Limited limits others
unfolding passes
limited = (refl, refl)
