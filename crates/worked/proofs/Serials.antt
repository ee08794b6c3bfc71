use mathlib.Core.Path.{refl}
use Rattle.worked.specs.Serials.{after, fetched, Counted, calls, parts}

pub counted : Counted calls parts
unfolding after fetched
counted = (refl, refl)
