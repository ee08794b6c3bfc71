use Rattle.fsk_sample.specs.Sample.{seek_of}
use Rattle.fsk_sample.proofs.Sample.{away_held}
use Rattle.fsk_sample.proofs.seek.Goals as goal

pub returns-then-far_from : goal.returns-then-far_from
unfolding seek_of
returns-then-far_from c =
    simp (← c.seed-mean.ensures, ← c.far_from.ensures, c.if-far_from.true, ← c.push_cand-c.ensures, away_held, ← c.seek_frame.ensures, ← c.away.ensures)
