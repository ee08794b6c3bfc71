-- Laws of the definitions in specs/Sample.
use Rattle.std.proofs.Common.{◌≡◌, ℕ, List, refl}
use Rattle.fsk.specs.declared.Mean.{Mean}
use Rattle.fsk.specs.declared.Cand.{Cand}
use Rattle.fsk.specs.declared.Tone.{Tone}
use Rattle.fsk.specs.Types.{Frame}
use Rattle.fsk_sample.specs.Sample.{seek_frame_of, restart_of, away_of, away_in}

-- a sample away from the mean, of the frame that holds it
pub away_held : (max m : ℕ) (fr : Frame) (t : Tone) (mean : Mean) (c : Cand) (idx : ℕ) (fsk : List ℕ) → away_of max m fr t mean c idx fsk ≡ away_in max m (seek_frame_of fr t mean c fr.early) idx fsk
unfolding away_of restart_of seek_frame_of
away_held max m fr t mean c idx fsk = refl
