use mathlib.Core.Path.{◌≡◌, refl, ap, ◌∙◌}
use Rattle.shared.specs.Core.{whole_out, numbered}
use Rattle.shared.specs.declared.Out.{Out}
use Rattle.shared.specs.declared.OutCore.{OutCore}
use Rattle.fsk.specs.Core.{whole_frame}
use Rattle.fsk.specs.Types.{Frame}
use Rattle.fsk.specs.Types.{FrameCore}
use Rattle.burst.specs.Makers.{burst_of}
use Rattle.burst.specs.Types.{Burst}
use Rattle.step.proofs.core_burst.Goals as goal

-- a burst is made of its own parts
burst_back : (b : Burst) (f : FrameCore) (o g : OutCore) → whole_frame b.frame.cand.cand_f f ≡ b.frame → numbered b.out_ook.serial (whole_out o) ≡ b.out_ook → numbered b.out_fsk.serial (whole_out g) ≡ b.out_fsk
    → burst_of b.high b.e_prev b.env b.pac b.train (numbered b.out_ook.serial (whole_out o)) b.frames b.pres (whole_frame b.frame.cand.cand_f f) (numbered b.out_fsk.serial (whole_out g)) ≡ b
burst_back b f o g e₁ e₂ e₃ =
    ap (λ (x : Frame). burst_of b.high b.e_prev b.env b.pac b.train (numbered b.out_ook.serial (whole_out o)) b.frames b.pres x (numbered b.out_fsk.serial (whole_out g))) e₁
    ∙ ap (λ (x : Out). burst_of b.high b.e_prev b.env b.pac b.train x b.frames b.pres b.frame (numbered b.out_fsk.serial (whole_out g))) e₂
    ∙ ap (λ (x : Out). burst_of b.high b.e_prev b.env b.pac b.train b.out_ook b.frames b.pres b.frame x) e₃

pub returns : goal.returns
returns c = simp (c.with_frame.ensures, c.with_cand.ensures) (burst_back _ _ _ _ refl c.core_out.ensures c.core_out-2.ensures)
