use Rattle.compiler_theorem.proofs.kinds.Fits.{frame_fits}
use Rattle.compiler_theorem.proofs.kinds.frames_of_sources_fit.Goals as goal

pub returns : goal.returns
returns c = frame_fits
