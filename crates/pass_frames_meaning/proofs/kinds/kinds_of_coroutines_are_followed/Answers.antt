use Rattle.pass_frames_meaning.proofs.kinds.Whole.{alloca_kinds, intrinsic_kinds, measured_kinds}
use Rattle.pass_frames_meaning.proofs.kinds.kinds_of_coroutines_are_followed.Goals as goal

pub returns-clause-intrinsics : goal.returns-clause-intrinsics
returns-clause-intrinsics c = intrinsic_kinds

pub returns-clause-allocas : goal.returns-clause-allocas
returns-clause-allocas c = alloca_kinds

pub returns-clause-measured : goal.returns-clause-measured
returns-clause-measured c = measured_kinds
