use Rattle.std.proofs.Common.{refl}
use Rattle.run_laws_worked.proofs.Stored.{joined, target_stores, transferred}
use Rattle.run_laws_worked.proofs.slots_are_stored_in_frames.Goals as goal

pub returns-clause-joined : goal.returns-clause-joined
returns-clause-joined c = joined

pub returns-clause-asked : goal.returns-clause-asked
returns-clause-asked c = transferred

pub returns-clause-source : goal.returns-clause-source
returns-clause-source c = λ m f. refl

pub returns-clause-target : goal.returns-clause-target
returns-clause-target c = target_stores
