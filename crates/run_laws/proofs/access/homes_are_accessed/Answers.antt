use Rattle.run_laws.proofs.access.Marked.{makes_followed, marks_followed, slots_followed}
use Rattle.run_laws.proofs.access.Touched.{accesses_followed}
use Rattle.run_laws.proofs.access.homes_are_accessed.Goals as goal

pub returns-clause-step : goal.returns-clause-step
returns-clause-step c = accesses_followed

pub returns-clause-marks : goal.returns-clause-marks
returns-clause-marks c = λ homes c d w x here. marks_followed homes c d w x here

pub returns-clause-makes : goal.returns-clause-makes
returns-clause-makes c = λ homes c d w x here known. makes_followed homes c d w x known here

pub returns-clause-slots : goal.returns-clause-slots
returns-clause-slots c = slots_followed
