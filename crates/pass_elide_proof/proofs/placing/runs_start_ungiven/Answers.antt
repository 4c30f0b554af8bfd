use Rattle.pass_elide_proof.proofs.PlacingStarts.{first_passed, first_shapes}
use Rattle.pass_elide_proof.proofs.placing.runs_start_ungiven.Goals as goal

pub returns-clause-passed : goal.returns-clause-passed
returns-clause-passed c = first_passed

pub returns-clause-shapes : goal.returns-clause-shapes
returns-clause-shapes c = first_shapes
