use Rattle.pass_elide_proof.proofs.MarkingSteps.{deallocations_stay_beside, markers_stay_beside}
use Rattle.pass_elide_proof.proofs.ordinary.changed_blocks_stay_beside.Goals as goal

pub returns-clause-markers : goal.returns-clause-markers
returns-clause-markers c = markers_stay_beside

pub returns-clause-deallocations : goal.returns-clause-deallocations
returns-clause-deallocations c = deallocations_stay_beside
