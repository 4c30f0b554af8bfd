use Rattle.pass_elide_proof.proofs.MakingSteps.{block_goes, slot_goes}
use Rattle.pass_elide_proof.proofs.MarkingSteps.{deallocation_goes, marker_goes}
use Rattle.pass_elide_proof.proofs.OrdinarySteps.{goes}
use Rattle.pass_elide_proof.proofs.ordinary.first_steps_stay_beside.Goals as goal

pub returns-clause-ordinary : goal.returns-clause-ordinary
returns-clause-ordinary c = λ e s t n i v r made at. goes e s t n r i v at made

pub returns-clause-allocas : goal.returns-clause-allocas
returns-clause-allocas c = λ e s t n name ty align r made at. slot_goes e s t n r name ty align at made

pub returns-clause-allocators : goal.returns-clause-allocators
returns-clause-allocators c = λ e s t n a result must_tail ty args r made at.
    block_goes e s t n r a result must_tail ty args at made

pub returns-clause-markers : goal.returns-clause-markers
returns-clause-markers c = λ e s t n j result must_tail ty args r made at.
    marker_goes e s t n r result must_tail ty args made j at

pub returns-clause-deallocations : goal.returns-clause-deallocations
returns-clause-deallocations c = λ e s t n a result must_tail ty args memory r made at.
    deallocation_goes e s t n r result must_tail ty args memory made a at
