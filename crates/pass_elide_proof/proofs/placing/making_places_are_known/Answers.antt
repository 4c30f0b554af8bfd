use Rattle.pass_elide_proof.proofs.PlacingKinds.{alloca_place, allocator_place}
use Rattle.pass_elide_proof.proofs.placing.making_places_are_known.Goals as goal

pub returns-clause-allocas : goal.returns-clause-allocas
returns-clause-allocas c = λ e s t name ty align r keeps by at slots mode.
    alloca_place e keeps s t r.top.func by name ty align at slots mode

pub returns-clause-allocators : goal.returns-clause-allocators
returns-clause-allocators c = λ e s t a result must_tail ty args word r keeps by at slots is size small.
    allocator_place e keeps s t r.top.func by a result must_tail ty args word at slots is size small
