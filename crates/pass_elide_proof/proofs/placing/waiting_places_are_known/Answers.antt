use Rattle.pass_elide_proof.proofs.PlacingWaits.{allocation_place, size_place}
use Rattle.pass_elide_proof.proofs.placing.waiting_places_are_known.Goals as goal

pub returns-clause-sizes : goal.returns-clause-sizes
returns-clause-sizes c = λ e s t j result must_tail ty args keeps waits size there.
    size_place e keeps s t waits j result must_tail ty args size there

pub returns-clause-allocations : goal.returns-clause-allocations
returns-clause-allocations c =
    λ e s t a result must_tail ty args word keeps waits known allocates there size.
    allocation_place e keeps s t waits known a result must_tail ty args word allocates there size
