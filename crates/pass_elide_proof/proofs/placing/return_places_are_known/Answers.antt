use Rattle.pass_elide_proof.proofs.PlacingLeft.{goes_behind, left_place, return_place}
use Rattle.pass_elide_proof.proofs.placing.return_places_are_known.Goals as goal

pub returns-clause-returned : goal.returns-clause-returned
returns-clause-returned c = λ e s t value r keeps runs there ours theirs.
    return_place e keeps s t r value runs there ours theirs

pub returns-clause-left : goal.returns-clause-left
returns-clause-left c = λ e s t result must_tail ty args keeps there runs left.
    left_place e keeps s result must_tail ty args there t runs left

pub returns-clause-goes : goal.returns-clause-goes
returns-clause-goes c = λ e s result must_tail ty args keeps there ramp.
    goes_behind e keeps s result must_tail ty args there ramp
