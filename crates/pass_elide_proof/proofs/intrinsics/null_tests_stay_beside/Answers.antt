use Rattle.pass_elide_proof.proofs.NullTests.{test_beside}
use Rattle.pass_elide_proof.proofs.intrinsics.null_tests_stay_beside.Goals as goal

pub returns : goal.returns
returns c = λ e s t name pred a b r at. test_beside e s t name pred a b r at
