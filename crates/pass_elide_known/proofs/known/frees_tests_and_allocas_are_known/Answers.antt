use Rattle.pass_elide_known.proofs.Besides.{alloca_known, comparison_known, deallocation_known}
use Rattle.pass_elide_known.proofs.known.frees_tests_and_allocas_are_known.Goals as goal

pub returns-clause-frees : goal.returns-clause-frees
returns-clause-frees c = λ e s t r a result must_tail ty args keeps more known giving runs fine block stands is there.
    deallocation_known e keeps more s t r known giving runs fine block stands a result must_tail ty args is there

pub returns-clause-tests : goal.returns-clause-tests
returns-clause-tests c = λ e s t r name pred ty a b keeps more known giving runs fine block stands there.
    comparison_known e keeps more s t r known giving runs fine block stands name pred ty a b there

pub returns-clause-allocas : goal.returns-clause-allocas
returns-clause-allocas c = λ e s t r name align ty keeps more known giving runs fine block stands there.
    alloca_known e keeps more s t r known giving runs fine block stands name ty align there
