use Rattle.pass_elide_known.proofs.ReadyPlaces.{alloca_ready, allocator_ready}
use Rattle.pass_elide_known.proofs.ready.makings_are_ready.Goals as goal

pub returns-clause-allocas : goal.returns-clause-allocas
returns-clause-allocas c = λ e s u r name align ty keeps known giving runs fine there mode.
    alloca_ready e keeps s known runs fine u r giving name ty align there mode

pub returns-clause-allocators : goal.returns-clause-allocators
returns-clause-allocators c = λ e s u r a result must_tail ty args keeps known giving runs fine there is.
    allocator_ready e keeps s known runs fine u r giving a result must_tail ty args there is
