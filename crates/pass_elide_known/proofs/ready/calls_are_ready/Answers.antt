use Rattle.pass_elide_known.proofs.ReadyPlaces.{named_ready, pointed_ready}
use Rattle.pass_elide_known.proofs.ready.calls_are_ready.Goals as goal

pub returns-clause-named : goal.returns-clause-named
returns-clause-named c = λ e s u r result must_tail ty n args keeps known giving runs fine there.
    named_ready e keeps s known runs fine u r giving result must_tail ty n args there

pub returns-clause-pointed : goal.returns-clause-pointed
returns-clause-pointed c = λ e s u r result must_tail ty v args keeps known giving runs fine there.
    pointed_ready e keeps s known runs fine u r giving result must_tail ty v args there
