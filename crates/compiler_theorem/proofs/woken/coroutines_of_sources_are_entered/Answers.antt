use Rattle.compiler_theorem.proofs.woken.Entered.{coroutines_entered, slots_entered}
use Rattle.compiler_theorem.proofs.woken.coroutines_of_sources_are_entered.Goals as goal

pub returns-clause-enters : goal.returns-clause-enters
returns-clause-enters c = coroutines_entered

pub returns-clause-slots : goal.returns-clause-slots
returns-clause-slots c = slots_entered
