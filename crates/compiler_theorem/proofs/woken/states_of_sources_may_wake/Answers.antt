use Rattle.compiler_theorem.proofs.woken.States.{may_enter, may_wake}
use Rattle.compiler_theorem.proofs.woken.states_of_sources_may_wake.Goals as goal

pub returns-clause-wakes : goal.returns-clause-wakes
returns-clause-wakes c = may_wake

pub returns-clause-enters : goal.returns-clause-enters
returns-clause-enters c = may_enter
