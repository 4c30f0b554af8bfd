use Rattle.compiler_theorem.proofs.known.Once.{none_made, own_once, slots_once}
use Rattle.compiler_theorem.proofs.known.slots_of_sources_are_made_once.Goals as goal

pub returns-clause-makes : goal.returns-clause-makes
returns-clause-makes c = none_made

pub returns-clause-starts : goal.returns-clause-starts
returns-clause-starts c = slots_once

pub returns-clause-own : goal.returns-clause-own
returns-clause-own c = own_once
