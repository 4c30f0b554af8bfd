use Rattle.compiler_theorem.proofs.known.Made.{poison_there, slots_made}
use Rattle.compiler_theorem.proofs.known.Runs.{made_anew}
use Rattle.compiler_theorem.proofs.known.slots_of_sources_are_made.Goals as goal

pub returns-clause-anew : goal.returns-clause-anew
returns-clause-anew c = made_anew

pub returns-clause-made : goal.returns-clause-made
returns-clause-made c = slots_made

pub returns-clause-poison : goal.returns-clause-poison
returns-clause-poison c = poison_there
