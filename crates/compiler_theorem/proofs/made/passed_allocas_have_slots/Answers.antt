use Rattle.compiler_theorem.proofs.made.Early.{made_state}
use Rattle.compiler_theorem.proofs.made.passed_allocas_have_slots.Goals as goal

pub returns : goal.returns
returns c = made_state
