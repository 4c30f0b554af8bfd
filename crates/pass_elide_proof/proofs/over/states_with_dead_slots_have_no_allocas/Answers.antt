use Rattle.pass_elide_proof.proofs.OverRuns.{no_allocas}
use Rattle.pass_elide_proof.proofs.over.states_with_dead_slots_have_no_allocas.Goals as goal

pub returns : goal.returns
returns c = no_allocas
