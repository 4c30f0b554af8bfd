use Rattle.pass_renewed_proof.proofs.Ahead.{ahead_behind, not_alive, not_started_behind, not_used_behind}
use Rattle.pass_renewed_proof.proofs.local_slots_are_parted.Goals as goal

pub returns-clause-behind : goal.returns-clause-behind
returns-clause-behind c = ahead_behind

pub returns-clause-unused : goal.returns-clause-unused
returns-clause-unused c = not_used_behind

pub returns-clause-unstarted : goal.returns-clause-unstarted
returns-clause-unstarted c = not_started_behind

pub returns-clause-dead : goal.returns-clause-dead
returns-clause-dead c = not_alive
