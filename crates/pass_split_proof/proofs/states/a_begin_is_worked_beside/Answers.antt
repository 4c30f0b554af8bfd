use Rattle.pass_split_proof.proofs.states.Worked.{after, before}
use Rattle.pass_split_proof.proofs.states.a_begin_is_worked_beside.Goals as goal

pub returns-clause-before : goal.returns-clause-before
returns-clause-before c = before

pub returns-clause-after : goal.returns-clause-after
returns-clause-after c = after
