use Rattle.pass_elide_proof.proofs.CallersWorked.{worked_blocks, worked_end, worked_moves, worked_onward, worked_save, worked_sum, worked_unmarked}
use Rattle.pass_elide_proof.proofs.kept_callers.worked_steps_keep_callers.Goals as goal

pub returns-clause-save : goal.returns-clause-save
returns-clause-save c = worked_save

pub returns-clause-end : goal.returns-clause-end
returns-clause-end c = worked_end

pub returns-clause-sum : goal.returns-clause-sum
returns-clause-sum c = worked_sum

pub returns-clause-onward : goal.returns-clause-onward
returns-clause-onward c = worked_onward

pub returns-clause-moves : goal.returns-clause-moves
returns-clause-moves c = worked_moves

pub returns-clause-blocks : goal.returns-clause-blocks
returns-clause-blocks c = worked_blocks

pub returns-clause-unmarked : goal.returns-clause-unmarked
returns-clause-unmarked c = worked_unmarked
