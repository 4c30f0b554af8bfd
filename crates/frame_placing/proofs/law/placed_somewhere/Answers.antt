use Rattle.frame_placing.proofs.Both.{is_apart, is_plain, is_shared}
use Rattle.frame_placing.proofs.law.placed_somewhere.Goals as goal

pub returns-clause-plain : goal.returns-clause-plain
returns-clause-plain c = λ rooms promise. is_plain rooms promise

pub returns-clause-shared : goal.returns-clause-shared
returns-clause-shared c = λ rooms promise conflicts. is_shared rooms promise conflicts

pub returns-clause-grouped : goal.returns-clause-grouped
returns-clause-grouped c = λ rooms promise conflicts one other. is_apart rooms promise conflicts one other
