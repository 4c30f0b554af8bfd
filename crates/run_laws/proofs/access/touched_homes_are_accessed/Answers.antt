use Rattle.run_laws.proofs.access.Touched.{blocks_touched, free_untouched, same_touches}
use Rattle.run_laws.proofs.access.touched_homes_are_accessed.Goals as goal

pub returns-clause-blocks : goal.returns-clause-blocks
returns-clause-blocks c = blocks_touched

pub returns-clause-free : goal.returns-clause-free
returns-clause-free c = free_untouched

pub returns-clause-operands : goal.returns-clause-operands
returns-clause-operands c = same_touches
