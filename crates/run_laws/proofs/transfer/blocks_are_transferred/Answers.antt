use Rattle.run_laws.proofs.transfer.Makes.{makes_over}
use Rattle.run_laws.proofs.transfer.Marks.{marks_over}
use Rattle.run_laws.proofs.transfer.blocks_are_transferred.Goals as goal

pub returns-clause-made : goal.returns-clause-made
returns-clause-made c = makes_over

pub returns-clause-marked : goal.returns-clause-marked
returns-clause-marked c = marks_over
