use Rattle.pass_elide_ready.proofs.Modules.{allocas, first_unmarked, marks, named}
use Rattle.pass_elide_ready.proofs.rules.allocas_stand_in_entry_blocks.Goals as goal

pub returns-clause-first : goal.returns-clause-first
returns-clause-first c = allocas

pub returns-clause-named : goal.returns-clause-named
returns-clause-named c = named

pub returns-clause-marks : goal.returns-clause-marks
returns-clause-marks c = marks

pub returns-clause-unmarked : goal.returns-clause-unmarked
returns-clause-unmarked c = first_unmarked
