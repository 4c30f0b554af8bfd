use Rattle.pass_elide_ready.proofs.Modules.{bytes, own, small_allocas, steady}
use Rattle.pass_elide_ready.proofs.rules.instructions_keep_rules.Goals as goal

pub returns-clause-steady : goal.returns-clause-steady
returns-clause-steady c = steady

pub returns-clause-bytes : goal.returns-clause-bytes
returns-clause-bytes c = bytes

pub returns-clause-allocas : goal.returns-clause-allocas
returns-clause-allocas c = small_allocas

pub returns-clause-own : goal.returns-clause-own
returns-clause-own c = own
