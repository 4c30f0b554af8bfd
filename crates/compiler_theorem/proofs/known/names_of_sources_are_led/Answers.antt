use Rattle.compiler_theorem.proofs.known.Names.{names_kept, own_kept, tables_kept}
use Rattle.compiler_theorem.proofs.known.names_of_sources_are_led.Goals as goal

pub returns-clause-names : goal.returns-clause-names
returns-clause-names c = names_kept

pub returns-clause-tables : goal.returns-clause-tables
returns-clause-tables c = tables_kept

pub returns-clause-own : goal.returns-clause-own
returns-clause-own c = own_kept
