use Rattle.run_source_tables.proofs.Looked.{left-none}
use Rattle.run_source_tables.proofs.program.SourceProgram.may_be_left.Goals as goal

pub returns-in-Some-get-2 : goal.returns-in-Some-get-2
returns-in-Some-get-2 c = left-none c.args.self.now.program.module c.args.self.now.facts c.args.self.now.tables c.args.func c.args.block c.in-Some.field-0.now c.in-Some-get.table.now c.in-Some-get-2.mark.now c.args.self.now.tables_found c.in-Some.ensures c.in-Some-get.ensures c.in-Some-get-2.ensures
