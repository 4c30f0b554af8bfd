use Rattle.run_source_tables.proofs.Looked.{promise-is}
use Rattle.run_source_tables.proofs.program.SourceProgram.promise_of.Goals as goal

pub returns-in-Some-get : goal.returns-in-Some-get
returns-in-Some-get c = promise-is c.args.self.now.program.module c.args.self.now.facts c.args.self.now.tables c.args.func c.in-Some.function.now c.in-Some-get.table.now c.args.self.now.tables_found c.in-Some.ensures c.in-Some-get.ensures
