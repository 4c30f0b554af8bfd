use Rattle.run_source_tables.proofs.Looked.{ramp-is}
use Rattle.run_source_tables.proofs.program.SourceProgram.is_ramp_slot.Goals as goal

pub returns-in-Some-get-2 : goal.returns-in-Some-get-2
returns-in-Some-get-2 c = ramp-is c.args.self.now.program.module c.args.self.now.facts c.args.self.now.tables c.args.func c.args.alloca c.in-Some.field-0.now c.in-Some-get.table.now c.in-Some-get-2.mark.now c.args.self.now.tables_found c.in-Some.ensures c.in-Some-get.ensures c.in-Some-get-2.ensures
