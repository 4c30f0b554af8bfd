use Rattle.run_step.proofs.Tables.{mark-is}
use Rattle.run_step.proofs.program.Program.has_markers.Goals as goal

pub returns-in-Some-get-2 : goal.returns-in-Some-get-2
returns-in-Some-get-2 c =
    mark-is c.args.self.now.module c.args.self.now.tables c.args.func c.in-Some.function.now c.in-Some-get.table.now c.args.name c.in-Some-get-2.mark.now c.args.self.now.tables_found c.in-Some.ensures c.in-Some-get.ensures c.in-Some-get-2.ensures
