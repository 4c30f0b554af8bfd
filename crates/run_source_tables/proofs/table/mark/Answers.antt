use Rattle.run_step.proofs.Marking.{one-marked}
use Rattle.run_source_tables.proofs.table.mark.Goals as goal

pub returns : goal.returns
returns c = one-marked c.args.table.now c.set.new.self c.args.at c.set.ensures
