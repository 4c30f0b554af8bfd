use Rattle.run_step_code.proofs.Types.{decided}
use Rattle.run_step_code.proofs.call.is_same_type.Goals as goal

pub returns : goal.returns
returns c = decided c.is_same.result c.args.a.now c.args.b.now c.is_same.ensures
