use Rattle.run_framed.proofs.GivenRamps.{ramps-next}
use Rattle.run_framed.proofs.ramps.given_ramps.Goals as goal

pub loop-func-preserved : goal.loop-func-preserved
loop-func-preserved c = ramps-next c.args.functions.now c.loop-func.func c.index-functions-func.result c.loop-func.all c.note_ramp.new.all c.loop-func-test.true c.index-functions-func.is c.loop-func.invariant c.in_ok-note_ramp.ensures
