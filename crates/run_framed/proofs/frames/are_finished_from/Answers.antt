use Rattle.run_framed.proofs.Wanting.{over-none, over-some}
use Rattle.run_framed.proofs.frames.are_finished_from.Goals as goal
use Rattle.run_framed.specs.FramedEffects.{framed_of}

pub returns-in-None : goal.returns-in-None
returns-in-None c = over-none (framed_of c.args.program.now) c.args.state.now.instances c.args.block c.args.offset c.last_wanted.result c.last_wanted.ensures c.in-None.is

pub returns-in-Some : goal.returns-in-Some
returns-in-Some c = over-some (framed_of c.args.program.now) c.args.state.now.instances c.args.block c.args.offset c.last_wanted.result _ c.last_wanted.ensures c.in-Some.is
