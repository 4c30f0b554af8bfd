use Rattle.run_framed.specs.Machines.{run_of}
use Rattle.run_whole.proofs.FramedRuns.{shows_framed}
use Rattle.run_whole.proofs.framed.run_framed.Goals as goal

pub returns : goal.returns
returns c =
    shows_framed c.args.framed c.args.layouts.now c.args.entry c.args.args.now c.args.answers.now c.args.steps
    (run_of c.in_ok-machine.machine) c.run.new.self c.in_ok-outcome.outcome c.in_ok-machine.ensures
    c.in_ok-outcome.ensures.done c.in_ok-outcome.ensures.outcome
