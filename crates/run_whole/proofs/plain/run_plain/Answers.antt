use Rattle.run_plain.specs.Machines.{run_of}
use Rattle.run_whole.proofs.PlainRuns.{shows_plain}
use Rattle.run_whole.proofs.plain.run_plain.Goals as goal

pub returns : goal.returns
returns c =
    shows_plain c.args.code c.args.entry c.args.args.now c.args.answers.now c.args.steps
    (run_of c.in_ok-machine.machine) c.run.new.self c.in_ok-outcome.outcome c.in_ok-machine.ensures
    c.in_ok-outcome.ensures.done c.in_ok-outcome.ensures.outcome
