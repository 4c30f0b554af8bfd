use Rattle.run_source.specs.Machines.{run_of}
use Rattle.run_whole.proofs.SourceRuns.{shows_source}
use Rattle.run_whole.proofs.source.run_source.Goals as goal

pub returns : goal.returns
returns c =
    shows_source c.args.source c.args.sizes.now c.args.entry c.args.args.now c.args.answers.now c.args.steps
    (run_of c.in_ok-machine.machine) c.run.new.self c.in_ok-outcome.outcome c.in_ok-machine.ensures
    c.in_ok-outcome.ensures.done c.in_ok-outcome.ensures.outcome
