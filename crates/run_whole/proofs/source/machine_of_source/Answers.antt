use Rattle.run_whole.proofs.SourceRuns.{started_by}
use Rattle.run_whole.proofs.source.machine_of_source.Goals as goal

pub returns : goal.returns
returns c =
    started_by c.args.source c.args.sizes.now c.args.entry c.args.args.now c.args.answers.now c.in_ok-facts.facts
    c.as_slice.result.now c.start.result c.as_slice.ensures c.in_ok-facts.ensures c.start.ensures
