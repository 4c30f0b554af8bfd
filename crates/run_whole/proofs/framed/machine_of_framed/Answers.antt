use Rattle.run_whole.proofs.FramedRuns.{started_by}
use Rattle.run_whole.proofs.framed.machine_of_framed.Goals as goal

pub returns : goal.returns
returns c =
    started_by c.args.framed c.args.layouts.now c.args.entry c.args.args.now c.args.answers.now c.in_ok-facts.facts
    c.as_slice.result.now c.start.result c.as_slice.ensures c.in_ok-facts.ensures c.start.ensures
