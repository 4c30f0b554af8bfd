use Rattle.cli_runs.proofs.Seen.{source_by}
use Rattle.cli_runs.proofs.runs.source_answer.Goals as goal

pub returns : goal.returns
returns c =
    source_by c.args.source c.args.sizes.now c.args.answers.now c.args.call.now c.args.steps c.as_slice-args.result.now c.in_ok-view.view c.source_shown.result c.as_slice-args.ensures c.in_ok-view.ensures c.source_shown.ensures
