use Rattle.cli_runs.proofs.Seen.{plain_by}
use Rattle.cli_runs.proofs.runs.plain_answer.Goals as goal

pub returns : goal.returns
returns c =
    plain_by c.args.code c.args.answers.now c.args.call.now c.args.steps c.as_slice-args.result.now c.in_ok-view.view c.plain_shown.result c.as_slice-args.ensures c.in_ok-view.ensures c.plain_shown.ensures
