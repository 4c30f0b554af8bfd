use Rattle.cli_runs.proofs.Seen.{framed_by}
use Rattle.cli_runs.proofs.runs.framed_answer.Goals as goal

pub returns : goal.returns
returns c =
    framed_by c.args.framed c.args.layouts.now c.args.answers.now c.args.call.now c.args.steps c.as_slice-args.result.now c.in_ok-view.view c.framed_shown.result c.as_slice-args.ensures c.in_ok-view.ensures c.framed_shown.ensures
