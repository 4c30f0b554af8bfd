use Rattle.run_plain.specs.Machines.{run_of as plain_run_of}
use Rattle.run_source.specs.Machines.{run_of}
use Rattle.cli_compare.proofs.Reported.{followed_with, reported_with}
use Rattle.cli_compare.proofs.answers.compare_runs.Goals as goal

pub compare_machines-requires : goal.compare_machines-requires
compare_machines-requires c =
    followed_with c.args.source c.args.sizes.now c.args.lowered c.args.words.now c.args.call.now c.args.other
    c.as_slice-args.result.now c.as_slice-answers.result.now c.as_slice-args.ensures c.as_slice-answers.ensures
    (run_of c.in_ok-first.first.machine) (plain_run_of c.in_ok-second.second.machine) c.in_ok-first.ensures.started
    c.in_ok-second.ensures.started c.requires

pub returns : goal.returns
returns c =
    reported_with c.args.source c.args.sizes.now c.args.lowered c.args.words.now c.args.call.now c.args.other
    c.as_slice-args.result.now c.as_slice-answers.result.now c.as_slice-args.ensures c.as_slice-answers.ensures
    (run_of c.in_ok-first.first.machine) (plain_run_of c.in_ok-second.second.machine) c.in_ok-first.ensures.started
    c.in_ok-second.ensures.started c.compare_machines.result c.compare_machines.ensures
