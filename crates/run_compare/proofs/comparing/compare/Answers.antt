use Rattle.std.proofs.Common.{◌∙◌}
use Rattle.run_compare.proofs.Reporting.{reported}
use Rattle.run_plain.specs.Machines.{run_of as plain_run_of}
use Rattle.run_source.specs.Machines.{run_of}
use Rattle.run_compare.proofs.comparing.compare.Goals as goal

pub returns-clause-report : goal.returns-clause-report
returns-clause-report c =
    reported (run_of c.args.source.now) (plain_run_of c.args.lowered.now) c.requires.each c.args.bound
    c.in_ok-source_steps.source_steps c.in_ok-source_steps.ensures.stop (run_of c.run.new.self)
    (c.in_ok-outcome.ensures.done ∙ c.in_ok-source_steps.ensures.ran) c.in_ok-outcome.outcome c.in_ok-outcome.ensures.outcome _ c.is_undefined.ensures
    c.if-is_undefined.false _ c.is_returned.ensures c.in_ok-counts.counts c.in_ok-counts.ensures
