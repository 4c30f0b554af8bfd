use Rattle.std.proofs.Common.{ap}
use Rattle.cli_io.proofs.Counts.{raised_cause}
use Rattle.cli_io.proofs.Writing.{kept_prefix}
use Rattle.cli_io.proofs.adapters.WriteSinkSink.write.Goals as goal

pub returns-in_default-clause-cause : goal.returns-in_default-clause-cause
returns-in_default-clause-cause g c = raised_cause _ _ _ c.fail.ensures.later c.fail.ensures.faults

pub returns-then-not-is_empty-clause-cause : goal.returns-then-not-is_empty-clause-cause
returns-then-not-is_empty-clause-cause g c = raised_cause _ _ _ c.fail-then-not-is_empty.ensures.later c.fail-then-not-is_empty.ensures.faults

pub returns-in-Err-clause-appended : goal.returns-in-Err-clause-appended
returns-in-Err-clause-appended g c =
    kept_prefix _ _ _ _ c.args.bytes.now c.in-Ok.count c.in-Ok.ensures.bytes c.flush.ensures.bytes (ap (λ w. g.W.Write.contents w.writer) c.fail-in-Err.ensures.writer)

pub returns-in-Err-clause-cause : goal.returns-in-Err-clause-cause
returns-in-Err-clause-cause g c = raised_cause _ _ _ c.fail-in-Err.ensures.later c.fail-in-Err.ensures.faults
