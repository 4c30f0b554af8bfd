use Rattle.std.proofs.Common.{ap}
use Rattle.cli_io.specs.declared.calls.Calls.{Calls}
use Rattle.cli_io.proofs.Counts.{raised_cause_later}
use Rattle.cli_io.proofs.memory.ByteSinkSink.write.Goals as goal

pub returns-then-next_fails-clause-cause : goal.returns-then-next_fails-clause-cause
returns-then-next_fails-clause-cause c =
    raised_cause_later _ _ _ _ (ap (λ (k : Calls). k.faults) c.next_fails.ensures.counted) c.fail.ensures.later (ap (λ (k : Calls). k.faults) c.fail.ensures.counted)
