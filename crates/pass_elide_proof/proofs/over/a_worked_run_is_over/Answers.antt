use Rattle.std.proofs.Common.{refl}
use Rattle.pass_elide_proof.proofs.OverRuns.{worked_apart}
use Rattle.pass_elide_proof.proofs.over.a_worked_run_is_over.Goals as goal

pub returns-clause-apart : goal.returns-clause-apart
returns-clause-apart c = worked_apart

pub returns-clause-over : goal.returns-clause-over
returns-clause-over c = record { returned = tt; outcome = refl; events = refl; allocs = refl }
