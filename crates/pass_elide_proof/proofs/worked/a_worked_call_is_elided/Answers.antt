use Rattle.std.proofs.Common.{refl}
use Rattle.pass_elide_proof.proofs.worked.a_worked_call_is_elided.Goals as goal

pub returns-clause-pass : goal.returns-clause-pass
returns-clause-pass c = refl

pub returns-clause-runs : goal.returns-clause-runs
returns-clause-runs c = record { first = refl; second = refl; events = refl; allocs = refl; one = refl }
