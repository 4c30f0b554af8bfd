-- Lemmas on simulation, that speak of no pass.
use Rattle.std.proofs.Common.{◌≡◌, refl}
use Rattle.ir_laws.specs.run_agreement.Machines.{IsRunning}
use Rattle.ir_laws.specs.ir_base.declared.outcome.Outcome.{Outcome}

pub running_is : (o : Outcome) → IsRunning o → o ≡ Outcome.Running
running_is (Outcome.Returned v) h = absurd h
running_is Outcome.Running h = refl
running_is (Outcome.Undefined cause place) h = absurd h
