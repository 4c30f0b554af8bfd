-- What a module is refused for, where the faults of its functions are told.
use Rattle.std.proofs.Common.{◌≡◌, List, Option, Ok, Err}
use Rattle.std.specs.Prelude.{Result, IfOk}
use Rattle.rule_all.specs.Faults.{HaveFaults}
use Rattle.rule_all.specs.Order.{refusal}
use Rattle.rule_all.specs.Refused.{IsRefused}
use Rattle.rule_all.specs.declared.faults.PathFaults.{PathFaults}
use Rattle.ir_model.specs.declared.module.Module.{Module}
use Rattle.rule_modules.specs.declared.order.Refusal.{Refusal}
use Rattle.rule_names.specs.declared.stage.Stage.{Stage}

pub refused_by : {E : Type 0} (stage : Stage) (m : Module) (faults : List PathFaults) (r : Result (Option Refusal) E) → HaveFaults m.functions faults → IfOk r (λ x. x ≡ refusal stage m faults) → IfOk r (λ x. IsRefused stage m x)
refused_by stage m faults (Ok x) have is = record { faults = faults; have = have; is = is }
refused_by stage m faults (Err e) have is = is
