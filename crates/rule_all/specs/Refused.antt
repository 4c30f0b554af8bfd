-- What a module is refused for.
use Rattle.std.specs.Prelude.{List, Option, ◌≡◌}
use Rattle.rule_all.specs.Faults.{HaveFaults}
use Rattle.rule_all.specs.Order.{refusal}
use Rattle.rule_all.specs.declared.faults.PathFaults.{PathFaults}
use Rattle.ir_model.specs.declared.module.Module.{Module}
use Rattle.rule_modules.specs.declared.order.Refusal.{Refusal}
use Rattle.rule_names.specs.declared.stage.Stage.{Stage}

-- the first broken rule and its first place, or none where no rule is broken
pub record IsRefused (stage : Stage) (m : Module) (r : Option Refusal) : Type 0 where
  pub faults : List PathFaults
  pub have : HaveFaults m.functions faults
  pub is : r ≡ refusal stage m faults
