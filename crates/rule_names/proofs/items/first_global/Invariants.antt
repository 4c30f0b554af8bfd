use Rattle.std.proofs.Common.{◌≡◌, drop}
use Rattle.ir_base.specs.declared.outcome.Item.{Item}
use Rattle.rule_names.specs.Items.{first_item}
use Rattle.rule_names.proofs.items.first_global.Given as goal

abbrev pub invariant-loop-item : goal.invariant-loop-item
invariant-loop-item g l = first_item Item.Global (g.R.ModuleRule.says l.rule).on_global 0 l.items ≡ first_item Item.Global (g.R.ModuleRule.says l.rule).on_global l.at (drop l.item-index l.items)
