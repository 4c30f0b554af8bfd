use Rattle.std.proofs.Common.{◌≡◌, subst, IfOk}
use Rattle.ir_model.specs.declared.module.Module.{Module}
use Rattle.rule_modules.specs.Order.{module_refusal}
use Rattle.rule_modules.proofs.order.module_refusal.Goals as goal

pub returns : goal.returns
returns c = subst (λ (m : Module). IfOk c.named_refusal.result (λ r. r ≡ module_refusal c.args.stage m)) c.in_ok-names.ensures c.named_refusal.ensures
