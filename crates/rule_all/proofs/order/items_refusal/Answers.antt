use Rattle.std.proofs.Common.{◌≡◌, ap, subst, ◌∙◌, IfOk}
use Rattle.rule_all.specs.Order.{items_refusal}
use Rattle.ir_model.specs.declared.module.Module.{Module}
use Rattle.ir_tables.specs.declared.names.Names.{Names}
use Rattle.rule_all.proofs.order.items_refusal.Goals as goal

pub returns : goal.returns
returns c =
    subst (λ (m : Module). IfOk c.named_refusal.result (λ r. r ≡ items_refusal c.args.stage m c.args.faults.now))
    (ap (λ (n : Names). n.source.now) c.in_ok-sizes.ensures ∙ c.in_ok-names.ensures)
    c.named_refusal.ensures
