-- What the functions of a module define whose parts are parts of the grammar are positions of their tables of names.
use Rattle.rule_laws.proofs.rules.source_rules.Shaped.{function_shaped, function_tabled}
use Rattle.rule_laws.specs.rules.function_rules.Tabled.{AreAllTabled}
use Rattle.ir_laws.specs.ir_model.declared.module.Module.{Module}
use Rattle.text_canonical.specs.order.Shape.{IsShaped}

pub all_shaped : (m : Module) → IsShaped m → AreAllTabled m
all_shaped m h k f there = function_tabled k f (function_shaped m.functions k f h.functions there)
