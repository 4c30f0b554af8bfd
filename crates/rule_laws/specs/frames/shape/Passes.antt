-- What the passes that build a coroutine's frame ask, and what they leave.
use Rattle.std.specs.Prelude.{◌≡◌, ℕ, true}
use Rattle.rule_laws.specs.rules.function_rules.Kept.{KeepsFunctionRules}
use Rattle.ir_laws.specs.ir_model.declared.module.Function.{Function}
use Rattle.ir_laws.specs.ir_model.declared.module.Module.{Module}
use Rattle.rule_laws.specs.rules.woven_rules.Pairs.{AreIncomingOnce}
use Rattle.rule_laws.specs.frames.woven_shape.Shaped.{IsShaped}

-- g is a coroutine with begin's value that breaks none of the rules of functions, whose phis name each label once, and whose calls are
-- what splitting asks
pub record IsKept (m : Module) (k : ℕ) (g : Function) (begin : ℕ) : Type 0 where
  pub coroutine : g.coroutine ≡ true
  pub rules : KeepsFunctionRules m k g
  pub once : AreIncomingOnce g
  pub shape : IsShaped k g begin
