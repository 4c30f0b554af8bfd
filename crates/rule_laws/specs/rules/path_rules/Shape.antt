-- Functions that break no rule on edges or on the calls of coroutines.
use Rattle.std.specs.Prelude.{ℕ, None, ◌≡◌}
use Rattle.rule_shape.specs.OneOfEach.{wrong_call}
use Rattle.rule_shape.specs.Promise.{wrong_promise}
use Rattle.rule_shape.specs.Suspends.{second_final, suspend_too_many}
use Rattle.rule_shape.specs.Switches.{wrong_switch}
use Rattle.rule_phis.specs.Edges.{first_wrong_edge}
use Rattle.ir_laws.specs.ir_model.declared.module.Function.{Function}

-- F1, K2, K3, K4, K10 and K11 have no fault in the function
pub record KeepsShape (func : ℕ) (f : Function) : Type 0 where
  pub edges : first_wrong_edge func f ≡ None
  pub calls : wrong_call func f ≡ None
  pub switches : wrong_switch func f ≡ None
  pub finals : second_final func f ≡ None
  pub promise : wrong_promise func f ≡ None
  pub suspends : suspend_too_many func f ≡ None
