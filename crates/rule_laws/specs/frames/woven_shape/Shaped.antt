-- What a coroutine's calls are, and that they stay.
use Rattle.std.specs.Prelude.{◌≡◌, ℕ, true, false, map, Some, None, ◌≤◌}
use Rattle.rule_shape.specs.OneOfEach.{wrong_call}
use Rattle.rule_shape.specs.Switches.{wrong_switch}
use Rattle.rule_shape.specs.Uses.{uses_of}
use Rattle.ir_laws.specs.flow_solver.Paths.{IsListed}
use Rattle.pass_intrinsics.specs.Shapes.{suspends_of}
use Rattle.ir_laws.specs.ir_model.Calls.{first_result}
use Rattle.ir_laws.specs.ir_model.declared.module.Function.{Function}
use Rattle.ir_laws.specs.ir_model.declared.operand.Intrinsic.{Intrinsic}
use Rattle.rule_laws.specs.rules.replaced.Splittable.{AreBlocksBegun}
use Rattle.rule_laws.specs.frames.replaced.Splittable.{HasOwnEdges, tokens_taken}
use Rattle.ir_laws.specs.run_laws.changed.Changed.{Each}
use Rattle.ir_laws.specs.paths.woven_rules.Pairs.{AreDifferent}
use Rattle.rule_laws.specs.rules.woven_rules.Weaving.{Weaving}
use Rattle.rule_laws.specs.rules.woven_shape.Calls.{ShapingCall, calls_of_block, is_suspend_call, shaping_calls}

-- The calls by which f is a coroutine stay in their blocks, with what they name: the end in front, and each suspend with its switch
-- right behind it. A suspend's result isn't used more often, and begin's value stays.
pub record KeepsCalls (w : Weaving) (f g : Function) : Type 0 where
  pub calls : map calls_of_block g.blocks ≡ map calls_of_block f.blocks
  pub uses : (c : ShapingCall) (v : ℕ) → IsListed c (shaping_calls f) → is_suspend_call c ≡ true → c.result ≡ Some v → uses_of g v ≤ uses_of f v
  pub begin : (v : ℕ) → first_result Intrinsic.CoroBegin f ≡ Some v → w.goes v ≡ false

-- A function with begin's value breaks neither K2 nor K3, nothing that asks for begin stands where begin may be missing, and each suspend
-- has a save and edges of its own.
pub record IsShaped (k : ℕ) (f : Function) (begin : ℕ) : Type 0 where
  pub calls : wrong_call k f ≡ None
  pub switches : wrong_switch k f ≡ None
  pub named : first_result Intrinsic.CoroBegin f ≡ Some begin
  pub begun : AreBlocksBegun f begin 0 f.blocks
  pub tokens : AreDifferent (tokens_taken f)
  pub edges : Each (HasOwnEdges f) (suspends_of f)
