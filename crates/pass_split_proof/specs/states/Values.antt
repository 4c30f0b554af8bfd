-- The values of an activation and those of the activation of a part.
use Rattle.std.specs.Prelude.{◌≡◌, ℕ, ◌≤◌, Bool, List, length, Option, Some}
use Rattle.pass_proofs.specs.ir_model.Ty.{Ty}
use Rattle.pass_proofs.specs.ir_model.declared.instr.Instr.{Instr}
use Rattle.pass_proofs.specs.ir_model.declared.module.Function.{Function}
use Rattle.pass_proofs.specs.ir_model.declared.operand.Arg.{Arg}
use Rattle.pass_proofs.specs.ir_model.declared.operand.Callee.{Callee}
use Rattle.pass_proofs.specs.ir_model.declared.operand.Intrinsic.{Intrinsic}
use Rattle.pass_proofs.specs.run_laws.memory.Pointers.{Home, IsValue}
use Rattle.pass_proofs.specs.run_step.Step.{AtInstr, fetch}
use Rattle.pass_proofs.specs.run_step.Values.{Env, value_in}

-- the name is the result of a suspend, which its switch alone reads; the parts have no such values
pub record IsStopResult (f : Function) (v : ℕ) : Type 0 where
  pub block : ℕ
  pub at : ℕ
  pub must_tail : Bool
  pub ty : Option Ty
  pub args : List Arg
  pub there : fetch f block at ≡ AtInstr
      (Instr.Call (Some v) must_tail ty (Callee.Intrinsic Intrinsic.CoroSuspend) args)

-- any other name has what stands for its value
pub record AreValuesOf (f : Function) (homes : List Home) (env other : Env) : Type 0 where
  pub each : (v : ℕ) → (IsStopResult f v → ⊥) → IsValue homes (value_in env v) (value_in other v)
  pub room : length env ≤ length other
