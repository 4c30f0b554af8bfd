-- Lemmas on parts, that speak of no pass.
use Rattle.std.specs.Prelude.{◌≡◌, ℕ, List, Some, None}
use Rattle.run_laws.specs.ir_model.declared.instr.Case.{Case}
use Rattle.run_laws.specs.ir_model.declared.instr.Terminator.{Terminator}
use Rattle.run_laws.specs.ir_model.declared.operand.Arg.{Arg}
use Rattle.run_laws.specs.ir_model.declared.operand.Operand.{Operand}
use Rattle.run_laws.specs.changed.Changed.{Each}

-- an argument of the same type
pub record ArgStays (R : Operand → Operand → Type 0) (a b : Arg) : Type 0 where
  pub ty : b.ty ≡ a.ty
  pub value : R a.value b.value

-- the same terminator but for its operands; the values of a switch's cases stay
pub data TermStays (R : Operand → Operand → Type 0) : Terminator → Terminator → Type 0 where
  Jump : (label : ℕ) → TermStays R (Terminator.Jump label) (Terminator.Jump label)
  Branch : (x y : Operand) (a b : ℕ) → R x y → TermStays R (Terminator.Branch x a b) (Terminator.Branch y a b)
  Switch : (a c : Arg) (default : ℕ) (cases : List Case) → ArgStays R a c → Each (λ (k : Case). R k.arg.value k.arg.value) cases → TermStays R (Terminator.Switch a default cases) (Terminator.Switch c default cases)
  Return : (a c : Arg) → ArgStays R a c → TermStays R (Terminator.Ret (Some a)) (Terminator.Ret (Some c))
  ReturnVoid : TermStays R (Terminator.Ret None) (Terminator.Ret None)
  Unreachable : TermStays R Terminator.Unreachable Terminator.Unreachable
