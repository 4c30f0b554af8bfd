-- Values that fit their types: a value of type iN is a word of N bits, or poison.
use Rattle.std.specs.Prelude.{ℕ, ◌<◌, List, [], ◌∷◌, Option, Some, None}
use Rattle.std.specs.List.{AllByRecursion}
use Rattle.run_hooks.specs.ir_model.Ty.{Ty}
use Rattle.run_hooks.specs.ir_model.declared.module.Function.{Function}
use Rattle.run_hooks.specs.ir_model.declared.module.Param.{Param}
use Rattle.rule_values.specs.Kinds.{kind_of, value_kind}
use Rattle.rule_values.specs.declared.kinds.Kind.{Kind}
use Rattle.run_hooks.specs.run_ints.Words.{IsWordOf}
use Rattle.run_hooks.specs.run_memory.declared.block.Byte.{Byte}
use Rattle.run_hooks.specs.run_memory.declared.block.MemoryBlock.{MemoryBlock}
use Rattle.run_hooks.specs.run_memory.declared.pointer.Value.{Value}
use Rattle.run_hooks.specs.run_step.Values.{Env, value_in}

-- ---- values

-- a word of a width, or poison
abbrev pub IsInteger : ℕ → Value → Type 0
IsInteger w Value.Poison = Unit {0}
IsInteger w (Value.Int x) = IsWordOf w x
IsInteger w (Value.Ptr p) = ⊥

-- it is asked of integers alone
abbrev pub FitsKind : Option Kind → Value → Type 0
FitsKind (Some (Kind.Int w)) v = IsInteger w v
FitsKind kind v = Unit {0}

abbrev pub FitsType : Ty → Value → Type 0
FitsType ty v = FitsKind (Some (kind_of ty)) v

-- what a function gives back
abbrev pub FitsResult : Option Ty → Value → Type 0
FitsResult None v = Unit {0}
FitsResult (Some ty) v = FitsType ty v

-- the values of an activation fit the names of its function
abbrev pub AreFitting : Function → Env → Type 0
AreFitting f env = (n : ℕ) → FitsKind (value_kind f n) (value_in env n)

-- arguments fit parameters, one after the other
abbrev pub FitParams : List Param → List Value → Type 0
FitParams [] vs = Unit {0}
FitParams (p ∷ params) [] = Unit {0}
FitParams (p ∷ params) (v ∷ vs) = FitsType p.ty v × FitParams params vs

-- ---- memory

-- a byte of a number is one of 8 bits
abbrev pub IsByte : Byte → Type 0
IsByte (Byte.Number n) = n < 256
IsByte b = Unit {0}

abbrev pub AreBytes : List Byte → Type 0
AreBytes bytes = AllByRecursion IsByte bytes

abbrev pub HaveBytes : List MemoryBlock → Type 0
HaveBytes memory = AllByRecursion (λ x. AreBytes x.bytes) memory
