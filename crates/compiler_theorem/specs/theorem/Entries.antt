-- Calls that a run begins with, in a source and in what is lowered of it.
use Rattle.std.specs.List.{AllByRecursion}
use Rattle.std.specs.Prelude.{◌≡◌, ℕ, ℤ, false, List, Some, slice_get}
use Rattle.compiler.specs.ir_base.declared.outcome.Word.{Word}
use Rattle.compiler.specs.ir_model.Ty.{int}
use Rattle.compiler.specs.ir_model.declared.module.Function.{Function}
use Rattle.compiler.specs.ir_model.declared.module.Module.{Module}
use Rattle.compiler.specs.ir_model.declared.module.Param.{Param}
use Rattle.pass_frames_meaning.specs.run_types.States.{AreArguments}

-- the function at a position, its arguments, and the answers to the calls that the run observes
pub record Run : Type 0 where
  pub entry : ℕ
  pub args : List Word
  pub answers : List ℤ

-- of the type of integers of some width
abbrev pub IsIntegerParam : Param → Type 0
IsIntegerParam p = (w : ℕ) × (p.ty ≡ int w)

-- the entry is a function that is no coroutine, and its parameters are integers
pub record IsCallable (m : Module) (entry : ℕ) : Type 0 where
  pub function : Function
  pub there : slice_get m.functions entry ≡ Some function
  pub plain : function.coroutine ≡ false
  pub integers : AllByRecursion IsIntegerParam function.params

-- a call that a run may begin with: its arguments are words of its parameters' widths
pub record IsEntryCall (m : Module) (r : Run) : Type 0 where
  pub callable : IsCallable m r.entry
  pub fits : AreArguments m r.entry r.args

-- in the other module the function of that name is at the other position
pub record IsEntry (m n : Module) (entry other : ℕ) : Type 0 where
  pub callable : IsCallable m entry
  pub counterpart : Function
  pub is : slice_get n.functions other ≡ Some counterpart
  pub name : counterpart.name ≡ callable.function.name
