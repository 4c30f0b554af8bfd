-- One instruction in both, and what it reads by its names.
use Rattle.std.specs.Prelude.{ℕ, IsTrue}
use Rattle.run_memory.specs.declared.pointer.Value.{Value}
use Rattle.ir_model.specs.Ty.{Ty}
use Rattle.ir_model.specs.declared.operand.Operand.{Operand}
use Rattle.run_step.specs.Reads.{reads_at}
use Rattle.run_step.specs.Step.{Context, Fetched}
use Rattle.run_step.specs.Values.{Env, operand_value, value_in}

abbrev pub IsNoLocal : Operand → Type 0
IsNoLocal (Operand.Local v) = ⊥
IsNoLocal _ = Unit {0}

-- the names that are read stand by a relation of values, and so do the operands that are no locals
pub record IsReadBy (R : Value → Value → Type 0) (c d : Context) (env other : Env) (here : Fetched) : Type 0 where
  pub reads : (v : ℕ) → IsTrue (reads_at v here) → R (value_in env v) (value_in other v)
  pub others : (a : Operand) (ty : Ty) → IsNoLocal a
      → R (operand_value c.code env ty a) (operand_value d.code other ty a)
