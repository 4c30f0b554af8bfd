-- What a function becomes by instructions that are woven in: what is known of the new names, and which operand may stand in the place of which.
use Rattle.std.specs.Prelude.{◌≡◌, ℕ, Bool, true, false, List, Option, is_some, ◌≤◌}
use Rattle.rule_uses.specs.Undefined.{ReachesWithout, params_of}
use Rattle.ir_laws.specs.flow_solver.Paths.{IsListed}
use Rattle.ir_laws.specs.ir_model.declared.module.Function.{Function}
use Rattle.ir_laws.specs.ir_model.declared.operand.Operand.{Operand}
use Rattle.ir_laws.specs.ir_locals.Tables.{or_first}
use Rattle.rule_names.specs.declared.stage.Stage.{Stage}
use Rattle.rule_values.specs.Kinds.{value_kind}
use Rattle.rule_values.specs.declared.kinds.Kind.{Kind}

-- Names from `first` on and before `after` are new; `kinds` says what a new value is; `fronts` are new values that the entry block
-- makes; `goes` says which of the names before `first` are no more. Allocas are no larger than `stage` allows.
pub record Weaving : Type 0 where
  pub stage : Stage
  pub first : ℕ
  pub after : ℕ
  pub kinds : ℕ → Option Kind
  pub fronts : List ℕ
  pub goes : ℕ → Bool

-- what the values are, old and new
abbrev pub kinds_with : Weaving → Function → ℕ → Option Kind
kinds_with w f n = or_first (value_kind f n) (w.kinds n)

-- ---- operands

-- the operand is a local that goes
abbrev pub goes_in : Weaving → Operand → Bool
goes_in w (Operand.Local v) = w.goes v
goes_in w _ = false

-- An operand in the place of an operand, where a block of the result has made some values: the same one, unless it goes, or a new
-- value that is made already and is what the old one is.
pub data IsInPlace (w : Weaving) (f : Function) (made : List ℕ) : Operand → Operand → Type 0 where
  Same : (x : Operand) → goes_in w x ≡ false → IsInPlace w f made x x
  Fetched : (v n : ℕ) → w.first ≤ n → IsListed n made → w.kinds n ≡ value_kind f v → IsInPlace w f made (Operand.Local v) (Operand.Local n)

-- no path from the entry leads to a place of a block without the value, where the block has made some values before it
abbrev pub IsThere : Function → ℕ → List ℕ → ℕ → Type 0
IsThere f block before v = ReachesWithout f v block → (IsListed v before → ⊥) → (IsListed v (params_of f) → ⊥) → ⊥

-- the operand names nothing
abbrev pub names_nothing : Operand → Bool
names_nothing (Operand.Local v) = false
names_nothing (Operand.Global n) = false
names_nothing _ = true

-- An operand of a new instruction, in a block of the result that has made some values: a new value that is made already, one of the
-- entry block in another block, an old value without which no path leads there, or a constant.
pub data IsKnown (w : Weaving) (f : Function) (block : ℕ) (made : List ℕ) : Operand → Type 0 where
  New : (n : ℕ) → w.first ≤ n → IsListed n made → IsKnown w f block made (Operand.Local n)
  Front : (n : ℕ) → (block ≡ 0 → ⊥) → IsListed n w.fronts → IsKnown w f block made (Operand.Local n)
  Old : (v : ℕ) → w.goes v ≡ false → is_some (value_kind f v) ≡ true → IsThere f block made v → IsKnown w f block made (Operand.Local v)
  Constant : (x : Operand) → names_nothing x ≡ true → IsKnown w f block made x
