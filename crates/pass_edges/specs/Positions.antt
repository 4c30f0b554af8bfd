-- Where the operands of a phi stand.
use Rattle.std.specs.Prelude.{◌≡◌, ℕ, Bool, true, false, List, slice_get, Some, None, Option, option_map, ◌==◌}
use Rattle.indexmap.specs.IndexMap.{IndexMap, get}
use Rattle.ir_model.specs.Names.{first_where}
use Rattle.ir_model.specs.declared.instr.Incoming.{Incoming}
use Rattle.ir_model.specs.declared.operand.Operand.{Operand}

-- a position where there was none and a test holds
abbrev pub or_at : Option ℕ → Bool → ℕ → Option ℕ
or_at (Some i) b at = Some i
or_at None true at = Some at
or_at None false at = None

-- the positions are those of the first operands for each label
pub record FindsFirst {S : Type 0} (incoming : List Incoming) (positions : IndexMap ℕ ℕ S) : Type 0 where
  pub first : (n : ℕ) → get ◌==◌ positions n ≡ first_where (λ i. i.from == n) incoming

abbrev pub operand_at : List Incoming → Option ℕ → Option Operand
operand_at incoming None = None
operand_at incoming (Some at) = option_map (λ i. i.value) (slice_get incoming at)
