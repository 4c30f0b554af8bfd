-- The places of a function's instructions that pass a test.
use Rattle.std.specs.Prelude.{ℕ, Bool, true, false, List, [], length, Some, None, Option, ◌+◌, ◌&&◌, ◌∷◌, ◌++◌, if◌then◌else◌, ◌==◌}
use Rattle.ir_base.specs.declared.outcome.Place.{Place}
use Rattle.rule_windows.specs.ir_parts.Parts.{instr_place}
use Rattle.ir_model.specs.declared.instr.Instr.{Instr}
use Rattle.ir_model.specs.declared.module.Block.{Block}
use Rattle.ir_model.specs.declared.module.Function.{Function}

abbrev pub place_of_passing : (Instr → Bool) → Instr → Place → List Place
place_of_passing test i p = if test i then p ∷ [] else []

-- those among a block's instructions from a position on
abbrev pub places_in : (Instr → Bool) → ℕ → ℕ → ℕ → List Instr → List Place
places_in test func block at [] = []
places_in test func block at (i ∷ is) = place_of_passing test i (instr_place func block at) ++ places_in test func block (at + 1) is

abbrev pub places_by : (Instr → Bool) → ℕ → ℕ → List Block → List Place
places_by test func block [] = []
places_by test func block (b ∷ bs) = places_in test func block (length b.phis) b.instrs ++ places_by test func (block + 1) bs

-- the places of the instructions that pass a test, in order of the text
abbrev pub places_where : (Instr → Bool) → ℕ → Function → List Place
places_where test func f = places_by test func 0 f.blocks

-- ---- comparing

-- the number that is there
abbrev pub is_the : Option ℕ → ℕ → Bool
is_the None n = false
is_the (Some k) n = k == n

abbrev pub same_number : Option ℕ → Option ℕ → Bool
same_number None None = true
same_number (Some a) (Some b) = a == b
same_number _ _ = false

-- the same place of one function
abbrev pub is_spot : Option Place → Place → Bool
is_spot None p = false
is_spot (Some q) p = same_number q.block p.block && same_number q.instr p.instr
