-- The steps of getelementptrs, from their bases to their results.
use Rattle.std.specs.Prelude.{ℕ, Bool, List, map, flat_map, IsTrue, ◌%◌, ◌<◌, ◌==◌, ◌↔◌}
use Rattle.flow_solver.specs.Paths.{IsListed}
use Rattle.ir_model.specs.declared.instr.Instr.{Instr}
use Rattle.ir_model.specs.declared.module.Block.{Block}
use Rattle.ir_model.specs.declared.module.Function.{Function}
use Rattle.ir_paths.specs.Slots.{has_name}
use Rattle.flow_facts.specs.Chains.{bases_in}
use Rattle.rule_slots.specs.Names.{is_named}

abbrev pub swapped : ℕ × ℕ → ℕ × ℕ
swapped x = (x.1, x.0)

-- for each getelementptr of a local that local and the result
abbrev pub steps_in : List Instr → List (ℕ × ℕ)
steps_in is = map swapped (bases_in is)

abbrev pub steps_by : List Block → List (ℕ × ℕ)
steps_by blocks = flat_map (λ b. steps_in b.instrs) blocks

abbrev pub steps_of : Function → List (ℕ × ℕ)
steps_of f = steps_by f.blocks

-- the one question, asked at each of these names
abbrev pub asked_at : List ℕ → List (ℕ × ℕ)
asked_at names = map (λ v. (v, 1)) names

-- the word's lowest bit is set
abbrev pub is_odd : ℕ → Bool
is_odd word = word % 2 == 1

-- the name is one of these, or a getelementptr makes it of such a one
pub data IsLed (f : Function) (names : List ℕ) : ℕ → Type 0 where
  Start : (v : ℕ) → IsTrue (has_name names v) → IsLed f names v
  Step : (u v : ℕ) → IsListed (u, v) (steps_of f) → IsLed f names u → IsLed f names v

-- the set has just the names that chains of getelementptrs make of these, and these
pub record AreLedFrom (f : Function) (names : List ℕ) (marks : List Bool) : Type 0 where
  pub each : (v : ℕ) → IsTrue (is_named marks v) ↔ IsLed f names v

pub record AreBelow (names : List ℕ) (count : ℕ) : Type 0 where
  pub each : (v : ℕ) → IsTrue (has_name names v) → v < count
