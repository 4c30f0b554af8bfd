-- Chains of getelementptrs.
use Rattle.std.specs.Prelude.{ℕ, Bool, List, [], flat_map, slice_get, unwrap_or, IsTrue, ◌↔◌, ◌∷◌, ◌==◌}
use Rattle.std.specs.Int.{bit_at}
use Rattle.ir_model.specs.declared.instr.Instr.{Instr}
use Rattle.ir_model.specs.declared.module.Block.{Block}
use Rattle.ir_model.specs.declared.module.Function.{Function}
use Rattle.ir_model.specs.declared.operand.Operand.{Operand}
use Rattle.flow_points.specs.ir_paths.Slots.{addresses_of, has_name}

-- the result of each getelementptr of a local, with that local
abbrev pub bases_in : List Instr → List (ℕ × ℕ)
bases_in [] = []
bases_in (Instr.Gep name inbounds ty (Operand.Local v) indices ∷ is) = (name, v) ∷ bases_in is
bases_in (i ∷ is) = bases_in is

abbrev pub bases_by : List Block → List (ℕ × ℕ)
bases_by bs = flat_map (λ b. bases_in b.instrs) bs

-- an address by getelementptrs of the first name is among the names
pub record LeadsTo (f : Function) (names : List ℕ) (a : ℕ) : Type 0 where
  pub address : ℕ
  pub is_address : IsTrue (has_name (addresses_of f a) address)
  pub is_named : IsTrue (has_name names address)

-- the word of a name has the lowest bit
abbrev pub has_lowest : List ℕ → ℕ → Bool
has_lowest words a = bit_at (unwrap_or (slice_get words a) 0) 0 == 1

-- the words with the lowest bit are those of the names that lead to these
pub record AreLedBack (f : Function) (names words : List ℕ) : Type 0 where
  pub each : (a : ℕ) → IsTrue (has_lowest words a) ↔ LeadsTo f names a
