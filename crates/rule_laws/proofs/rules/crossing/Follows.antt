-- Lemmas on follows, that speak of no pass.
use Rattle.std.proofs.Common.{◌≡◌, ℕ, List, [], ◌∷◌}
use Rattle.std.specs.Prelude.{Some}
use Rattle.rule_uses.specs.Uses.{locals_in}
use Rattle.ir_laws.specs.flow_solver.Paths.{IsListed}
use Rattle.ir_parts.specs.Contents.{instr_operands, result_of}
use Rattle.ir_laws.specs.ir_model.declared.instr.Instr.{Instr}

-- the operands of an instruction use the value
abbrev pub Uses : ℕ → Instr → Type 0
Uses v i = IsListed v (locals_in (instr_operands i))

-- an instruction that neither uses nor makes it
pub record IsExtra (v : ℕ) (j : Instr) : Type 0 where
  pub unused : Uses v j → ⊥
  pub other : result_of j ≡ Some v → ⊥

-- further instructions stand between, and a use of the value was one, of a value that isn't kept
pub data Follows (kept : ℕ → Type 0) (v : ℕ) : List Instr → List Instr → Type 0 where
  Ended : Follows kept v [] []
  Extra : (j : Instr) (is js : List Instr) → IsExtra v j → Follows kept v is js → Follows kept v is (j ∷ js)
  Same : (i j : Instr) (is js : List Instr) → (Uses v j → Uses v i × (kept v → ⊥)) → result_of j ≡ result_of i → ((Uses v j → ⊥) → (result_of i ≡ Some v → ⊥) → Follows kept v is js) → Follows kept v (i ∷ is) (j ∷ js)
