-- Lemmas on indices, that speak of no pass.
use Rattle.std.proofs.Common.{ℕ, List}
use Rattle.rule_uses.specs.Undefined.{ReachesWithout, params_of}
use Rattle.rule_uses.specs.Uses.{locals_in}
use Rattle.ir_laws.specs.flow_solver.Paths.{IsListed}
use Rattle.ir_laws.specs.ir_model.declared.module.Function.{Function}
use Rattle.ir_laws.specs.ir_model.declared.operand.Operand.{Operand}

-- no path leads to a block that has made some values but behind the value
abbrev pub IsMadeBefore : Function → ℕ → List ℕ → ℕ → Type 0
IsMadeBefore f block before v = ReachesWithout f v block → (IsListed v before → ⊥) → (IsListed v (params_of f) → ⊥) → ⊥

-- so it is of each value among operands
abbrev pub AreMadeBefore : Function → ℕ → List ℕ → List Operand → Type 0
AreMadeBefore f block before xs = (v : ℕ) → IsListed v (locals_in xs) → IsMadeBefore f block before v
