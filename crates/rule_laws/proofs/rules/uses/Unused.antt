-- Lemmas on unused, that speak of no pass.
use Rattle.std.proofs.Common.{ℕ, List, [], ◌∷◌, ◌++◌}
use Rattle.rule_uses.specs.Uses.{locals_in}
use Rattle.rule_laws.proofs.rules.source_rules.Locals.{made_by}
use Rattle.ir_laws.specs.flow_solver.Paths.{IsListed}
use Rattle.ir_parts.specs.Contents.{instr_operands}
use Rattle.ir_laws.specs.ir_model.declared.instr.Instr.{Instr}

-- behind values that are made before
abbrev pub IsUnused : ℕ → List ℕ → List Instr → Type 0
IsUnused v before [] = Unit {0}
IsUnused v before (j ∷ js) = ((IsListed v before → ⊥) → IsListed v (locals_in (instr_operands j)) → ⊥) × IsUnused v (made_by j ++ before) js
