-- Lemmas on steps, that speak of no pass.
use Rattle.std.proofs.Common.{◌≡◌, ℕ, refl}
use Rattle.run_laws.specs.ir_model.declared.instr.Terminator.{Terminator}
use Rattle.run_laws.specs.ir_model.declared.operand.Operand.{Operand}
use Rattle.run_laws.specs.ir_paths.Windows.{label_of_term}
use Rattle.ir_laws.specs.facts.woven_rules.Parts.{Branch, Jump, Return, ReturnVoid, Switch, TermStays, Unreachable}

pub label_same : (R : Operand → Operand → Type 0) (n : ℕ) (t u : Terminator) → TermStays R t u → label_of_term n u ≡ label_of_term n t
label_same R n _ _ (Jump label) = refl
label_same R n _ _ (Branch x y a b s) = refl
label_same R n _ _ (Switch a c default cases s k) = refl
label_same R n _ _ (Return a c s) = refl
label_same R n _ _ ReturnVoid = refl
label_same R n _ _ Unreachable = refl
