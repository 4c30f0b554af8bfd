-- Lemmas on fetched, that speak of no pass.
use Rattle.std.proofs.Common.{◌≡◌, ℕ, zero, suc, ◌+◌, true, List, [], ◌∷◌, ap, ◌∙◌}
use Rattle.std.specs.Prelude.{Some, slice_get}
use Rattle.ir_laws.proofs.paths.shape.Steady.{AreOrdered, is_suspend}
use Rattle.run_laws.specs.ir_model.declared.instr.Instr.{Instr}
use Rattle.run_laws.specs.ir_paths.Windows.{call_result}

pub ordered_value : (V : ℕ → Type 0) (at : ℕ) (is : List Instr) → AreOrdered V at is → (x : ℕ) (i : Instr) → slice_get is x ≡ Some i → is_suspend i ≡ true → (v : ℕ) → call_result i ≡ Some v → V v
ordered_value V at [] o x i e s v r = absurd (cc)
ordered_value V at (j ∷ is) o zero i e s v r = let one : j ≡ i = cc in o.0.value v (ap is_suspend one ∙ s) (ap call_result one ∙ r)
ordered_value V at (j ∷ is) o (suc x) i e s v r = ordered_value V (at + 1) is o.1 x i e s v r
