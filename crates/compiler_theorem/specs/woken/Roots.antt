-- What is left to know where coroutines are woken: the table of roots tells of which kept values distances are kept.
use Rattle.std.specs.Prelude.{◌≡◌, ℕ, true}
use Rattle.compiler_theorem.specs.theorem.Anew.{Anew}
use Rattle.compiler_theorem.specs.theorem.Asked.{asking}
use Rattle.compiler_theorem.specs.theorem.Entries.{Run}
use Rattle.compiler_theorem.specs.theorem.Lowered.{IsLowered, Lowered}
use Rattle.compiler.specs.pass_cells.declared.plan.KeptValue.{KeptValue}
use Rattle.pass_frames_meaning.specs.pass_frames_proof.Related.{IsKeptValue, is_coroutine}

abbrev pub AreRootsTold : (l : Lowered) → IsLowered l → Anew → Run → Type 0
AreRootsTold l low a r =
    (func : ℕ) → is_coroutine (asking l low a r).b func ≡ true → (v : ℕ) (k : KeptValue)
    → IsKeptValue ((asking l low a r).b.framing func) v k → a.roots func v ≡ k.slot
