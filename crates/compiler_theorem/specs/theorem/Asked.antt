-- What laws on steps of frames are asked of: a source with blocks on its edges and its framed form.
use Rattle.std.specs.Prelude.{◌≡◌, ℕ, true}
use Rattle.compiler_theorem.specs.theorem.Anew.{Anew}
use Rattle.compiler_theorem.specs.theorem.Built.{building}
use Rattle.compiler_theorem.specs.theorem.Entries.{Run}
use Rattle.compiler_theorem.specs.theorem.Lowered.{IsLowered, Lowered}
use Rattle.compiler_theorem.specs.theorem.Between.{renewing}
use Rattle.pass_frames_meaning.specs.Setting.{Setting}
use Rattle.pass_frames_meaning.specs.pass_frames_proof.Asking.{IsPromiseLaid}
use Rattle.pass_frames_meaning.specs.pass_frames_proof.Related.{is_coroutine}

abbrev pub asking : (l : Lowered) → IsLowered l → Anew → Run → Setting
asking l low a r = record { b = building l low.is_framed r.answers; g = renewing l a r }

-- the layout of each coroutine has the promise where it lies among what is held
abbrev pub ArePromisesLaid : (l : Lowered) → IsLowered l → Run → Type 0
ArePromisesLaid l low r =
    (func : ℕ) → is_coroutine (building l low.is_framed r.answers) func ≡ true
    → IsPromiseLaid ((building l low.is_framed r.answers).framing func)
