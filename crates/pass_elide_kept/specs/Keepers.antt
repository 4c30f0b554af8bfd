-- What is kept of handles in the run that gives frames, while the framed run has come to a state.
use Rattle.std.specs.Prelude.{◌≡◌, ◌⊎◌, ◌<◌, ℕ, true, List, ◌∷◌, slice_get, Some, None}
use Rattle.pass_elide_kept.specs.Kept.{IsKeptIn}
use Rattle.pass_elide_proof.specs.Elision.{Elision}
use Rattle.pass_elide_proof.specs.pass_proofs.run_framed.Framed.{is_given}
use Rattle.pass_elide_proof.specs.pass_proofs.run_laws.changed.Changed.{Each}
use Rattle.pass_elide_proof.specs.pass_proofs.run_source.State.{address_in, began_at, is_finished}
use Rattle.pass_elide_proof.specs.pass_proofs.run_source.declared.state.Activation.{Activation}
use Rattle.pass_elide_proof.specs.pass_proofs.run_source.declared.state.Instance.{Instance}
use Rattle.pass_elide_proof.specs.pass_proofs.run_source.declared.state.Mode.{Mode}
use Rattle.pass_elide_proof.specs.pass_proofs.run_source.declared.state.State.{State}

-- the framed run has freed the instance
abbrev pub WasFreed : State → ℕ → Type 0
WasFreed z number = (x : Instance) → slice_get z.instances number ≡ Some x → x.freed ≡ true

-- it is over, and was freed
abbrev pub IsOver : State → ℕ → Instance → Type 0
IsOver z number y = (is_finished y.status ≡ true) × WasFreed z number

-- all that began where a ramp is about to begin was freed
abbrev pub IsRenewed : State → List Instance → Activation → Type 0
IsRenewed z ys c =
    (block offset : ℕ) → c.instance ≡ None → c.mode ≡ Mode.GivenRamp (address_in block offset) → (number : ℕ)
    (y : Instance) → slice_get ys number ≡ Some y → y.block ≡ block → y.start ≡ offset → WasFreed z number

pub record KeepersIn (e : Elision) (z u : State) : Type 0 where
  -- a given instance is over, or an activation keeps its handle
  pub each : (number : ℕ) (y : Instance) → slice_get u.instances number ≡ Some y → is_given u.world.memory y ≡ true
      → IsOver z number y ⊎ IsKeptIn e y number None (u.top ∷ u.below)
  -- it is over if a later one began in its place
  pub replaced : (number later : ℕ) (y w : Instance) → slice_get u.instances number ≡ Some y
      → slice_get u.instances later ≡ Some w → number < later → is_given u.world.memory y ≡ true
      → began_at y.block y.start w ≡ true → IsOver z number y
  pub renewed : Each (IsRenewed z u.instances) (u.top ∷ u.below)
