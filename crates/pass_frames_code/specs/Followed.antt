-- What the framed run does for one step of the run in which slots are made anew, and the account of it.
use Rattle.std.specs.Prelude.{◌≡◌, ℕ, ℤ, ◌-◌, ◌<◌, ◌≤◌, ◌⊎◌, List, length, slice_get, None, Option, Some}
use Rattle.pass_proofs.specs.frame_layout.declared.layout.Layouts.{Layouts}
use Rattle.pass_proofs.specs.ir_base.declared.outcome.Outcome.{Outcome}
use Rattle.pass_proofs.specs.ir_base.declared.outcome.Word.{Word}
use Rattle.pass_proofs.specs.ir_model.declared.module.Block.{Block}
use Rattle.pass_frames_code.specs.Meaning.{step_cost}
use Rattle.pass_frames_code.specs.Related.{AreBuiltOf, AreShownAlike, Building}
use Rattle.pass_renewed_proof.specs.Renewed.{RenewedGiven, renewed_step}
use Rattle.pass_proofs.specs.run_agreement.Machines.{IsFine, iterate}
use Rattle.pass_proofs.specs.run_framed.Framed.{framed_given, framed_state_at, framed_step}
use Rattle.pass_proofs.specs.run_source.Source.{first_state}
use Rattle.pass_proofs.specs.run_source.State.{function_of}
use Rattle.pass_proofs.specs.run_source.declared.state.State.{State}

abbrev pub instr_count : Option Block → ℕ
instr_count None = 0
instr_count (Some x) = length x.instrs

-- markers and allocas of a ramp become nothing there: a run leaves fewer instructions of its block ahead
abbrev pub measure : RenewedGiven → State → ℕ
measure g s = instr_count (slice_get (function_of g.given s).blocks s.top.block) - s.top.at

-- a state of the framed run that goes on and shows what the other one shows
pub record IsOn (b : Building) (s t : State) : Type 0 where
  pub running : t.outcome ≡ Outcome.Running
  pub shown : AreShownAlike b s t

-- From a related state so many steps lead to one that is related to the next state. The price of the step pays for
-- them.
pub record IsFollowed (b : Building) (g : RenewedGiven) (s t : State) : Type 0 where
  pub steps : ℕ
  pub few : steps ≤ step_cost b g s s.top.mode
  pub goes_on : (0 < steps) ⊎ (measure g (renewed_step g s) < measure g s)
  pub passes : (i : ℕ) → 0 < i → i < steps
      → IsOn b s (iterate (framed_step b.given) i t) ⊎ IsOn b (renewed_step g s) (iterate (framed_step b.given) i t)
  pub related : AreBuiltOf b (renewed_step g s) (iterate (framed_step b.given) steps t)

abbrev pub renewed_state_at : RenewedGiven → ℕ → List Word → ℕ → State
renewed_state_at g entry args n = iterate (renewed_step g) n (first_state g.given.code entry args)

-- so it is with each step of a run that isn't undefined, from each state of the framed run that is related
abbrev pub AreStepsFollowed : Building → RenewedGiven → ℕ → List Word → Type 0
AreStepsFollowed b g entry args = (n m : ℕ)
    → AreBuiltOf b (renewed_state_at g entry args n) (framed_state_at b.given entry args m)
    → (renewed_state_at g entry args n).outcome ≡ Outcome.Running
    → IsFine (renewed_step g (renewed_state_at g entry args n)).outcome
    → IsFollowed b g (renewed_state_at g entry args n) (framed_state_at b.given entry args m)

-- the framed run is given the framed module, the layouts and the answers
abbrev pub IsGiven : Building → Layouts → List ℤ → Type 0
IsGiven b layouts answers = b.given ≡ framed_given b.framed_code layouts.coroutines answers
