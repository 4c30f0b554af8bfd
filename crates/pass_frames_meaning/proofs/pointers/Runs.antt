-- In each state of a run by hooks pointers' types have pointers.
use Rattle.std.proofs.Common.{◌≡◌, ℕ, zero, suc, List, [], ◌∷◌, map}
use Rattle.std.specs.List.{AllByRecursion}
use Rattle.pass_frames_proof.specs.ir_base.declared.outcome.Word.{Word}
use Rattle.pass_frames_proof.specs.ir_model.Names.{function_at}
use Rattle.pass_frames_proof.specs.ir_model.Ty.{ptr}
use Rattle.pass_frames_proof.specs.ir_model.declared.module.Module.{Module}
use Rattle.pass_frames_proof.specs.ir_model.declared.module.Param.{Param}
use Rattle.pass_frames_meaning.proofs.pointers.Acts.{step_points}
use Rattle.pass_frames_meaning.proofs.pointers.Values.{entry_points, type_points}
use Rattle.pass_frames_meaning.specs.Pointers.{HasNoPointers, IsPointingState, KeepsPointing, PointParams}
use Rattle.pass_renewed_meaning.proofs.run_hooks.Reaching.{first_reached, step_stays}
use Rattle.pass_renewed_meaning.specs.run_hooks.Hooks.{Hooks, hooked_state_at, step_of}
use Rattle.pass_renewed_meaning.specs.run_hooks.Reached.{AllHaveSwitches, IsReachedState, KeepsReached}
use Rattle.pass_frames_proof.specs.run_memory.declared.pointer.Value.{Value}
use Rattle.pass_frames_proof.specs.run_source.Source.{first_state}
use Rattle.pass_frames_proof.specs.run_source.declared.state.State.{State}
use Rattle.pass_frames_proof.specs.run_step.Runs.{iterate}
use Rattle.pass_renewed_meaning.specs.run_types.Rules.{KeepsAllTypes}

words_point : (params : List Param) (args : List Word) → AllByRecursion (λ (p : Param). p.ty ≡ ptr → ⊥) params
    → PointParams params (map Value.Int args)
words_point [] args h = tt
words_point (p ∷ params) [] h = tt
words_point (p ∷ params) (x ∷ args) h =
    (type_points p.ty (Value.Int x) (λ e. absurd (h.0 e)), words_point params args h.1)

first_points : (m : Module) → KeepsAllTypes m → (entry : ℕ) (args : List Word) → HasNoPointers m entry
    → IsPointingState m (first_state m entry args)
first_points m rules entry args h = record {
  top = entry_points m (function_at m entry) (rules entry) (map Value.Int args)
      (words_point (function_at m entry).params args h);
  below = tt;
  instances = tt;
}

steps_point : (h : Hooks) → AllHaveSwitches h.given.code → KeepsReached h → KeepsAllTypes h.given.code
    → KeepsPointing h → (n : ℕ) (s : State) → IsReachedState h.given s → IsPointingState h.given.code s
    → IsPointingState h.given.code (iterate (step_of h) n s)
steps_point h ok reaches rules keeps zero s reached k = k
steps_point h ok reaches rules keeps (suc n) s reached k =
    steps_point h ok reaches rules keeps n (step_of h s) (step_stays h ok reaches s reached)
    (step_points h rules keeps s k reached)

pub states_point : (h : Hooks) → AllHaveSwitches h.given.code → KeepsReached h → KeepsAllTypes h.given.code
    → KeepsPointing h → (entry : ℕ) (args : List Word) (n : ℕ) → HasNoPointers h.given.code entry
    → IsPointingState h.given.code (hooked_state_at h entry args n)
states_point h ok reaches rules keeps entry args n given =
    steps_point h ok reaches rules keeps n (first_state h.given.code entry args) (first_reached h.given entry args)
    (first_points h.given.code rules entry args given)
