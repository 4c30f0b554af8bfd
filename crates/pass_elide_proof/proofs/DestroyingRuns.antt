-- In each state of a framed run what a coro.destroy has called is to free its instance.
use Rattle.std.proofs.Common.{◌≡◌, ℕ, zero, suc, List, refl, subst, sym}
use Rattle.pass_elide_proof.proofs.DestroyingKept.{destroys_first, destroys_stay}
use Rattle.pass_elide_proof.proofs.DestroyingWays.{destroys_on_way}
use Rattle.pass_elide_proof.specs.Destroying.{DestroysAreToFree}
use Rattle.pass_proofs.specs.edges.rules.Returns.{AreSwitched}
use Rattle.pass_proofs.specs.ir_base.declared.outcome.Word.{Word}
use Rattle.pass_proofs.specs.ir_model.Names.{function_at}
use Rattle.pass_proofs.specs.run_framed.Framed.{FramedGiven, framed_state_at, framed_step}
use Rattle.pass_proofs.specs.run_source.Source.{first_state}
use Rattle.pass_proofs.specs.run_source.declared.state.State.{State}
use Rattle.pass_proofs.specs.run_step.Runs.{iterate}
use Rattle.run_slots.proofs.run_hooks.Keeping.{framed_keeps}
use Rattle.run_slots.proofs.run_hooks.Reaching.{states_reached}
use Rattle.run_slots.proofs.run_hooks.Steps.{framed_steps, same_runs}
use Rattle.run_slots.specs.run_hooks.Hooks.{step_of}
use Rattle.run_slots.specs.run_hooks.Meanings.{framed_hooks}
use Rattle.run_slots.specs.run_hooks.Reached.{AllHaveSwitches, IsReachedState}

module _ (g : FramedGiven) (entry : ℕ) (args : List Word) (switches : AllHaveSwitches g.given.code)
    (switched : (func : ℕ) → AreSwitched (function_at g.given.code func)) where
  reached : (n : ℕ) → IsReachedState g.given (framed_state_at g entry args n)
  reached n =
      subst (IsReachedState g.given)
      (sym (same_runs (framed_step g) (step_of (framed_hooks g)) (framed_steps g) n
      (first_state g.given.code entry args)))
      (states_reached (framed_hooks g) switches (framed_keeps g) entry args n)

  one_more : (n : ℕ) (s : State) → iterate (framed_step g) (suc n) s ≡ framed_step g (iterate (framed_step g) n s)
  one_more zero s = refl
  one_more (suc n) s = one_more n (framed_step g s)

  pub destroys_in_runs : (n : ℕ) → DestroysAreToFree g.given.code (framed_state_at g entry args n)
  destroys_in_runs zero = destroys_first g.given.code entry args
  destroys_in_runs (suc n) =
      subst (DestroysAreToFree g.given.code) (sym (one_more n (first_state g.given.code entry args)))
      (destroys_stay g (framed_state_at g entry args n)
      (destroys_on_way g.given (framed_state_at g entry args n).instances switched (reached n).instances)
      (destroys_in_runs n))
