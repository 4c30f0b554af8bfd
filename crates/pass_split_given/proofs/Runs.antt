-- Each step of framed runs in which calls give frames is followed, from states that know of them.
use Rattle.std.proofs.Common.{◌≡◌, ℕ, false, List, sym, subst}
use Rattle.pass_split_proof.specs.pass_proofs.ir_base.declared.outcome.Outcome.{Outcome}
use Rattle.pass_split_proof.specs.pass_proofs.ir_base.declared.outcome.Word.{Word}
use Rattle.pass_split_proof.specs.pass_proofs.ir_model.Names.{function_at}
use Rattle.pass_split_proof.specs.pass_proofs.run_agreement.Machines.{IsFine, iterate}
use Rattle.pass_split_proof.specs.pass_proofs.run_framed.Framed.{FramedGiven, framed_state_at, framed_step}
use Rattle.pass_split_proof.specs.pass_proofs.run_source.Source.{first_state}
use Rattle.pass_split_given.specs.Premises.{AreGivenPremisesMet, GivesFramesWell}
use Rattle.pass_split_proof.proofs.given_begins.Runs.{block_begin_followed}
use Rattle.pass_split_proof.proofs.held.Runs.{runs_kept, suspended_held}
use Rattle.pass_split_proof.proofs.own_blocks.Runs.{runs_mark_none, runs_own}
use Rattle.pass_split_proof.proofs.whole.Here.{IsGivingState, IsHeldState}
use Rattle.pass_split_proof.proofs.whole.Places.{step_followed}
use Rattle.pass_split_proof.specs.held.Kept.{MarksNoHeaps}
use Rattle.pass_split_proof.specs.own_blocks.Own.{HasOwnBlocks}
use Rattle.pass_split_proof.specs.simulation.Followed.{AreStepsFollowedBy}
use Rattle.pass_split_proof.specs.simulation.Followed.{IsFollowed}
use Rattle.pass_split_proof.specs.simulation.Knowing.{KnowsGiven}
use Rattle.pass_split_proof.specs.simulation.Premises.{ArePremisesMet}
use Rattle.pass_split_proof.specs.states.Related.{AreRelated}
use Rattle.run_access_worked.specs.run_plain.Plain.{PlainGiven}
use Rattle.run_access_worked.specs.run_plain.declared.state.PlainState.{PlainState}
use Rattle.run_types.proofs.run_hooks.Keeping.{framed_keeps}
use Rattle.run_types.proofs.run_hooks.Reaching.{states_reached}
use Rattle.run_types.proofs.run_hooks.Steps.{framed_steps, same_runs}
use Rattle.run_types.specs.run_hooks.Hooks.{step_of}
use Rattle.run_types.specs.run_hooks.Meanings.{framed_hooks}
use Rattle.run_types.specs.run_hooks.Reached.{IsReachedState}

module _ (g : FramedGiven) (h : PlainGiven) (met : ArePremisesMet g h) (more : AreGivenPremisesMet g h) (entry : ℕ)
    (args : List Word) (plain : (function_at g.given.code entry).coroutine ≡ false)
    (gives : GivesFramesWell g entry args) where
  asks : HasOwnBlocks g.given.code
  asks = record {
    allocas = met.functions.allocas;
    intrinsics = met.functions.intrinsics;
  }

  marks : MarksNoHeaps g entry args
  marks = runs_mark_none g asks entry args plain

  as_hooks : (n : ℕ) → framed_state_at g entry args n ≡ iterate (step_of (framed_hooks g)) n
      (first_state g.given.code entry args)
  as_hooks n = same_runs (framed_step g) (step_of (framed_hooks g)) (framed_steps g) n
      (first_state g.given.code entry args)

  holds : (n : ℕ) → (framed_state_at g entry args n).outcome ≡ Outcome.Running
      → IsHeldState g (framed_state_at g entry args n)
  holds n runs = record {
    own = runs_own g asks entry args plain n;
    kept = runs_kept g entry args marks n;
    reached = subst (IsReachedState g.given) (sym (as_hooks n))
        (states_reached (framed_hooks g) met.functions.switches (framed_keeps g) entry args n);
    small = gives.small n runs;
  }

  module _ (n : ℕ) (t : PlainState) (r : AreRelated g h (framed_state_at g entry args n) t)
      (knows : KnowsGiven g (framed_state_at g entry args n) t)
      (runs : (framed_state_at g entry args n).outcome ≡ Outcome.Running)
      (fine : IsFine (framed_step g (framed_state_at g entry args n)).outcome) where
    giving : IsGivingState g h (framed_state_at g entry args n) t r
    giving = record {
      held = holds n runs;
      knows = knows;
      sleepers = λ i x e sleeps. suspended_held g entry args marks gives.live n i x e sleeps;
      live = gives.live n;
      starts = gives.starts n runs;
      saves = gives.saves n runs;
      begins = λ k. block_begin_followed g h entry args gives.blocks
          (λ func coroutine. (met.functions.coroutines func coroutine).laid) more.nests n t r (holds n runs).own
          runs fine k;
      places = more.places (framed_state_at g entry args n) t r;
    }

    pub given_step_followed : IsFollowed g h (framed_state_at g entry args n) t
    given_step_followed = step_followed g h met (framed_state_at g entry args n) t r giving runs fine

  -- and leads to states that know of them
  pub given_all_followed : AreStepsFollowedBy g h (KnowsGiven g) entry args
  given_all_followed n t r knows runs fine =
      let f : IsFollowed g h (framed_state_at g entry args n) t = given_step_followed n t r knows runs fine in
      record { followed = f; knows = f.keeps knows }
