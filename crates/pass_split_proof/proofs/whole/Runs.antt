-- Each step of framed runs in which no call gives a frame is followed, and states are kept beside each other.
use Rattle.std.proofs.Common.{◌≡◌, ℕ, false, List, Option, None, Some, refl, sym, ap, ◌∙◌, subst, arith}
use Rattle.std.specs.Prelude.{ℤ, unwrap_or}
use Rattle.pass_proofs.specs.frame_layout.declared.layout.Layouts.{Layouts}
use Rattle.pass_proofs.specs.ir_base.declared.outcome.Word.{Word}
use Rattle.pass_proofs.specs.ir_model.Names.{function_at, no_function}
use Rattle.pass_proofs.specs.ir_model.declared.module.Function.{Function}
use Rattle.pass_proofs.specs.ir_model.declared.module.Module.{Module}
use Rattle.pass_cleanup.specs.Cleaned.{plain_machine}
use Rattle.pass_split_proof.proofs.held.Runs.{runs_kept}
use Rattle.pass_split_proof.proofs.own_blocks.Runs.{runs_mark_none, runs_own}
use Rattle.pass_split_proof.proofs.simulation.Agreement.{price_within}
use Rattle.pass_split_proof.proofs.simulation.Assembly.{assembled_by}
use Rattle.pass_split_proof.proofs.simulation.Starts.{parts_start}
use Rattle.pass_split_proof.proofs.whole.Given.{given_none, ungiven_of}
use Rattle.pass_split_proof.proofs.whole.Here.{IsHeldState}
use Rattle.pass_split_proof.proofs.whole.Places.{step_followed}
use Rattle.pass_split_proof.proofs.whole.Small.{asks_small}
use Rattle.pass_split_proof.proofs.whole.Starts.{starts_know}
use Rattle.pass_split_proof.proofs.whole.Ungiven.{AreUngiven, ungiven_state}
use Rattle.pass_split_proof.specs.first_exits.Parted.{parted_module}
use Rattle.pass_split_proof.specs.own_blocks.Own.{HasOwnBlocks}
use Rattle.pass_split_proof.specs.simulation.Followed.{AreStepsFollowedBy, IsFollowed}
use Rattle.pass_split_proof.specs.simulation.Given.{GivesNoFrame}
use Rattle.pass_split_proof.specs.simulation.Knowing.{KnowsGiven}
use Rattle.pass_split_proof.specs.simulation.Premises.{ArePremisesMet}
use Rattle.pass_split_proof.specs.simulation.Statement.{IsBetween, IsEntryOfParts, IsPartable, parts_given}
use Rattle.pass_split_proof.specs.states.Related.{Follows, part_price}
use Rattle.pass_split_proof.specs.whole.Giving.{here_of}
use Rattle.pass_split_proof.specs.whole.Whole.{PartsKeepCalls}
use Rattle.pass_proofs.proofs.run_agreement.Costs.{agrees_within_by_steps}
use Rattle.pass_proofs.specs.run_agreement.Agreements.{AgreesWithin}
use Rattle.pass_proofs.specs.run_agreement.Machines.{at, iterate}
use Rattle.pass_proofs.specs.run_framed.Framed.{FramedGiven, framed_given, framed_state_at, framed_step}
use Rattle.run_types.proofs.run_hooks.Keeping.{framed_keeps}
use Rattle.run_types.proofs.run_hooks.Reaching.{states_reached}
use Rattle.run_types.proofs.run_hooks.Steps.{framed_steps, same_runs}
use Rattle.run_types.specs.run_hooks.Hooks.{step_of}
use Rattle.run_types.specs.run_hooks.Meanings.{framed_hooks}
use Rattle.run_types.specs.run_hooks.Reached.{IsReachedState}
use Rattle.run_access_worked.specs.run_plain.Plain.{PlainGiven}
use Rattle.pass_proofs.specs.run_source.Source.{first_state}
use Rattle.pass_proofs.specs.run_states.moved_states.Beside.{framed_machine}
use Rattle.run_types.proofs.Meanings.{framed_keeps_fitting}
use Rattle.run_types.proofs.Runs.{states_fit}
use Rattle.run_types.specs.Rules.{KeepsAllTypes, KeepsGivenTypes}
use Rattle.run_types.specs.States.{AreArguments, IsFittingState}

module _ (g : FramedGiven) (h : PlainGiven) (met : ArePremisesMet g h) (ungiven : AreUngiven g)
    (typed : KeepsAllTypes g.given.code) (entry : ℕ) (args : List Word)
    (plain : (function_at g.given.code entry).coroutine ≡ false) (words : AreArguments g.given.code entry args) where
  asks : HasOwnBlocks g.given.code
  asks = record {
    allocas = met.functions.allocas;
    intrinsics = met.functions.intrinsics;
  }

  -- no call gives a frame, so none is of other types
  types : KeepsGivenTypes g.given.code
  types = record {
    calls = λ func block at result must_tail ty n args ramp there given.
        absurd (other ramp (sym (ungiven.calls func block at result must_tail ty n args there) ∙ given));
  }
    where
      other : (ramp : ℕ) → None ≡ Some ramp → ⊥
      other ramp e = absurd (cc)

  as_hooks : (n : ℕ) → framed_state_at g entry args n ≡ iterate (step_of (framed_hooks g)) n
      (first_state g.given.code entry args)
  as_hooks n = same_runs (framed_step g) (step_of (framed_hooks g)) (framed_steps g) n
      (first_state g.given.code entry args)

  fitting : (n : ℕ) → IsFittingState g.given.code (framed_state_at g entry args n)
  fitting n = subst (IsFittingState g.given.code) (sym (as_hooks n))
      (states_fit (framed_hooks g) met.functions.switches (framed_keeps g) typed (framed_keeps_fitting g typed types)
      entry args n words)

  holds : (n : ℕ) → IsHeldState g (framed_state_at g entry args n)
  holds n = record {
    own = runs_own g asks entry args plain n;
    kept = runs_kept g entry args (runs_mark_none g asks entry args plain) n;
    reached = subst (IsReachedState g.given) (sym (as_hooks n))
        (states_reached (framed_hooks g) met.functions.switches (framed_keeps g) entry args n);
    small = asks_small g (framed_state_at g entry args n) (typed (framed_state_at g entry args n).top.func)
        (fitting n).top (here_of g (framed_state_at g entry args n)) refl;
  }

  all_followed : AreStepsFollowedBy g h (KnowsGiven g) entry args
  all_followed n t r knows runs fine =
      let f : IsFollowed g h (framed_state_at g entry args n) t = step_followed g h met (framed_state_at g
      entry args n)
      t r (ungiven_state g h met.functions ungiven (framed_state_at g entry args n) t r (holds n) knows) runs fine in
      record { followed = f; knows = f.keeps knows }

module _ (ls : Layouts) (m : Module) (p : IsPartable ls m) (gives : GivesNoFrame m) (typed : KeepsAllTypes m)
    (met : (answers : List ℤ) → ArePremisesMet (framed_given m ls.coroutines answers) (parts_given ls m answers)) where
  no_frames : (answers : List ℤ) → AreUngiven (framed_given m ls.coroutines answers)
  no_frames answers = record { calls = ungiven_of m gives; coroutines = given_none m gives }

  -- the entry is no coroutine
  plain_entry : (entry other : ℕ) → IsEntryOfParts ls m entry other → (function_at m entry).coroutine ≡ false
  plain_entry entry other e = ap (λ (o : Option Function). (unwrap_or o no_function).coroutine) e.there ∙ e.plain

  pub calls_kept : PartsKeepCalls ls m
  calls_kept entry other args answers e words = assembled_by ls m entry other args answers
      (KnowsGiven (framed_given m ls.coroutines answers)) (parts_start ls m p entry other args answers e)
      (starts_know (framed_given m ls.coroutines answers) (parts_given ls m answers) entry other args)
      (all_followed (framed_given m ls.coroutines answers) (parts_given ls m answers) (met answers)
      (no_frames answers) typed entry args (plain_entry entry other e) words)

pub calls_agree : (ls : Layouts) (m : Module) → PartsKeepCalls ls m → (entry other : ℕ) (args : List Word)
    (answers : List ℤ) → IsEntryOfParts ls m entry other → AreArguments m entry args
    → AgreesWithin 4 (at (framed_machine m ls entry args answers))
    (at (plain_machine (parted_module ls m) other args answers))
calls_agree ls m keeps entry other args answers e words = agrees_within_by_steps
    (Follows (framed_given m ls.coroutines answers) (parts_given ls m answers))
    (IsBetween (framed_given m ls.coroutines answers) (parts_given ls m answers)
    (plain_machine (parted_module ls m) other args answers))
    (framed_machine m ls entry args answers) (part_price (framed_given m ls.coroutines answers))
    (plain_machine (parted_module ls m) other args answers) (λ t. 1) 4
    (λ s. price_within _ _) (λ t. omega arith) (keeps entry other args answers e words)
