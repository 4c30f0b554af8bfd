-- In each state of a run in which a resume hands on some values, instances have begun in blocks of exactly their size.
use Rattle.std.proofs.Common.{ℕ, zero, suc, Bool, true, false, List, [], ◌∷◌, Option, Some, None, subst}
use Rattle.std.proofs.Common.{sym, ◌&&◌}
use Rattle.std.specs.Prelude.{if◌then◌else◌, not}
use Rattle.pass_frames_meaning.proofs.run_hooks.Keeping.{kept_keeps}
use Rattle.pass_frames_meaning.proofs.run_hooks.Reaching.{first_reached, step_stays}
use Rattle.pass_frames_meaning.proofs.run_hooks.Steps.{source_step}
use Rattle.pass_frames_meaning.proofs.sized.Memory.{killed_keeps, same_sizes}
use Rattle.pass_frames_meaning.proofs.sized.Renewed.{renewed_keeps_sizes}
use Rattle.pass_frames_meaning.proofs.sized.Sized.{step_longer}
use Rattle.pass_frames_meaning.specs.Sized.{IsLonger, KeepsSizes, sizes_of}
use Rattle.pass_frames_meaning.specs.pass_frames_proof.ir_base.declared.outcome.Word.{Word}
use Rattle.pass_frames_meaning.specs.pass_frames_proof.pass_kept_proof.Kept.{Keep, continue_keeping}
use Rattle.pass_frames_meaning.specs.pass_frames_proof.pass_renewed_proof.Renewed.{RenewedGiven}
use Rattle.pass_frames_meaning.specs.pass_frames_proof.run_memory.Memory.{killed}
use Rattle.pass_frames_meaning.specs.pass_frames_proof.run_source.Source.{first_state, is_among, is_over, kill_late, new_slot, step_by, with_new_slots}
use Rattle.pass_frames_meaning.specs.pass_frames_proof.run_source.State.{own_facts, own_instance, with_memory}
use Rattle.pass_frames_meaning.specs.pass_frames_proof.run_source.declared.state.Activation.{Activation}
use Rattle.pass_frames_meaning.specs.pass_frames_proof.run_source.declared.state.Instance.{Instance}
use Rattle.pass_frames_meaning.specs.pass_frames_proof.run_source.declared.state.State.{State}
use Rattle.pass_frames_meaning.specs.pass_frames_proof.run_source.declared.state.Status.{Status}
use Rattle.pass_frames_meaning.specs.pass_frames_proof.run_source_tables.Given.{Given}
use Rattle.pass_frames_meaning.specs.pass_frames_proof.run_step.Runs.{iterate}
use Rattle.pass_frames_meaning.specs.pass_frames_proof.run_step.declared.world.Slot.{Slot}
use Rattle.pass_frames_meaning.specs.run_hooks.Meanings.{kept_hooks}
use Rattle.pass_frames_meaning.specs.run_hooks.Reached.{AllHaveSwitches, IsReachedState}
use Rattle.run_exact.proofs.Steps.{advance_sized}
use Rattle.run_exact.proofs.Values.{entry_told, told_longer}
use Rattle.run_exact.specs.States.{AreSmall, HasKeptSized, HaveSizedBelow, IsSizedIn, IsSizedInstance, IsSizedState, function_in, size_in}

-- ---- blocks keep their sizes

slot_longer : (g : Given) (s : State) (slot : Slot)
    → IsLonger (sizes_of s.world.memory) (sizes_of (new_slot g s slot).world.memory)
slot_longer g s slot = on (own_instance s)
  where
    late : (b : Bool) → IsLonger (sizes_of s.world.memory)
        (sizes_of (if b then with_memory s (killed s.world.memory slot.block) else s).world.memory)
    late true = killed_keeps s.world.memory slot.block
    late false = same_sizes (sizes_of s.world.memory)

    on : (o : Option (ℕ × Instance)) → IsLonger (sizes_of s.world.memory)
        (sizes_of (with_new_slots (own_facts g s).ramp_slots o (kill_late (own_facts g s).ramp_slots o s slot)
        (slot ∷ [])).world.memory)
    on None = same_sizes (sizes_of s.world.memory)
    on (Some (i, x)) = late (is_over x && not (is_among (own_facts g s).ramp_slots slot))

-- begin and the end are those of runs that make no slot anew
no_slots_anew : Given → Keep → RenewedGiven
no_slots_anew g keep = record { given = g; keep = keep; flags = λ func v. false; roots = λ func v. None }

kept_keeps_sizes : (g : Given) (keep : Keep) → KeepsSizes (kept_hooks g keep)
unfolding no_slots_anew
kept_keeps_sizes g keep = record {
  go_on = λ s i x suspend values label. same_sizes (sizes_of s.world.memory);
  place = λ s slot. slot_longer g s slot;
  start = (renewed_keeps_sizes (no_slots_anew g keep)).start;
  close = (renewed_keeps_sizes (no_slots_anew g keep)).close;
  call = λ s x r e. absurd (cc);
}

-- ---- the same of longer memories

module _ (g : Given) (rows more : List (ℕ × ℕ)) (longer : IsLonger rows more) where
  kept_longer : (func : ℕ) (status : Status) → HasKeptSized g rows func status → HasKeptSized g more func status
  kept_longer func (Status.Suspended u values) h =
      told_longer (function_in g func) (size_in g func) rows more values longer h
  kept_longer func Status.Running h = tt
  kept_longer func Status.Finished h = tt

  below_longer : (result : Option ℕ) (below : List Activation) → HaveSizedBelow g rows result below
      → HaveSizedBelow g more result below
  below_longer result [] h = tt
  below_longer result (a ∷ below) h = (
    h.0,
    told_longer (function_in g a.func) (size_in g a.func) rows more a.values longer h.1,
    below_longer a.result below h.2,
  )

  instance_longer : (x : Instance) → IsSizedInstance g rows x → IsSizedInstance g more x
  instance_longer x h = record {
    kept = kept_longer x.coroutine x.status h.kept;
    block = λ all.
        let k = h.block all in
        record { align = k.align; there = longer.each x.block (size_in g x.coroutine, k.align) k.there };
  }

  sized_longer : (s : State) → IsSizedIn g rows s → IsSizedIn g more s
  sized_longer s h = record {
    top = told_longer (function_in g s.top.func) (size_in g s.top.func) rows more s.top.values longer h.top;
    below = below_longer s.top.result s.below h.below;
    instances = λ i x e. instance_longer x (h.instances i x e);
  }

-- ---- steps and runs

module _ (g : Given) (keep : Keep) (switches : AllHaveSwitches g.code) (small : AreSmall g) where
  abbrev step : State → State
  step s = step_by g (continue_keeping g keep) s

  reached_on : (s : State) → IsReachedState g s → IsReachedState g (step s)
  reached_on s reached =
      subst (IsReachedState g) (sym (source_step g (continue_keeping g keep) s))
      (step_stays (kept_hooks g keep) switches (kept_keeps g keep) s reached)

  longer_on : (s : State) → IsLonger (sizes_of s.world.memory) (sizes_of (step s).world.memory)
  longer_on s =
      subst (λ (t : State). IsLonger (sizes_of s.world.memory) (sizes_of t.world.memory))
      (sym (source_step g (continue_keeping g keep) s)) (step_longer (kept_hooks g keep) (kept_keeps_sizes g keep) s)

  pub step_sized : (s : State) → IsReachedState g s → IsSizedState g s → IsSizedState g (step s)
  step_sized s reached h =
      advance_sized g keep small (sizes_of (step s).world.memory) s
      (sized_longer g (sizes_of s.world.memory) (sizes_of (step s).world.memory) (longer_on s) s h) reached s.outcome
      (same_sizes (sizes_of (step s).world.memory))

  steps_sized : (n : ℕ) (s : State) → IsReachedState g s → IsSizedState g s → IsSizedState g (iterate step n s)
  steps_sized zero s reached h = h
  steps_sized (suc n) s reached h = steps_sized n (step s) (reached_on s reached) (step_sized s reached h)

  first_sized : (entry : ℕ) (args : List Word) → IsSizedState g (first_state g.code entry args)
  first_sized entry args = record {
    top = entry_told (function_in g entry) (size_in g entry)
        (sizes_of (first_state g.code entry args).world.memory) _;
    below = tt;
    instances = λ i x e. absurd (cc);
  }

  pub states_sized : (entry : ℕ) (args : List Word) (n : ℕ)
      → IsSizedState g (iterate (step_by g (continue_keeping g keep)) n (first_state g.code entry args))
  states_sized entry args n =
      steps_sized n (first_state g.code entry args) (first_reached g entry args) (first_sized entry args)
