-- At its end an instance becomes Finished, unless its activation has left: the states are related as before.
use Rattle.std.proofs.Common.{◌≡◌, ℕ, ◌≤◌, Bool, true, false, not, List, length, Option, Some, None, refl, sym, subst, inr, arith, if◌then◌else◌, ◌&&◌, ◌==◌}
use Rattle.std.specs.Prelude.{slice_get, slice_set}
use Rattle.std.proofs.lemmas.Bool.{and_from, and_parts, false≢true}
use Rattle.pass_split_proof.proofs.simulation.Knowing.{goes_knows, memory_places, places_then, set_places}
use Rattle.pass_split_proof.specs.simulation.Knowing.{KnowsGiven}
use Rattle.pass_split_proof.proofs.states.SameKind.{given_kept}
use Rattle.pass_split_proof.proofs.states.Advanced.{advanced}
use Rattle.pass_split_proof.proofs.states.Statuses.{runs_headed, status_beside, status_frames}
use Rattle.pass_split_proof.proofs.states.Written.{length-changed}
use Rattle.pass_split_proof.proofs.steps.Branches.{own_there}
use Rattle.pass_split_proof.proofs.steps.Saves.{state_frames}
use Rattle.pass_split_proof.proofs.transfers.Disowned.{disowned_beside, disowned_frames}
use Rattle.pass_split_proof.specs.states.Activations.{is_entering}
use Rattle.pass_split_proof.specs.states.Instances.{AreFrames, in_state, is_given_in, is_held_in, lives_in}
use Rattle.pass_split_proof.specs.states.Memories.{AreBeside, homes_of}
use Rattle.pass_split_proof.specs.states.Related.{AreRelated}
use Rattle.pass_split_proof.specs.states.Values.{AreValuesOf}
use Rattle.pass_proofs.specs.ir_model.Names.{function_at}
use Rattle.pass_proofs.specs.run_framed.Framed.{FramedGiven, disown_given, framed_finish, is_stack_block}
use Rattle.pass_proofs.specs.run_laws.memory.Pointers.{Extends}
use Rattle.pass_proofs.specs.run_laws.memory.Standing.{own_homes}
use Rattle.pass_proofs.specs.run_memory.Memory.{disown, disowned}
use Rattle.pass_proofs.specs.run_memory.declared.block.MemoryBlock.{MemoryBlock}
use Rattle.run_access_worked.specs.run_plain.Plain.{PlainGiven, plain_work}
use Rattle.run_access_worked.specs.run_plain.declared.state.PlainState.{PlainState}
use Rattle.pass_proofs.specs.run_source.Source.{change_own, slots_of}
use Rattle.pass_proofs.specs.run_source.State.{is_finished, own_instance, with_instance, with_memory}
use Rattle.pass_proofs.specs.run_source.declared.state.Instance.{Instance}
use Rattle.pass_proofs.specs.run_source.declared.state.State.{State}
use Rattle.pass_proofs.specs.run_source.declared.state.Status.{Status}
use Rattle.pass_proofs.specs.run_step.Step.{without_slots}
use Rattle.pass_proofs.specs.run_step.declared.world.Slot.{Slot}

-- the framed run with other instances and another memory
abbrev pub changed_to : State → List Instance → List MemoryBlock → State
changed_to s ys k = record s { instances = ys; world = record s.world { memory = k } }

-- an instance that is Finished is held where it was before
held_before : (o : Option MemoryBlock) (x : Instance) → is_held_in o (record x { status = Status.Finished }) ≡ true
    → is_held_in o x ≡ true
held_before o x held =
    let a = and_parts (not x.freed) (not (is_given_in o x && true) && lives_in o) held in
    let b = and_parts (not (is_given_in o x && true)) (lives_in o) a.1 in
    and_from _ _ a.0 (and_from _ _ (on (is_given_in o x) (is_finished x.status) b.0) b.1)
  where
    on : (c d : Bool) → not (c && true) ≡ true → not (c && d) ≡ true
    on true d e = absurd (false≢true e)
    on false d e = refl

module _ (g : FramedGiven) (h : PlainGiven) (s : State) (t : PlainState) (r : AreRelated g h s t)
    (settled : is_entering s.top.mode ≡ false) where
  -- behind the end nothing but instances and owners is another, and the states are related
  pub record Ended (after : State) : Type 0 where
    pub instances : List Instance
    pub memory : List MemoryBlock
    pub is : after ≡ changed_to s instances memory
    pub related : AreRelated g h (changed_to s instances memory) t
    pub knows : KnowsGiven g s t → KnowsGiven g (changed_to s instances memory) t

  -- an instance that is Finished
  module _ (i : ℕ) (x : Instance) (there : slice_get s.instances i ≡ Some x) where
    abbrev now : Instance
    now = in_state x Status.Finished x.last_save x.released

    abbrev ys : List Instance
    ys = slice_set s.instances i now

    beside : AreBeside g ys s.world.memory t.world.memory
    beside = status_beside g s.instances s.world.memory t.world.memory i x there Status.Finished x.last_save
        x.released
        r.world.memory

    frames : AreFrames g ys s.world.memory t.world.memory
    frames = status_frames g s.instances s.world.memory t.world.memory i x there Status.Finished x.last_save
        x.released
        (held_before (slice_get s.world.memory x.block) x) r.frames
        (λ held. runs_headed g s.instances s.world.memory t.world.memory i x there Status.Finished x.last_save
        x.released
        (r.frames.headed i x there (held_before (slice_get s.world.memory x.block) x held)) (inr refl))

    by_memory : (k : List MemoryBlock) → length k ≡ length s.world.memory → AreBeside g ys k t.world.memory
        → AreFrames g ys k t.world.memory → AreRelated g h (changed_to s ys k) t
    by_memory k long memory held = advanced g h s t r
        (record {
          world = record s.world { memory = k };
          values
              = s.top.values;
        }) (plain_work t) ys s.top.block s.top.at
        t.top.block t.top.at s.top.has_left settled
        (record { memory = memory; events = r.world.events; answers = r.world.answers; allocs = r.world.allocs })
        held (state_frames s.instances i x Status.Finished x.last_save x.released there) (same_long long)
        (subst (λ (l : ℕ). Extends (homes_of s.world.memory) (own_homes 0 l)) (sym long)
        (record { each = λ b e. refl }))
        (subst (λ (l : ℕ). AreValuesOf (function_at g.given.code s.top.func)
        (own_homes 0 l) s.top.values t.top.values)
        (sym long) r.top.values) refl refl refl r.top.place
      where
        same_long : {a b : ℕ} → a ≡ b → b ≤ a
        same_long e = omega arith

    knows_by : (k : List MemoryBlock) → length k ≡ length s.world.memory
        → ((j : ℕ) (y : Instance) → slice_get ys j ≡ Some y
        → is_given_in (slice_get k y.block) y ≡ is_given_in (slice_get s.world.memory y.block) y)
        → KnowsGiven g s t → KnowsGiven g (changed_to s ys k) t
    knows_by k long same know = goes_knows g s t ys k t.top.values
        (subst (λ (l : ℕ). Extends (homes_of s.world.memory) (own_homes 0 l)) (sym long)
        (record { each = λ b e. refl }))
        (places_then s.instances ys ys s.world.memory s.world.memory k
        (set_places s.instances s.world.memory i x now there refl refl)
        (memory_places ys s.world.memory k same)) know (λ frame e. refl)

    -- the block of a frame that was given is owned no more
    by_block : (c : Bool) → (is_stack_block s.world.memory x.block && (x.start == 0)) ≡ c
        → Ended (if c then with_memory (with_memory (with_instance s i (record x { status = Status.Finished }))
        s.world.memory) (disown s.world.memory x.block)
        else with_memory (with_instance s i (record x { status = Status.Finished })) s.world.memory)
    by_block true e = record {
      instances = ys;
      memory = disown s.world.memory x.block;
      is = refl;
      related =
          let stack = (and_parts (is_stack_block s.world.memory x.block) (x.start == 0) e).0 in
          by_memory (disown s.world.memory x.block) (length-changed s.world.memory x.block disowned)
          (disowned_beside g ys s.world.memory t.world.memory x.block stack frames.laid beside)
          (disowned_frames g ys s.world.memory t.world.memory x.block stack frames);
      knows = knows_by (disown s.world.memory x.block) (length-changed s.world.memory x.block disowned)
          (λ j y f. given_kept disowned (λ z. refl) s.world.memory x.block y.block y);
    }
    by_block false e = record {
      instances = ys;
      memory = s.world.memory;
      is = refl;
      related = by_memory s.world.memory refl beside frames;
      knows = knows_by s.world.memory refl (λ j y f. refl);
    }

  abbrev finish_by : Option (ℕ × Instance) → List Slot → State
  finish_by o slots = disown_given (with_memory (change_own s (λ x. record x { status = Status.Finished }) o)
      (without_slots s.world.memory slots)) o

  finished : (o : Option (ℕ × Instance)) → own_instance s ≡ o → Ended (finish_by o (slots_of o))
  finished None e = record {
    instances = s.instances;
    memory = s.world.memory;
    is = refl;
    related = r;
    knows = λ know. know;
  }
  finished (Some (i, x)) e =
      let there = own_there s i x e in
      subst (λ (slots : List Slot). Ended (finish_by (Some (i, x)) slots)) (sym (r.frames.laid.slots i x there))
      (by_block i x there (is_stack_block s.world.memory x.block && (x.start == 0)) refl)

  pub ended : (left : Bool) → Ended (if left then s else framed_finish s)
  ended true = record {
    instances = s.instances;
    memory = s.world.memory;
    is = refl;
    related = r;
    knows = λ know. know;
  }
  ended false = finished (own_instance s) refl
