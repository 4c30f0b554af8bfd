-- At its end an instance is Finished, and the memories stand beside each other as before.
use Rattle.std.proofs.Common.{◌≡◌, ℕ, inr, Bool, true, false, List, Option, Some, None, refl, ap, ◌∙◌, if◌then◌else◌}
use Rattle.std.proofs.lemmas.Bool.{and_from, and_parts, false≢true}
use Rattle.std.specs.Prelude.{not, option_and_then, option_map, slice_get, slice_set, ◌&&◌, ◌||◌, ◌==◌}
use Rattle.pass_split_proof.proofs.simulation.Knowing.{KeepsPlaces, same_places, set_places}
use Rattle.pass_split_proof.proofs.states.Advanced.{KeepsFrames, same_frames}
use Rattle.pass_split_proof.proofs.states.Judged.{numbering}
use Rattle.pass_split_proof.proofs.states.Statuses.{runs_headed, status_beside, status_frames}
use Rattle.pass_split_proof.proofs.steps.Saves.{state_frames}
use Rattle.pass_split_proof.specs.ends.Ending.{HasOwnFrame}
use Rattle.pass_split_proof.specs.states.Instances.{AreFrames, is_given_in, is_held_in, lives_in}
use Rattle.pass_split_proof.specs.states.Memories.{AreBeside}
use Rattle.pass_split_proof.specs.states.Related.{AreRelated}
use Rattle.pass_proofs.specs.run_framed.Framed.{FramedGiven, disown_given, framed_finish, is_given, is_stack_block}
use Rattle.pass_proofs.specs.run_memory.Memory.{disown}
use Rattle.pass_proofs.specs.run_memory.declared.block.MemoryBlock.{MemoryBlock}
use Rattle.run_access_worked.specs.run_plain.Plain.{PlainGiven}
use Rattle.run_access_worked.specs.run_plain.declared.state.PlainState.{PlainState}
use Rattle.pass_proofs.specs.run_source.Source.{change_own, slots_of}
use Rattle.pass_proofs.specs.run_source.State.{is_finished, numbered, with_instance, with_memory}
use Rattle.pass_proofs.specs.run_source.declared.state.Instance.{Instance}
use Rattle.pass_proofs.specs.run_source.declared.state.State.{State}
use Rattle.pass_proofs.specs.run_source.declared.state.Status.{Status}
use Rattle.pass_proofs.specs.run_step.Step.{without_slots}
use Rattle.pass_proofs.specs.run_step.declared.world.Slot.{Slot}

-- the state in which coro.end goes on, with the instances that there are then
pub record HasEnded (g : FramedGiven) (h : PlainGiven) (s : State) (t : PlainState) : Type 0 where
  pub instances : List Instance
  pub is : (if s.top.has_left then s else framed_finish s) ≡ record s { instances = instances }
  pub beside : AreBeside g instances s.world.memory t.world.memory
  pub frames : AreFrames g instances s.world.memory t.world.memory
  pub keeps : KeepsFrames s.instances instances
  pub places : KeepsPlaces s.instances instances s.world.memory s.world.memory

abbrev pub finished : Instance → Instance
finished x = record x { status = Status.Finished }

-- what is done with the instance
abbrev pub finishing : State → Option (ℕ × Instance) → State
finishing s o = disown_given (with_memory (change_own s finished o) (without_slots s.world.memory (slots_of o))) o

pub held_too : (o : Option MemoryBlock) (x : Instance) → is_held_in o (finished x) ≡ true → is_held_in o x ≡ true
held_too o x held =
    let a = and_parts (not x.freed) (not (is_given_in o x && true) && lives_in o) held in
    let b = and_parts (not (is_given_in o x && true)) (lives_in o) a.1 in
    and_from (not x.freed) (not (is_given_in o x && is_finished x.status) && lives_in o) a.0
    (and_from (not (is_given_in o x && is_finished x.status)) (lives_in o) (on (is_given_in o x) b.0) b.1)
  where
    on : (t : Bool) → not (t && true) ≡ true → not (t && is_finished x.status) ≡ true
    on true e = absurd (false≢true e)
    on false e = refl

not_stack : (a b : Bool) → (a || b) ≡ false → a ≡ false
not_stack true b e = absurd (cc)
not_stack false b e = refl

module _ (g : FramedGiven) (h : PlainGiven) (s : State) (t : PlainState) (r : AreRelated g h s t) where
  as_it_was : (if s.top.has_left then s else framed_finish s) ≡ s → HasEnded g h s t
  as_it_was e = record {
    instances = s.instances;
    is = e;
    beside = r.world.memory;
    frames = r.frames;
    keeps = same_frames s.instances;
    places = same_places s.instances s.world.memory;
  }

  chosen : (b : Bool) → s.top.has_left ≡ b → (if s.top.has_left then s else framed_finish s) ≡
      (if b then s else framed_finish s)
  chosen b e = ap (λ (c : Bool). if c then s else framed_finish s) e

  module _ (i : ℕ) (x : Instance) (own : s.top.instance ≡ Some i) (there : slice_get s.instances i ≡ Some x)
      (allocated : is_given s.world.memory x ≡ false) where
    found : option_and_then (numbered s.instances) s.top.instance ≡ Some (numbering i x)
    found = ap (option_and_then (numbered s.instances)) own ∙ ap (option_map (numbering i)) there

    finish_is : framed_finish s ≡ with_instance s i (finished x)
    finish_is = ap (finishing s) found
        ∙ ap (λ (slots : List Slot). if is_stack_block (without_slots s.world.memory slots) x.block && (x.start == 0)
        then with_memory (with_memory (with_instance s i (finished x)) (without_slots s.world.memory slots))
        (disown (without_slots s.world.memory slots) x.block)
        else with_memory (with_instance s i (finished x)) (without_slots s.world.memory slots))
        (r.frames.laid.slots i x there)
        ∙ ap (λ (b : Bool). if b && (x.start == 0)
        then with_memory (with_memory (with_instance s i (finished x)) s.world.memory)
        (disown s.world.memory x.block)
        else with_memory (with_instance s i (finished x)) s.world.memory)
        (not_stack (is_stack_block s.world.memory x.block) (not (x.start == 0)) allocated)

    ends : s.top.has_left ≡ false → HasEnded g h s t
    ends e = record {
      instances = slice_set s.instances i (finished x);
      is = chosen false e ∙ finish_is;
      beside = status_beside g s.instances s.world.memory t.world.memory i x there Status.Finished x.last_save
          x.released r.world.memory;
      frames = status_frames g s.instances s.world.memory t.world.memory i x there Status.Finished x.last_save
          x.released (held_too (slice_get s.world.memory x.block) x) r.frames
          (λ held. runs_headed g s.instances s.world.memory t.world.memory i x there Status.Finished x.last_save
          x.released (r.frames.headed i x there (held_too (slice_get s.world.memory x.block) x held)) (inr refl));
      keeps = state_frames s.instances i x Status.Finished x.last_save x.released there;
      places = set_places s.instances s.world.memory i x (finished x) there refl refl;
    }

  module _ (allocated : HasOwnFrame s) where
    by_instance : s.top.has_left ≡ false → (o : Option ℕ) → s.top.instance ≡ o → HasEnded g h s t
    by_instance e None own = as_it_was (chosen false e ∙ ap (λ (o : Option ℕ). finishing s (option_and_then
        (numbered s.instances) o)) own)
    by_instance e (Some i) own = let w = r.top.frame i own in
        ends i w.instance own w.there (allocated i w.instance own w.there) e

    by_left : (b : Bool) → s.top.has_left ≡ b → HasEnded g h s t
    by_left true e = as_it_was (chosen true e)
    by_left false e = by_instance e s.top.instance refl

    pub has_ended : HasEnded g h s t
    has_ended = by_left s.top.has_left refl
