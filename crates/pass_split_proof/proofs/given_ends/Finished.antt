-- At its end an instance is Finished, and its frame's block has no owner where that was given. The memories stand
-- beside each other as before.
use Rattle.std.proofs.Common.{◌≡◌, ℕ, inr, Bool, true, false, List, length, Option, Some, None, refl, ap, ◌∙◌, if◌then◌else◌}
use Rattle.std.proofs.lemmas.Bool.{and_parts}
use Rattle.std.specs.Prelude.{option_and_then, option_map, slice_get, slice_set, ◌&&◌, ◌==◌}
use Rattle.pass_split_proof.proofs.ends.Finished.{finished, finishing, held_too}
use Rattle.pass_split_proof.proofs.simulation.Knowing.{KeepsPlaces, memory_places, places_then, same_places, set_places}
use Rattle.pass_split_proof.proofs.states.Advanced.{KeepsFrames, same_frames}
use Rattle.pass_split_proof.proofs.states.SameKind.{given_kept}
use Rattle.pass_split_proof.proofs.states.Judged.{numbering}
use Rattle.pass_split_proof.proofs.states.Statuses.{runs_headed, status_beside, status_frames}
use Rattle.pass_split_proof.proofs.states.Written.{length-changed}
use Rattle.pass_split_proof.proofs.steps.Saves.{state_frames}
use Rattle.pass_split_proof.proofs.transfers.Disowned.{disowned_beside, disowned_frames}
use Rattle.pass_split_proof.specs.states.Instances.{AreFrames}
use Rattle.pass_split_proof.specs.states.Memories.{AreBeside}
use Rattle.pass_split_proof.specs.states.Related.{AreRelated}
use Rattle.pass_proofs.specs.run_framed.Framed.{FramedGiven, framed_finish, is_stack_block}
use Rattle.pass_proofs.specs.run_memory.Memory.{disown, disowned}
use Rattle.pass_proofs.specs.run_memory.declared.block.MemoryBlock.{MemoryBlock}
use Rattle.run_access_worked.specs.run_plain.Plain.{PlainGiven}
use Rattle.run_access_worked.specs.run_plain.declared.state.PlainState.{PlainState}
use Rattle.pass_proofs.specs.run_source.State.{numbered, with_instance, with_memory}
use Rattle.pass_proofs.specs.run_source.declared.state.Instance.{Instance}
use Rattle.pass_proofs.specs.run_source.declared.state.State.{State}
use Rattle.pass_proofs.specs.run_source.declared.state.Status.{Status}
use Rattle.pass_proofs.specs.run_step.Step.{without_slots}
use Rattle.pass_proofs.specs.run_step.declared.world.Slot.{Slot}

-- the state in which coro.end goes on, with the instances and the memory that there are then
pub record HasLetGo (g : FramedGiven) (h : PlainGiven) (s : State) (t : PlainState) : Type 0 where
  pub instances : List Instance
  pub memory : List MemoryBlock
  pub is : (if s.top.has_left then s else framed_finish s)
      ≡ record s { world = record s.world { memory = memory }; instances = instances }
  pub many : length memory ≡ length s.world.memory
  pub beside : AreBeside g instances memory t.world.memory
  pub frames : AreFrames g instances memory t.world.memory
  pub keeps : KeepsFrames s.instances instances
  pub places : KeepsPlaces s.instances instances s.world.memory memory

module _ (g : FramedGiven) (h : PlainGiven) (s : State) (t : PlainState) (r : AreRelated g h s t) where
  as_it_was : (if s.top.has_left then s else framed_finish s) ≡ s → HasLetGo g h s t
  as_it_was e = record {
    instances = s.instances;
    memory = s.world.memory;
    is = e;
    many = refl;
    beside = r.world.memory;
    frames = r.frames;
    keeps = same_frames s.instances;
    places = same_places s.instances s.world.memory;
  }

  chosen : (b : Bool) → s.top.has_left ≡ b → (if s.top.has_left then s else framed_finish s) ≡
      (if b then s else framed_finish s)
  chosen b e = ap (λ (c : Bool). if c then s else framed_finish s) e

  module _ (i : ℕ) (x : Instance) (own : s.top.instance ≡ Some i) (there : slice_get s.instances i ≡ Some x) where
    abbrev ys : List Instance
    ys = slice_set s.instances i (finished x)

    -- its block has no owner from then on, if it was given
    abbrev gone : Bool → State
    gone b = if b then with_memory (with_instance s i (finished x)) (disown s.world.memory x.block)
        else with_instance s i (finished x)

    found : option_and_then (numbered s.instances) s.top.instance ≡ Some (numbering i x)
    found = ap (option_and_then (numbered s.instances)) own ∙ ap (option_map (numbering i)) there

    finish_is : framed_finish s ≡ gone (is_stack_block s.world.memory x.block && (x.start == 0))
    finish_is = ap (finishing s) found
        ∙ ap (λ (slots : List Slot). if is_stack_block (without_slots s.world.memory slots) x.block && (x.start == 0)
        then with_memory (with_memory (with_instance s i (finished x)) (without_slots s.world.memory slots))
        (disown (without_slots s.world.memory slots) x.block)
        else with_memory (with_instance s i (finished x)) (without_slots s.world.memory slots))
        (r.frames.laid.slots i x there)

    beside : AreBeside g ys s.world.memory t.world.memory
    beside = status_beside g s.instances s.world.memory t.world.memory i x there Status.Finished x.last_save
        x.released r.world.memory

    frames : AreFrames g ys s.world.memory t.world.memory
    frames = status_frames g s.instances s.world.memory t.world.memory i x there Status.Finished x.last_save
        x.released (held_too (slice_get s.world.memory x.block) x) r.frames
        (λ held. runs_headed g s.instances s.world.memory t.world.memory i x there Status.Finished x.last_save
        x.released (r.frames.headed i x there (held_too (slice_get s.world.memory x.block) x held)) (inr refl))

    keeps : KeepsFrames s.instances ys
    keeps = state_frames s.instances i x Status.Finished x.last_save x.released there

    places : KeepsPlaces s.instances ys s.world.memory s.world.memory
    places = set_places s.instances s.world.memory i x (finished x) there refl refl

    ends : s.top.has_left ≡ false → (b : Bool) → (is_stack_block s.world.memory x.block && (x.start == 0)) ≡ b
        → HasLetGo g h s t
    ends e false given = record {
      instances = ys;
      memory = s.world.memory;
      is = chosen false e ∙ finish_is ∙ ap gone given;
      many = refl;
      beside = beside;
      frames = frames;
      keeps = keeps;
      places = places;
    }
    ends e true given =
        let stack = (and_parts (is_stack_block s.world.memory x.block) (x.start == 0) given).0 in
        record {
          instances = ys;
          memory = disown s.world.memory x.block;
          is = chosen false e ∙ finish_is ∙ ap gone given;
          many = length-changed s.world.memory x.block disowned;
          beside = disowned_beside g ys s.world.memory t.world.memory x.block stack frames.laid beside;
          frames = disowned_frames g ys s.world.memory t.world.memory x.block stack frames;
          keeps = keeps;
          places = places_then s.instances ys ys s.world.memory s.world.memory (disown s.world.memory x.block) places
              (memory_places ys s.world.memory (disown s.world.memory x.block)
              (λ j y f. given_kept disowned (λ z. refl) s.world.memory x.block y.block y));
        }

  by_instance : s.top.has_left ≡ false → (o : Option ℕ) → s.top.instance ≡ o → HasLetGo g h s t
  by_instance e None own = as_it_was (chosen false e ∙ ap (λ (o : Option ℕ). finishing s (option_and_then
      (numbered s.instances) o)) own)
  by_instance e (Some i) own = let w = r.top.frame i own in
      ends i w.instance own w.there e (is_stack_block s.world.memory w.instance.block && (w.instance.start == 0)) refl

  by_left : (b : Bool) → s.top.has_left ≡ b → HasLetGo g h s t
  by_left true e = as_it_was (chosen true e)
  by_left false e = by_instance e s.top.instance refl

  pub has_let_go : HasLetGo g h s t
  has_let_go = by_left s.top.has_left refl
