-- A release of a frame that was allocated gives its address.
use Rattle.std.proofs.Common.{◌≡◌, ℕ, ◌+◌, ◌≤◌, Bool, true, false, List, ◌∷◌, [], length, Option, Some, None, refl, ap, ◌∙◌, arith, if◌then◌else◌}
use Rattle.std.specs.Prelude.{option_and_then, pos, slice_get, slice_set}
use Rattle.pass_proofs.specs.ir_base.declared.outcome.Outcome.{Outcome}
use Rattle.pass_proofs.specs.ir_model.Names.{function_at}
use Rattle.pass_proofs.specs.ir_model.Ty.{int, ptr}
use Rattle.pass_proofs.specs.ir_model.declared.instr.Instr.{Instr}
use Rattle.pass_proofs.specs.ir_model.declared.module.Function.{Function}
use Rattle.pass_proofs.specs.ir_model.declared.operand.Intrinsic.{Intrinsic}
use Rattle.pass_proofs.specs.ir_model.declared.operand.Operand.{Operand}
use Rattle.pass_proofs.specs.pass_intrinsics.Lowered.{address, freed_by, number_arg}
use Rattle.pass_proofs.specs.pass_intrinsics.declared.shape.Part.{Part}
use Rattle.pass_proofs.specs.pass_intrinsics.declared.shape.Shape.{Shape}
use Rattle.pass_split_proof.proofs.simulation.Knowing.{KeepsPlaces, goes_knows, set_kept, set_places}
use Rattle.pass_split_proof.proofs.giving.Constants.{not_again}
use Rattle.pass_split_proof.proofs.giving.Frames.{found, gives_address, has, stands}
use Rattle.pass_split_proof.proofs.giving.Given.{call_here, none_given, nothing_there, one_given}
use Rattle.pass_split_proof.proofs.silent.Measure.{next_lower}
use Rattle.pass_split_proof.proofs.states.Advanced.{KeepsFrames, advanced}
use Rattle.pass_split_proof.proofs.states.Statuses.{status_beside, status_frames}
use Rattle.pass_split_proof.proofs.states.Values.{values_set}
use Rattle.pass_split_proof.proofs.steps.Followed.{framed_does, none_followed, one_followed}
use Rattle.pass_split_proof.proofs.steps.Ordinary.{IsAlone, IsCopied, alone}
use Rattle.pass_split_proof.proofs.steps.Saves.{state_frames}
use Rattle.pass_split_proof.proofs.steps.Settled.{plain_does}
use Rattle.pass_split_proof.specs.code.Positions.{is_given as is_given_part}
use Rattle.pass_split_proof.specs.ends.Ending.{HasOwnFrame}
use Rattle.pass_split_proof.specs.giving.Intrinsics.{IsAtIntrinsic}
use Rattle.pass_split_proof.specs.simulation.Followed.{IsFollowed}
use Rattle.pass_split_proof.specs.states.Activations.{Inside}
use Rattle.pass_split_proof.specs.states.Instances.{AreFrames, IsHeaded}
use Rattle.pass_split_proof.specs.states.Memories.{AreWorldsBeside, homes_of}
use Rattle.pass_split_proof.specs.states.Related.{AreRelated, credit_of}
use Rattle.pass_split_proof.specs.states.Values.{AreValuesOf}
use Rattle.pass_proofs.specs.run_framed.Framed.{FramedGiven, framed_step, freed_address}
use Rattle.pass_proofs.proofs.run_laws.transfer.Sets.{set_elsewhere, set_length, sets_name}
use Rattle.pass_proofs.specs.run_laws.access.Lines.{pointer_at}
use Rattle.pass_proofs.specs.run_memory.declared.block.MemoryBlock.{MemoryBlock}
use Rattle.pass_proofs.specs.run_memory.declared.pointer.Pointer.{Pointer}
use Rattle.pass_proofs.specs.run_memory.declared.pointer.Value.{Value}
use Rattle.run_access_worked.specs.run_plain.Plain.{PlainGiven, plain_context, plain_settled, plain_work}
use Rattle.run_access_worked.specs.run_plain.declared.state.PlainState.{PlainState}
use Rattle.pass_proofs.specs.run_source.Source.{change_own}
use Rattle.pass_proofs.specs.run_source.State.{frame_address_of, function_of, gives, next, numbered}
use Rattle.pass_proofs.specs.run_source.declared.state.Instance.{Instance}
use Rattle.pass_proofs.specs.run_source.declared.state.State.{State}
use Rattle.pass_proofs.specs.run_step.Step.{AtInstr, Coro, Done, set_value, value_at}
use Rattle.pass_proofs.specs.run_step.Values.{distance, element, indices_of, with_value}

-- a part of an instance that allocates gives the frame's address
freed_is : (s : Shape) (part : Part) → is_given_part part ≡ false → freed_by s part ≡ Operand.Local s.begin
freed_is s Part.Ramp e = refl
freed_is s Part.Resume e = refl
freed_is s Part.Destroy e = refl
freed_is s Part.Cleanup e = absurd (cc)
freed_is s Part.GivenRamp e = absurd (cc)

abbrev pub released : Instance → Instance
released x = record x { released = true }

-- a released instance has its frame where it had it
pub saved_too : {given : Bool} (g : FramedGiven) (n : List MemoryBlock) (x : Instance) → IsHeaded g n given x
    → IsHeaded g n given (released x)
saved_too g n x k = record {
  destroyer = k.destroyer;
  is = k.is;
  right = k.right;
  stands = k.stands;
  destroys = k.destroys;
  saved = λ suspend values e. let w = k.saved suspend values e in record {
    number = w.number;
    numbered = w.numbered;
    led = w.led;
    resumes = w.resumes;
    index = record { holds = w.index.holds };
  };
}

module _ (g : FramedGiven) (h : PlainGiven) (s : State) (t : PlainState) (r : AreRelated g h s t)
    (runs : s.outcome ≡ Outcome.Running) (k : IsAtIntrinsic g h s t r Intrinsic.CoroFree)
    (kept : is_given_part r.top.part ≡ false) where
  abbrev f : Function
  f = function_of g.given s

  abbrev q : Function
  q = function_at h.code t.top.func

  abbrev at : Option ℕ → Instr
  at result = call_here g h s t r runs Intrinsic.CoroFree k result

  abbrev here : ℕ → Instr
  here name = address name (Operand.Local r.top.shape.begin) (pos 0)

  -- what is done with the instance
  abbrev freeing : Option ℕ → Option (ℕ × Instance) → State
  freeing result o = gives (change_own s released o) result (freed_address s.world.memory o)

  is : framed_step g s ≡ freeing k.result (option_and_then (numbered s.instances) s.top.instance)
  is = framed_does g s (AtInstr (at k.result)) (Coro Intrinsic.CoroFree k.args k.result) runs k.there refl refl

  alone_there : (name : ℕ) → IsAlone r.top.shape r.top.part (at (Some name)) (here name)
  alone_there name = record {
    begins = not_again r.top.part (at (Some name)) refl;
    cut = λ after. refl;
    lowered = λ n. ap (λ (x : Operand). address name x (pos 0) ∷ []) (freed_is r.top.shape r.top.part kept);
  }

  reach : (n : ℕ) → n ≤ n
  reach n = omega arith

  -- ---- of an activation without an instance

  module _ (none : s.top.instance ≡ None) where
    is_none : framed_step g s ≡ gives s k.result Value.Poison
    is_none = is ∙ ap (λ (o : Option ℕ). freeing k.result (option_and_then (numbered s.instances) o)) none

    none_by : (o : Option ℕ) → k.result ≡ o → IsFollowed g h s t
    none_by None e = none_given g h s t r runs Intrinsic.CoroFree k e
        (record { begins = not_again r.top.part (at None) refl; cut = λ after. refl; lowered = λ n. refl })
        (is_none ∙ ap (λ (o : Option ℕ). gives s o Value.Poison) e)
    none_by (Some name) e = one_given g h s t r runs Intrinsic.CoroFree k name (here name) Value.Poison
        (element t.world.memory false (value_at (plain_context h t) (plain_work t) ptr (Operand.Local
        r.top.shape.begin)) (distance h.code (int 8) (indices_of h.code t.top.values (number_arg 64 (pos 0) ∷ []))))
        e (alone_there name) tt refl (is_none ∙ ap (λ (o : Option ℕ). gives s o Value.Poison) e)

  -- ---- of an instance

  module _ (allocated : HasOwnFrame s) (i : ℕ) (own : s.top.instance ≡ Some i) where
    abbrev x : Instance
    x = (has g h s t r runs i own).instance

    there : slice_get s.instances i ≡ Some x
    there = (has g h s t r runs i own).there

    abbrev ys : List Instance
    ys = slice_set s.instances i (released x)

    abbrev z : State
    z = record s { instances = ys }

    abbrev v : Value
    v = frame_address_of x

    abbrev u : Value
    u = pointer_at x.block x.start

    is_some : framed_step g s ≡ gives z k.result v
    is_some = is ∙ ap (freeing k.result) (found g h s t r runs i own)
        ∙ ap (λ (b : Bool). gives z k.result (if b then Value.Ptr Pointer.Null else v)) (allocated i x own there)

    world : AreWorldsBeside g ys s.world t.world
    world = record {
      memory = status_beside g s.instances s.world.memory t.world.memory i x there x.status x.last_save true
          r.world.memory;
      events = r.world.events;
      answers = r.world.answers;
      allocs = r.world.allocs;
    }

    frames : AreFrames g ys s.world.memory t.world.memory
    frames = status_frames g s.instances s.world.memory t.world.memory i x there x.status x.last_save true (λ held. held)
        r.frames (λ held. saved_too g t.world.memory x (r.frames.headed i x there held))

    places : KeepsPlaces s.instances ys s.world.memory s.world.memory
    places = set_places s.instances s.world.memory i x (released x) there refl refl

    keeps : KeepsFrames s.instances ys
    keeps = state_frames s.instances i x x.status x.last_save true there

    some_none : k.result ≡ None → IsFollowed g h s t
    some_none e = none_followed g h s t r runs (next z) (is_some ∙ ap (λ (o : Option ℕ). gives z o v) e)
        (reach (credit_of s)) (next_lower f s.top.block s.top.at (at k.result) k.there)
        (advanced g h s t r (record { world = s.world; values = s.top.values }) (plain_work t) ys s.top.block
        (s.top.at + 1) t.top.block t.top.at s.top.has_left k.settled world frames keeps
        (reach (length s.world.memory)) (record { each = λ b e. refl }) r.top.values refl refl refl
        (Inside s.top.mode k.settled (nothing_there r.top.shape r.top.part f q s.top.block s.top.at t.top.block t.top.at
        (at None)
        (record { begins = not_again r.top.part (at None) refl; cut = λ after. refl; lowered = λ n. refl })
        k.place (k.there ∙ ap (λ (o : Option ℕ). AtInstr (at o)) e))))
        (λ know. goes_knows g s t ys s.world.memory t.top.values (record { each = λ b e. refl }) places know
        (λ frame e. refl))

    module _ (name : ℕ) (e : k.result ≡ Some name) where
      copied : IsCopied r.top.shape r.top.part f q s.top.block s.top.at t.top.block t.top.at (here name)
      copied = alone r.top.shape r.top.part f q s.top.block s.top.at t.top.block t.top.at (at (Some name)) (here name)
          (alone_there name) k.place (k.there ∙ ap (λ (o : Option ℕ). AtInstr (at o)) e)

      stand : AreValuesOf f (homes_of s.world.memory) (with_value s.top.values name v) (with_value t.top.values name u)
      stand = values_set f (homes_of s.world.memory) (Some name) s.top.values t.top.values
          (with_value s.top.values name v) (with_value t.top.values name u)
          r.top.values (sets_name (homes_of s.world.memory) s.top.values t.top.values r.top.values.room name v u
          (stands g h s t r runs i own))

      some_one : IsFollowed g h s t
      some_one = one_followed g h s t r runs (gives z (Some name) v)
          (plain_settled t (set_value (plain_work t) name u)) (is_some ∙ ap (λ (o : Option ℕ). gives z o v) e)
          (plain_does h t (AtInstr (here name)) (Done (set_value (plain_work t) name u)) (r.outcome ∙ runs) copied.0
          (gives_address g h s t r runs i own name))
          (reach (credit_of s))
          (advanced g h s t r (record { world = s.world; values = with_value s.top.values name v })
          (set_value (plain_work t) name u) ys s.top.block (s.top.at + 1) t.top.block (t.top.at + 1)
          s.top.has_left k.settled world frames keeps (reach (length s.world.memory)) (record { each = λ b e. refl })
          stand (set_length s.top.values name v) (set_length t.top.values name u)
          (set_elsewhere t.top.values name r.top.shape.begin u (λ n. k.others (e ∙ ap (λ (a : ℕ). Some a) n)))
          (Inside s.top.mode k.settled copied.1))
          (λ know. goes_knows g s t ys s.world.memory (with_value t.top.values name u) (record { each = λ b e. refl })
          places know (set_kept g h s t r t.top.values u s.top.block s.top.at (at k.result) k.there name e))

    some_by : (o : Option ℕ) → k.result ≡ o → IsFollowed g h s t
    some_by None e = some_none e
    some_by (Some name) e = some_one name e

  by_instance : HasOwnFrame s → (o : Option ℕ) → s.top.instance ≡ o → IsFollowed g h s t
  by_instance allocated None e = none_by e k.result refl
  by_instance allocated (Some i) e = some_by allocated i e k.result refl

  pub free_followed : HasOwnFrame s → IsFollowed g h s t
  free_followed allocated = by_instance allocated s.top.instance refl
