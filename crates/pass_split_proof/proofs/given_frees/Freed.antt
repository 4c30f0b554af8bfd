-- A release of a frame that was given gives null.
use Rattle.std.proofs.Common.{◌≡◌, ℕ, ◌+◌, ◌≤◌, Bool, true, List, ◌∷◌, [], length, Option, Some, None, refl, ap, ◌∙◌, arith, if◌then◌else◌}
use Rattle.std.specs.Prelude.{option_and_then, pos, slice_get, slice_set}
use Rattle.pass_proofs.specs.ir_base.declared.outcome.Outcome.{Outcome}
use Rattle.pass_proofs.specs.ir_model.Names.{function_at}
use Rattle.pass_proofs.specs.ir_model.declared.instr.Instr.{Instr}
use Rattle.pass_proofs.specs.ir_model.declared.module.Function.{Function}
use Rattle.pass_proofs.specs.ir_model.declared.operand.Intrinsic.{Intrinsic}
use Rattle.pass_proofs.specs.ir_model.declared.operand.Operand.{Operand}
use Rattle.pass_proofs.specs.pass_intrinsics.Lowered.{address, freed_by}
use Rattle.pass_proofs.specs.pass_intrinsics.declared.shape.Part.{Part}
use Rattle.pass_proofs.specs.pass_intrinsics.declared.shape.Shape.{Shape}
use Rattle.pass_split_proof.proofs.simulation.Knowing.{KeepsPlaces, goes_knows, set_kept, set_places}
use Rattle.pass_split_proof.proofs.giving.Constants.{not_again}
use Rattle.pass_split_proof.proofs.giving.Frames.{found, has}
use Rattle.pass_split_proof.proofs.giving.Freed.{released, saved_too}
use Rattle.pass_split_proof.proofs.giving.Given.{call_here, none_given, nothing_there, one_given}
use Rattle.pass_split_proof.proofs.silent.Measure.{next_lower}
use Rattle.pass_split_proof.proofs.states.Advanced.{KeepsFrames, advanced}
use Rattle.pass_split_proof.proofs.states.Statuses.{status_beside, status_frames}
use Rattle.pass_split_proof.proofs.states.Values.{values_set}
use Rattle.pass_split_proof.proofs.steps.Followed.{framed_does, none_followed, one_followed}
use Rattle.pass_split_proof.proofs.steps.Ordinary.{IsAlone, IsCopied, alone}
use Rattle.pass_split_proof.proofs.steps.Saves.{state_frames}
use Rattle.pass_split_proof.proofs.steps.Settled.{plain_does}
use Rattle.pass_split_proof.specs.code.Positions.{is_given as is_given_part}
use Rattle.pass_split_proof.specs.given_frees.Freeing.{HasGivenFrame}
use Rattle.pass_split_proof.specs.giving.Intrinsics.{IsAtIntrinsic}
use Rattle.pass_split_proof.specs.simulation.Followed.{IsFollowed}
use Rattle.pass_split_proof.specs.states.Activations.{Inside}
use Rattle.pass_split_proof.specs.states.Instances.{AreFrames}
use Rattle.pass_split_proof.specs.states.Memories.{AreWorldsBeside, homes_of}
use Rattle.pass_split_proof.specs.states.Related.{AreRelated, credit_of}
use Rattle.pass_split_proof.specs.states.Values.{AreValuesOf}
use Rattle.pass_proofs.specs.run_framed.Framed.{FramedGiven, framed_step, freed_address}
use Rattle.pass_proofs.proofs.run_laws.transfer.Sets.{set_elsewhere, set_length, sets_name}
use Rattle.pass_proofs.specs.run_memory.declared.pointer.Pointer.{Pointer}
use Rattle.pass_proofs.specs.run_memory.declared.pointer.Value.{Value}
use Rattle.run_access_worked.specs.run_plain.Plain.{PlainGiven, plain_context, plain_settled, plain_work}
use Rattle.run_access_worked.specs.run_plain.declared.state.PlainState.{PlainState}
use Rattle.pass_proofs.specs.run_source.Source.{change_own}
use Rattle.pass_proofs.specs.run_source.State.{frame_address_of, function_of, gives, next, numbered}
use Rattle.pass_proofs.specs.run_source.declared.state.Instance.{Instance}
use Rattle.pass_proofs.specs.run_source.declared.state.State.{State}
use Rattle.pass_proofs.specs.run_step.Step.{AtInstr, Context, Coro, Done, Work, instr_action, set_value}
use Rattle.pass_proofs.specs.run_step.Values.{with_value}

-- a part of an instance whose frame was given gives null
freed_is : (s : Shape) (part : Part) → is_given_part part ≡ true → freed_by s part ≡ Operand.Null
freed_is s Part.Cleanup e = refl
freed_is s Part.GivenRamp e = refl
freed_is s Part.Ramp e = absurd (cc)
freed_is s Part.Resume e = absurd (cc)
freed_is s Part.Destroy e = absurd (cc)

-- null, and no bytes behind it
null_done : (c : Context) (w : Work) (name : ℕ) → instr_action c w (address name Operand.Null (pos 0))
    ≡ Done (set_value w name (Value.Ptr Pointer.Null))
null_done c w name = refl

module _ (g : FramedGiven) (h : PlainGiven) (s : State) (t : PlainState) (r : AreRelated g h s t)
    (runs : s.outcome ≡ Outcome.Running) (k : IsAtIntrinsic g h s t r Intrinsic.CoroFree)
    (kept : is_given_part r.top.part ≡ true) where
  abbrev f : Function
  f = function_of g.given s

  abbrev q : Function
  q = function_at h.code t.top.func

  abbrev at : Option ℕ → Instr
  at result = call_here g h s t r runs Intrinsic.CoroFree k result

  abbrev here : ℕ → Instr
  here name = address name Operand.Null (pos 0)

  -- what is done with the instance
  abbrev freeing : Option ℕ → Option (ℕ × Instance) → State
  freeing result o = gives (change_own s released o) result (freed_address s.world.memory o)

  is : framed_step g s ≡ freeing k.result (option_and_then (numbered s.instances) s.top.instance)
  is = framed_does g s (AtInstr (at k.result)) (Coro Intrinsic.CoroFree k.args k.result) runs k.there refl refl

  alone_there : (name : ℕ) → IsAlone r.top.shape r.top.part (at (Some name)) (here name)
  alone_there name = record {
    begins = not_again r.top.part (at (Some name)) refl;
    cut = λ after. refl;
    lowered = λ n. ap (λ (x : Operand). address name x (pos 0) ∷ []) (freed_is r.top.shape r.top.part kept);
  }

  reach : (n : ℕ) → n ≤ n
  reach n = omega arith

  -- ---- of an activation without an instance

  module _ (none : s.top.instance ≡ None) where
    is_none : framed_step g s ≡ gives s k.result Value.Poison
    is_none = is ∙ ap (λ (o : Option ℕ). freeing k.result (option_and_then (numbered s.instances) o)) none

    none_by : (o : Option ℕ) → k.result ≡ o → IsFollowed g h s t
    none_by None e = none_given g h s t r runs Intrinsic.CoroFree k e
        (record { begins = not_again r.top.part (at None) refl; cut = λ after. refl; lowered = λ n. refl })
        (is_none ∙ ap (λ (o : Option ℕ). gives s o Value.Poison) e)
    none_by (Some name) e = one_given g h s t r runs Intrinsic.CoroFree k name (here name) Value.Poison
        (Value.Ptr Pointer.Null) e (alone_there name) tt (null_done (plain_context h t) (plain_work t) name)
        (is_none ∙ ap (λ (o : Option ℕ). gives s o Value.Poison) e)

  -- ---- of an instance

  module _ (given : HasGivenFrame s) (i : ℕ) (own : s.top.instance ≡ Some i) where
    abbrev x : Instance
    x = (has g h s t r runs i own).instance

    there : slice_get s.instances i ≡ Some x
    there = (has g h s t r runs i own).there

    abbrev ys : List Instance
    ys = slice_set s.instances i (released x)

    abbrev z : State
    z = record s { instances = ys }

    abbrev v : Value
    v = Value.Ptr Pointer.Null

    is_some : framed_step g s ≡ gives z k.result v
    is_some = is ∙ ap (freeing k.result) (found g h s t r runs i own)
        ∙ ap (λ (b : Bool). gives z k.result (if b then Value.Ptr Pointer.Null else frame_address_of x)) (given i x own there)

    world : AreWorldsBeside g ys s.world t.world
    world = record {
      memory = status_beside g s.instances s.world.memory t.world.memory i x there x.status x.last_save true
          r.world.memory;
      events = r.world.events;
      answers = r.world.answers;
      allocs = r.world.allocs;
    }

    frames : AreFrames g ys s.world.memory t.world.memory
    frames = status_frames g s.instances s.world.memory t.world.memory i x there x.status x.last_save true (λ held. held)
        r.frames (λ held. saved_too g t.world.memory x (r.frames.headed i x there held))

    places : KeepsPlaces s.instances ys s.world.memory s.world.memory
    places = set_places s.instances s.world.memory i x (released x) there refl refl

    keeps : KeepsFrames s.instances ys
    keeps = state_frames s.instances i x x.status x.last_save true there

    some_none : k.result ≡ None → IsFollowed g h s t
    some_none e = none_followed g h s t r runs (next z) (is_some ∙ ap (λ (o : Option ℕ). gives z o v) e)
        (reach (credit_of s)) (next_lower f s.top.block s.top.at (at k.result) k.there)
        (advanced g h s t r (record { world = s.world; values = s.top.values }) (plain_work t) ys s.top.block
        (s.top.at + 1) t.top.block t.top.at s.top.has_left k.settled world frames keeps
        (reach (length s.world.memory)) (record { each = λ b e. refl }) r.top.values refl refl refl
        (Inside s.top.mode k.settled (nothing_there r.top.shape r.top.part f q s.top.block s.top.at t.top.block t.top.at
        (at None)
        (record { begins = not_again r.top.part (at None) refl; cut = λ after. refl; lowered = λ n. refl })
        k.place (k.there ∙ ap (λ (o : Option ℕ). AtInstr (at o)) e))))
        (λ know. goes_knows g s t ys s.world.memory t.top.values (record { each = λ b e. refl }) places know
        (λ frame e. refl))

    module _ (name : ℕ) (e : k.result ≡ Some name) where
      copied : IsCopied r.top.shape r.top.part f q s.top.block s.top.at t.top.block t.top.at (here name)
      copied = alone r.top.shape r.top.part f q s.top.block s.top.at t.top.block t.top.at (at (Some name)) (here name)
          (alone_there name) k.place (k.there ∙ ap (λ (o : Option ℕ). AtInstr (at o)) e)

      stand : AreValuesOf f (homes_of s.world.memory) (with_value s.top.values name v) (with_value t.top.values name v)
      stand = values_set f (homes_of s.world.memory) (Some name) s.top.values t.top.values
          (with_value s.top.values name v) (with_value t.top.values name v)
          r.top.values (sets_name (homes_of s.world.memory) s.top.values t.top.values r.top.values.room name v v (tt, refl))

      some_one : IsFollowed g h s t
      some_one = one_followed g h s t r runs (gives z (Some name) v)
          (plain_settled t (set_value (plain_work t) name v)) (is_some ∙ ap (λ (o : Option ℕ). gives z o v) e)
          (plain_does h t (AtInstr (here name)) (Done (set_value (plain_work t) name v)) (r.outcome ∙ runs) copied.0
          (null_done (plain_context h t) (plain_work t) name))
          (reach (credit_of s))
          (advanced g h s t r (record { world = s.world; values = with_value s.top.values name v })
          (set_value (plain_work t) name v) ys s.top.block (s.top.at + 1) t.top.block (t.top.at + 1)
          s.top.has_left k.settled world frames keeps (reach (length s.world.memory)) (record { each = λ b e. refl })
          stand (set_length s.top.values name v) (set_length t.top.values name v)
          (set_elsewhere t.top.values name r.top.shape.begin v (λ n. k.others (e ∙ ap (λ (a : ℕ). Some a) n)))
          (Inside s.top.mode k.settled copied.1))
          (λ know. goes_knows g s t ys s.world.memory (with_value t.top.values name v) (record { each = λ b e. refl })
          places know (set_kept g h s t r t.top.values v s.top.block s.top.at (at k.result) k.there name e))

    some_by : (o : Option ℕ) → k.result ≡ o → IsFollowed g h s t
    some_by None e = some_none e
    some_by (Some name) e = some_one name e

  by_instance : HasGivenFrame s → (o : Option ℕ) → s.top.instance ≡ o → IsFollowed g h s t
  by_instance given None e = none_by e k.result refl
  by_instance given (Some i) e = some_by given i e k.result refl

  pub given_free_followed : HasGivenFrame s → IsFollowed g h s t
  given_free_followed given = by_instance given s.top.instance refl
