-- An instruction that is done in both runs leaves the states beside each other.
use Rattle.std.proofs.Common.{◌≡◌, ℕ, ◌+◌, ◌≤◌, false, length, Some, refl, sym, ap, ◌∙◌, subst, arith}
use Rattle.std.specs.Prelude.{slice_get}
use Rattle.pass_proofs.specs.ir_base.declared.outcome.Outcome.{Outcome}
use Rattle.pass_proofs.specs.ir_model.Names.{function_at}
use Rattle.pass_proofs.specs.pass_intrinsics.Shapes.{given_name}
use Rattle.pass_split_proof.proofs.states.Advanced.{advanced, same_frames}
use Rattle.pass_split_proof.proofs.simulation.Knowing.{goes_knows, memory_places}
use Rattle.pass_split_proof.proofs.states.Closed.{frames_stay, given_refilled}
use Rattle.pass_split_proof.proofs.states.Values.{values_set}
use Rattle.pass_split_proof.specs.states.Activations.{IsPlaced, is_entering}
use Rattle.pass_split_proof.specs.simulation.Knowing.{KnowsGiven}
use Rattle.pass_split_proof.specs.states.Going.{moved_to, placed_at}
use Rattle.pass_split_proof.specs.states.Instances.{shape_at}
use Rattle.pass_split_proof.specs.states.Memories.{homes_of}
use Rattle.pass_split_proof.specs.states.Related.{AreRelated}
use Rattle.pass_split_proof.specs.states.Values.{AreValuesOf}
use Rattle.pass_split_proof.specs.steps.Done.{IsDoneToo}
use Rattle.pass_proofs.specs.run_framed.Framed.{FramedGiven}
use Rattle.pass_proofs.proofs.run_laws.access.Reading.{as_many}
use Rattle.pass_proofs.specs.run_laws.memory.Pointers.{Extends}
use Rattle.pass_proofs.specs.run_laws.memory.Standing.{own_homes}
use Rattle.pass_proofs.specs.run_laws.transfer.Transfer.{given_at}
use Rattle.run_access_worked.specs.run_plain.Plain.{PlainGiven, plain_advance, plain_context, plain_function, plain_or_undefined, plain_act, plain_settled, plain_step, plain_work}
use Rattle.run_access_worked.specs.run_plain.declared.state.PlainState.{PlainState}
use Rattle.pass_proofs.specs.run_memory.declared.pointer.Value.{Value}
use Rattle.pass_proofs.specs.run_source.State.{settled, work_of}
use Rattle.pass_proofs.specs.run_source.declared.state.Mode.{Mode}
use Rattle.pass_proofs.specs.run_source.declared.state.State.{State}
use Rattle.pass_proofs.specs.run_step.Step.{Action, Done, Fetched, Work, action_of, fetch}

-- a step of the parts' run that does something
pub plain_does : (h : PlainGiven) (t : PlainState) (there : Fetched) (a : Action) → t.outcome ≡ Outcome.Running
    → fetch (plain_function h t) t.top.block t.top.at ≡ there → action_of (plain_context h t) (plain_work t) there ≡ a
    → plain_step h t ≡ plain_or_undefined h t (plain_act h t a)
plain_does h t there a runs here does =
    ap (plain_advance h t) runs
    ∙ ap (λ (x : Fetched). plain_or_undefined h t (plain_act h t (action_of (plain_context h t) (plain_work t) x))) here
    ∙ ap (λ (z : Action). plain_or_undefined h t (plain_act h t z)) does

module _ (g : FramedGiven) (h : PlainGiven) (s : State) (t : PlainState) (r : AreRelated g h s t)
    (here there : Fetched) (v : Work)
    (d : IsDoneToo g s.instances (plain_context h t) (work_of s) (plain_work t) here there v)
    (kept : given_at here ≡ Some r.top.shape.begin → ⊥) (mode : is_entering s.top.mode ≡ false) where
  ext : Extends (homes_of s.world.memory) (homes_of v.world.memory)
  ext = subst (λ (l : ℕ). Extends (homes_of s.world.memory) (own_homes 0 l))
      (sym (as_many s.world.memory v.world.memory d.refilled)) (record { each = λ b e. refl })

  stand : AreValuesOf (function_at g.given.code s.top.func) (homes_of v.world.memory) v.values d.work.values
  stand = subst (λ (l : ℕ). AreValuesOf (function_at g.given.code s.top.func) (own_homes 0 l) v.values d.work.values)
      (sym (as_many s.world.memory v.world.memory d.refilled))
      (values_set (function_at g.given.code s.top.func) (homes_of s.world.memory) (given_at here) s.top.values
      t.top.values v.values d.work.values r.top.values d.set)

  pub settled_related : IsPlaced r.top.shape r.top.part (function_at g.given.code s.top.func)
      (function_at h.code t.top.func) (moved_to s.top s.top.block (s.top.at + 1) v.values s.top.has_left)
      (placed_at t.top t.top.block (t.top.at + 1) d.work.values) s.top.mode
      → AreRelated g h (settled s v) (plain_settled t d.work)
  settled_related place = advanced g h s t r v d.work s.instances s.top.block (s.top.at + 1) t.top.block
      (t.top.at + 1) s.top.has_left mode d.world
      (frames_stay g s.instances s.world.memory t.world.memory v.world.memory d.work.world.memory r.frames d.refilled
      d.free)
      (same_frames s.instances) long ext stand d.set.length_source d.set.length_target (d.set.target r.top.shape.begin kept) place
    where
      long : length s.world.memory ≤ length v.world.memory
      long = let e = as_many s.world.memory v.world.memory d.refilled in omega arith

  -- what is known of given frames stays, where the parameter for one isn't set
  pub settled_knows : ((frame : Value) → s.top.mode ≡ Mode.GivenRamp frame
      → given_at here ≡ Some (given_name (shape_at g s.top.func)) → ⊥)
      → KnowsGiven g s t → KnowsGiven g (settled s v) (plain_settled t d.work)
  settled_knows unset known = goes_knows g s t s.instances v.world.memory d.work.values ext
      (memory_places s.instances s.world.memory v.world.memory (λ i x e. given_refilled x
      (slice_get s.world.memory x.block) (slice_get v.world.memory x.block) (d.refilled.each x.block))) known
      (λ frame e. d.set.target (given_name (shape_at g s.top.func)) (unset frame e))

  pub settles : t.outcome ≡ Outcome.Running → fetch (plain_function h t) t.top.block t.top.at ≡ there
      → plain_step h t ≡ plain_settled t d.work
  settles runs at = plain_does h t there (Done d.work) runs at d.does
