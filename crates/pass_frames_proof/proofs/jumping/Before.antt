-- What holds before a jump, and of the values behind it.
use Rattle.std.proofs.Common.{◌≡◌, ℕ, ◌≤◌, true, List, length, sym, subst, arith}
use Rattle.std.specs.List.{Contains}
use Rattle.std.specs.Prelude.{Option, slice_get}
use Rattle.pass_frames_steps.specs.ir_model.declared.instr.Instr.{Instr}
use Rattle.pass_frames_steps.specs.ir_model.declared.instr.Terminator.{Terminator}
use Rattle.pass_frames_steps.proofs.code.Left.{Far, far_named}
use Rattle.pass_frames_proof.proofs.jumping.Pairs.{AreAllSet, all_set}
use Rattle.pass_frames_steps.proofs.stepping.May.{coroutine_values, not_returned}
use Rattle.pass_frames_steps.specs.Edges.{AreEndsLed, IsAtJump, block_to, entered_phis, entered_work}
use Rattle.pass_frames_steps.specs.Framings.{IsFraming}
use Rattle.pass_frames_steps.specs.Places.{Framing, edged, framed, named}
use Rattle.pass_frames_steps.specs.Related.{AreBuiltOf, AreCellsRight, AreCoroutines, AreNamed, AreWheresRight, Building, HasCells, IsCellName, IsFreeOf, instance_in, is_coroutine}
use Rattle.pass_frames_steps.specs.Stepping.{AreGiven}
use Rattle.pass_frames_steps.specs.pass_renewed_proof.Renewed.{RenewedGiven}
use Rattle.pass_frames_steps.specs.run_framed.Framed.{frame_rights}
use Rattle.pass_frames_steps.specs.run_memory.Memory.{Rights}
use Rattle.pass_frames_steps.specs.run_source.declared.state.State.{State}
use Rattle.pass_frames_steps.specs.run_step.Step.{label_of, phi_values, phis_of, with_all}
use Rattle.pass_frames_steps.specs.run_step.Values.{Env}
use Rattle.pass_frames_steps.specs.run_step.declared.world.Slot.{Slot}

module _ (b : Building) (g : RenewedGiven) (given : AreGiven b g) (s t : State) (r : AreBuiltOf b s t)
    (e other : Terminator) (label : ℕ) (line : List Instr) (h : IsAtJump b g s e label)
    (ends : AreEndsLed b g s t r label line other) where
  abbrev x : Framing
  x = b.framing s.top.func

  abbrev R : Rights
  R = frame_rights b.given t.instances

  abbrev k : ℕ
  k = block_to x label

  is : IsFraming x
  is = given.framings s.top.func h.coroutine

  abbrev env : Env
  env = with_all s.top.values (entered_phis g s x label)

  abbrev bound : ℕ
  bound = length (edged x).names

  pub old : AreCoroutines x r.homes R t s.top t.top
  old = coroutine_values b r.homes R t s.top t.top (is_coroutine b s.top.func) h.coroutine r.top.values

  pub old_names : AreNamed x r.homes s.top t.top
  old_names = old.names

  pub cells_before : AreCellsRight x r.homes R t.world.memory s.top.values t.top
      × AreWheresRight x R t.world.memory (instance_in t.instances t.top.instance) t.top
  cells_before =
      subst (λ (o : Option ℕ). HasCells x r.homes R t.world.memory
      (instance_in t.instances t.top.instance) s.top t.top o)
      (not_returned x s.top s.top.mode h.mode h.unreturned) old.cells

  pub free_before : (slot : Slot) → Contains t.top.slots slot → IsCellName x slot.alloca
      → IsFreeOf r.homes r.hides s.world.memory slot.block
  free_before slot listed name =
      r.cells.0 (subst (λ (n : ℕ). is_coroutine b n ≡ true) (sym r.top.func) h.coroutine) slot listed
      (subst (λ (n : ℕ). IsCellName (b.framing n) slot.alloca) (sym r.top.func) name)

  pub far : bound ≤ length (named x).names
  far = let a : Far x is ≤ length (named x).names = far_named x is in omega (arith, a)

  pub enough : length s.top.values ≤ length ends.work.values
  enough =
      let p = h.room in
      let q = h.wide in
      let u = ends.room in
      let v = old.names.room in
      omega (arith, p, q, u, v)

  pub all_before : AreAllSet r.homes bound s.top.values ends.work.values env
      (entered_work b t x s.top.block label ends.work).values
  all_before =
      all_set r.homes bound s.top.values ends.work.values (entered_phis g s x label)
      (phi_values b.given.given.code ends.work.values (label_of (slice_get (framed x).blocks s.top.block))
      (phis_of (slice_get (framed x).blocks k))) enough ends.phis
