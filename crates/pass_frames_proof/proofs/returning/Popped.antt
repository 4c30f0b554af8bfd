-- The activation on top is gone: the one below it is on top, where it goes on.
use Rattle.std.proofs.Common.{◌≡◌, List, ◌∷◌, refl, sym, ◌∙◌, subst}
use Rattle.std.proofs.lemmas.List.{map-append}
use Rattle.std.specs.Prelude.{map}
use Rattle.pass_frames_steps.specs.flow_solver.Paths.{IsListed}
use Rattle.pass_frames_steps.proofs.ir_laws.paths.edges.Lists.{different_right}
use Rattle.pass_frames_steps.specs.ir_laws.paths.woven_rules.Pairs.{AreDifferent}
use Rattle.pass_frames_proof.proofs.returning.Turned.{activation_turned, ahead_turned, placed_at}
use Rattle.pass_frames_steps.proofs.stepping.Rest.{LeavesRest, all_ahead_kept, below_kept, free_kept, instance_kept}
use Rattle.pass_frames_steps.specs.Related.{AreAllAhead, AreBelow, AreBuiltOf, AreFreeCells, Building, all_slots, slots_below, top_place}
use Rattle.pass_frames_steps.specs.run_framed.Framed.{frame_rights}
use Rattle.pass_frames_steps.specs.run_laws.transfer.Transfer.{AreOver}
use Rattle.pass_frames_steps.specs.run_memory.Memory.{owner_rights}
use Rattle.pass_frames_steps.specs.run_source.declared.state.Activation.{Activation}
use Rattle.pass_frames_steps.specs.run_source.declared.state.State.{State}
use Rattle.pass_frames_steps.specs.run_step.declared.world.Slot.{Slot}
use Rattle.pass_frames_steps.specs.run_step.declared.world.World.{World}

module _ (b : Building) (s t : State) (r : AreBuiltOf b s t) (w u : World) (left : LeavesRest b s t r w u)
    (over : AreOver owner_rights (frame_rights b.given t.instances) r.homes r.hides (λ d. d) w u)
    (a c : Activation) (ps cs : List Activation) (below_s : s.below ≡ a ∷ ps) (below_t : t.below ≡ c ∷ cs) where
  abbrev pub c' : Activation
  c' = placed_at c (top_place b a)

  abbrev pub s' : State
  s' = record s { world = w; top = a; below = ps }

  abbrev pub t' : State
  t' = record t { world = u; top = c'; below = cs }

  old : AreBelow b r.homes r.hides t (a ∷ ps) (c ∷ cs)
  old = subst (λ (z : List Activation × List Activation). AreBelow b r.homes r.hides t z.0 z.1)
      (λ i. (below_s i, below_t i)) r.below

  now : AreBelow b r.homes r.hides t' (a ∷ ps) (c ∷ cs)
  now =
      below_kept b s t r w u left c' cs (a ∷ ps) (c ∷ cs)
      (λ z l. subst (IsListed z) (sym below_s) l) (λ z l. subst (IsListed z) (sym below_t) l) old

  free : AreFreeCells b r.homes r.hides w.memory (c ∷ cs)
  free = subst (AreFreeCells b r.homes r.hides w.memory) below_t (free_kept b s t r w u left t.below r.cells.1)

  ahead : AreAllAhead b r.homes r.hides w.memory u.memory (a ∷ ps) (c ∷ cs)
  ahead =
      all_ahead_kept b s t r w u left (a ∷ ps) (c ∷ cs) (λ z l. subst (IsListed z) (sym below_t) l)
      (subst (λ (z : List Activation × List Activation).
      AreAllAhead b r.homes r.hides s.world.memory t.world.memory z.0 z.1) (λ i. (below_s i, below_t i)) r.ahead.1)

  once : AreDifferent (map (λ (slot : Slot). slot.block) (all_slots t'))
  once =
      subst (λ (z : List Activation). AreDifferent (map (λ (slot : Slot). slot.block) (slots_below z))) below_t
      (different_right (map (λ (slot : Slot). slot.block) t.top.slots)
      (map (λ (slot : Slot). slot.block) (slots_below t.below))
      (subst AreDifferent (map-append (λ (slot : Slot). slot.block) t.top.slots (slots_below t.below)) r.once))

  pub popped : AreBuiltOf b s' t'
  popped = record {
    homes = r.homes;
    hides = r.hides;
    world = over;
    known = r.known ∙ sym left.known;
    globals = r.globals;
    mates = left.mates;
    hidden = r.hidden;
    count = r.count;
    instances = λ i x y e d. instance_kept b s t r w u left c' cs i x y e (r.instances i x y e d);
    top = activation_turned b r.homes r.hides t' _ (top_place b) a c now.0;
    below = now.1;
    once = once;
    cells = free;
    ahead = (
      (λ is first zero. ahead_turned (b.framing a.func) r.homes r.hides w.memory u.memory a c (top_place b a)
          (ahead.0 is first zero)),
      ahead.1,
    );
    outcome = r.outcome;
  }

  -- blocks stand where they stood
  pub popped_homes : popped.homes ≡ r.homes
  unfolding popped
  popped_homes = refl
