-- A Suspended instance can go on in each part that goes on there, where Suspended instances have their frames.
use Rattle.std.proofs.Common.{◌≡◌, ℕ, zero, suc, true, false, List, [], ◌∷◌, Option, Some, None, refl, sym, ap, ◌∙◌, subst}
use Rattle.std.specs.Prelude.{slice_get}
use Rattle.std.proofs.lemmas.Bool.{false≢true}
use Rattle.pass_proofs.proofs.flow_solver.Lists.{listed_at}
use Rattle.pass_proofs.specs.flow_solver.Paths.{IsListed}
use Rattle.pass_split_proof.specs.steps.Returns.{IsReturnBlock}
use Rattle.pass_proofs.specs.ir_model.Names.{function_at, position_of}
use Rattle.pass_proofs.specs.ir_model.declared.instr.Instr.{Instr}
use Rattle.pass_proofs.specs.ir_model.declared.module.Block.{Block}
use Rattle.pass_proofs.specs.ir_model.declared.module.Function.{Function}
use Rattle.pass_proofs.specs.ir_paths.Windows.{destroy_label, resume_label}
use Rattle.pass_proofs.specs.pass_intrinsics.Cuts.{goes_on}
use Rattle.pass_proofs.specs.pass_intrinsics.Shapes.{suspends_of}
use Rattle.pass_proofs.specs.pass_intrinsics.declared.shape.Part.{Part}
use Rattle.pass_proofs.specs.pass_intrinsics.declared.shape.SuspendPoint.{SuspendPoint}
use Rattle.pass_proofs.specs.pass_kept_proof.Related.{AreSoundInstances, IsSoundStatus}
use Rattle.pass_proofs.specs.pass_split.Pieces.{going_on}
use Rattle.pass_split_proof.specs.own_blocks.Own.{IsOwnState}
use Rattle.pass_split_proof.specs.simulation.Premises.{AreFunctionsMet, IsCoroutineThere}
use Rattle.pass_split_proof.specs.states.Instances.{IsHeadedIn, IsSavedAt, StandsThere, is_destroyer, is_held}
use Rattle.pass_split_proof.specs.states.Related.{AreRelated}
use Rattle.pass_split_proof.specs.steps.Resuming.{CanWake}
use Rattle.pass_split_proof.specs.steps.Woken.{IsWoken}
use Rattle.pass_split_proof.specs.waking.Able.{CanBeDestroyed, CanBeResumed}
use Rattle.pass_proofs.specs.run_framed.Framed.{FramedGiven}
use Rattle.run_types.specs.run_hooks.Reached.{IsReachedState}
use Rattle.pass_proofs.specs.run_memory.declared.pointer.Value.{Value}
use Rattle.run_access_worked.specs.run_plain.Plain.{PlainGiven}
use Rattle.run_access_worked.specs.run_plain.declared.state.PlainState.{PlainState}
use Rattle.pass_proofs.specs.run_source.State.{is_suspended}
use Rattle.pass_proofs.specs.run_source.declared.state.Instance.{Instance}
use Rattle.pass_proofs.specs.run_source.declared.state.State.{State}
use Rattle.pass_proofs.specs.run_source_tables.Given.{Given, is_final}
use Rattle.pass_proofs.specs.run_step.Step.{AtInstr, fetch, fetch_in, label_of}

-- a block stands where an instruction does
pub own_block : (f : Function) (block at : ℕ) (i : Instr) → fetch f block at ≡ AtInstr i
    → (b : Block) × (slice_get f.blocks block ≡ Some b)
own_block f block at i e = on (slice_get f.blocks block) refl e
  where
    on : (o : Option Block) → slice_get f.blocks block ≡ o → fetch_in o at ≡ AtInstr i
        → (b : Block) × (slice_get f.blocks block ≡ Some b)
    on None f e = absurd (cc)
    on (Some b) f e = (b, f)

sound_at : (g : Given) (xs : List Instance) (i : ℕ) (x : Instance) → AreSoundInstances g xs
    → slice_get xs i ≡ Some x → IsSoundStatus g x.coroutine x.status
sound_at g [] i x h e = absurd (cc)
sound_at g (y ∷ xs) zero x h e = subst (λ (z : Instance). IsSoundStatus g z.coroutine z.status) (same e) h.0
  where
    same : Some y ≡ Some x → y ≡ x
    same e = cc
sound_at g (y ∷ xs) (suc i) x h e = sound_at g xs i x h.1 e

-- a destroyer goes on
destroys : (part : Part) → is_destroyer part ≡ true → goes_on part ≡ true
destroys Part.Destroy e = refl
destroys Part.Cleanup e = refl
destroys Part.Ramp e = absurd (false≢true e)
destroys Part.GivenRamp e = absurd (false≢true e)
destroys Part.Resume e = absurd (false≢true e)

no_resume : (part : Part) → is_destroyer part ≡ true → part ≡ Part.Resume → ⊥
no_resume part e same = false≢true (sym (ap is_destroyer same) ∙ e)

destroys_to : (part : Part) (p : SuspendPoint) → is_destroyer part ≡ true → going_on part (Some p) ≡ Some p.destroy
destroys_to Part.Destroy p e = refl
destroys_to Part.Cleanup p e = refl
destroys_to Part.Ramp p e = absurd (false≢true e)
destroys_to Part.GivenRamp p e = absurd (false≢true e)
destroys_to Part.Resume p e = absurd (false≢true e)

module _ (g : FramedGiven) (h : PlainGiven) (met : AreFunctionsMet g h) (s : State) (t : PlainState)
    (r : AreRelated g h s t) (own : IsOwnState g.given.code s)
    (sleepers : (i : ℕ) (x : Instance) → slice_get s.instances i ≡ Some x → is_suspended x.status ≡ true
    → is_held s.world.memory x ≡ true) (reached : IsReachedState g.given s) (p : Value) where
  module _ (w : IsWoken s p) where
    abbrev x : Instance
    x = w.instance

    abbrev f : Function
    f = function_at g.given.code w.instance.coroutine

    there : IsCoroutineThere g h w.instance.coroutine
    there = met.coroutines x.coroutine (own.instances w.number x w.there).coroutine

    pub woken_held : is_held s.world.memory x ≡ true
    woken_held = sleepers w.number x w.there (ap is_suspended w.status)

    headed : IsHeadedIn g s.world.memory t.world.memory x
    headed = r.frames.headed w.number x w.there woken_held

    abbrev saved : IsSavedAt g t.world.memory x w.suspend
    saved = headed.saved w.suspend w.values w.status

    abbrev point : SuspendPoint
    point = saved.numbered.suspend

    listed : IsListed point (suspends_of f)
    listed = listed_at (suspends_of f) saved.number point saved.numbered.stands

    behind : w.suspend.block ≡ position_of f point.block
    behind =
        let y = subst (IsSoundStatus g.given x.coroutine) w.status (sound_at g.given s.instances w.number x
        reached.instances w.there) in
        let b = own_block f w.suspend.block w.suspend.at y.1.instr y.1.stands in
        sym (ap (position_of f) (saved.numbered.block ∙ ap label_of b.1) ∙ there.blocks w.suspend.block b.0 b.1)

    wakes : (part : Part) (label : ℕ) → goes_on part ≡ true → StandsThere g x.coroutine part
        → (part ≡ Part.Resume → point.is_final ≡ false) → going_on part (Some point) ≡ Some label
        → IsReturnBlock f label → CanWake g h s t p w part label
    wakes part label goes stands final leads block = record {
      waking = record {
        part_there = there.parts part goes stands;
        held = woken_held;
        laid = there.laid;
        saved = saved;
        behind = behind;
        entered = there.entered part point goes listed saved.led final;
        leads = leads;
        own = block;
      };
      takes = there.takes part goes stands;
      ends = there.ends;
    }

    pub resumes : is_final f w.suspend ≡ false → CanWake g h s t p w Part.Resume (resume_label f w.suspend)
    resumes final = wakes Part.Resume (resume_label f w.suspend) refl (λ e. absurd (false≢true e))
        (λ e. saved.numbered.final ∙ final) (ap Some saved.numbered.resume)
        (subst (IsReturnBlock f) saved.numbered.resume (there.returns point listed).0)

    pub destroyed : (part : Part) → is_destroyer part ≡ true → StandsThere g x.coroutine part
        → CanWake g h s t p w part (destroy_label f w.suspend)
    destroyed part is stands = wakes part (destroy_label f w.suspend) (destroys part is) stands
        (λ e. absurd (no_resume part is e)) (destroys_to part point is ∙ ap Some saved.numbered.destroy)
        (subst (IsReturnBlock f) saved.numbered.destroy (there.returns point listed).1)

  pub can_be_resumed : CanBeResumed g h s t p
  can_be_resumed w final = resumes w final

  pub can_be_destroyed : CanBeDestroyed g h s t p
  can_be_destroyed w = record { held = woken_held w; wakes = destroyed w }
