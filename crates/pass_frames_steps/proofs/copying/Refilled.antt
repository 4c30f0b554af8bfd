-- Where bytes are written alone the relation holds with the same activations: cells are free, and so are fields of
-- suspended instances.
use Rattle.std.proofs.Common.{◌≡◌, ◌∷◌, ◌∙◌, None, Some, inl, inr, refl, subst, sym, true, ℕ}
use Rattle.pass_frames_code.specs.flow_solver.Paths.{IsListed}
use Rattle.pass_frames_code.proofs.moved.Rest.{instance_on, on_homes, related_on, same_place}
use Rattle.pass_frames_code.proofs.stepping.Rest.{LeavesRest}
use Rattle.pass_frames_code.proofs.stepping.Stored.{ahead_kept, free_below, free_kept, free_on, store_left}
use Rattle.pass_frames_code.specs.Framings.{IsFraming}
use Rattle.pass_frames_code.specs.Moved.{AreMoved, MovesRest}
use Rattle.pass_frames_code.specs.Related.{AreBuiltOf, Building, instance_in, is_coroutine, returned_from}
use Rattle.pass_frames_code.specs.Stepping.{AreFieldsSpared}
use Rattle.pass_frames_code.specs.run_framed.Framed.{frame_rights}
use Rattle.pass_frames_code.specs.run_laws.access.Changed.{KeepsFree}
use Rattle.pass_frames_code.specs.run_laws.embedded.Refilled.{AreRefilled}
use Rattle.pass_frames_code.specs.run_laws.transfer.Muted.{muted}
use Rattle.pass_frames_code.specs.run_laws.transfer.Transfer.{AreOver}
use Rattle.pass_frames_code.specs.run_memory.Memory.{owner_rights}
use Rattle.pass_frames_code.specs.run_source.declared.state.Activation.{Activation}
use Rattle.pass_frames_code.specs.run_source.declared.state.State.{State}
use Rattle.pass_frames_code.specs.run_step.declared.world.World.{World}

module _ (b : Building) (s t : State) (r : AreBuiltOf b s t) (w u : World)
    (framings : (func : ℕ) → is_coroutine b func ≡ true → IsFraming (b.framing func))
    (refilled : AreRefilled s.world.memory w.memory)
    (keeps : KeepsFree owner_rights r.homes (muted r.hides s.world.memory) t.world.memory u.memory)
    (spared : AreFieldsSpared b s t r)
    (inside : is_coroutine b s.top.func ≡ true → returned_from (b.framing s.top.func) s.top s.top.mode ≡ None)
    (over : AreOver owner_rights (frame_rights b.given t.instances) r.homes r.hides (λ k. k) w u) where
  left : LeavesRest b s t r w u
  left = store_left b s t r w u framings refilled keeps spared

  rest_refilled : MovesRest b s t r (s.top ∷ s.below) (t.top ∷ t.below) r.homes r.hides t.instances w u
  rest_refilled = record {
    framings = framings;
    seen = record { each = λ n e. refl };
    slots = λ a l slot e. (refl, refl);
    owners = λ c l is. same_place (instance_in t.instances c.instance);
    cells = λ c l is slot e name o most bytes.
        free_kept b s t r w u framings refilled keeps spared slot.block
        (free_below b r.homes r.hides s.world.memory (t.top ∷ t.below) r.cells c l is slot e name) o most bytes;
    returned = λ a c y z j l is own now from h.
        let no : None ≡ Some j = sym (not_behind a l is) ∙ from in absurd (cc);
    free = λ c l is slot e name. free_on r.homes r.hides s.world.memory w.memory refilled slot.block;
    ahead = λ x c name align ty l. ahead_kept b s t r w u framings refilled keeps spared x c name align ty;
  }
    where
      not_behind : (a : Activation) → IsListed a (s.top ∷ s.below) → is_coroutine b a.func ≡ true
          → returned_from (b.framing a.func) a a.mode ≡ None
      not_behind a (inl e) is =
          subst (λ (z : Activation). is_coroutine b z.func ≡ true → returned_from (b.framing z.func) z z.mode ≡ None)
          (sym e) inside is
      not_behind a (inr l) is = spared.below a l is

  all_refilled : AreMoved b t r.homes r.hides s.instances t.instances w u t.top
  all_refilled = record {
    world = over;
    known = r.known ∙ sym left.known;
    globals = r.globals;
    mates = left.mates;
    hidden = r.hidden;
    count = r.count;
    instances = λ i x y e d.
        instance_on b s t r (s.top ∷ s.below) (t.top ∷ t.below) r.homes r.hides s.instances t.instances w u
        rest_refilled t.top x y
        (λ p env is live j number f. left.fields i x y e (r.instances i x y e d) p env is j number live f)
        (r.instances i x y e d);
  }

  pub refilled_related : AreBuiltOf b (record s { world = w }) (record t { world = u })
  refilled_related = related_on b s t r r.homes r.hides s.instances t.instances w u rest_refilled all_refilled

  pub refilled_homes : refilled_related.homes ≡ r.homes
  unfolding refilled_related
  refilled_homes = on_homes b s t r r.homes r.hides s.instances t.instances w u rest_refilled all_refilled
