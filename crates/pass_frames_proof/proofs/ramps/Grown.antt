-- The framed run's memory has grown, and its new blocks have other bytes: what is shown, and where the source stands.
use Rattle.std.proofs.Common.{◌≡◌, ◌<◌, ◌≤◌, ◌++◌, ◌∙◌, ◌∷◌, [], List, None, Option, Some, ap, arith, length, refl, subst, suc, sym, true, ℕ}
use Rattle.std.specs.Prelude.{slice_get}
use Rattle.pass_frames_steps.specs.ir_base.declared.outcome.Outcome.{Outcome}
use Rattle.pass_frames_proof.proofs.calling.Push.{grown_left}
use Rattle.pass_frames_steps.proofs.followed.Assembly.{events_same, other_instance}
use Rattle.pass_frames_steps.proofs.moved.Rest.{same_place}
use Rattle.pass_frames_steps.proofs.stepping.Rest.{instance_kept}
use Rattle.pass_frames_proof.proofs.waking.Grown.{free_new, over_grown}
use Rattle.pass_frames_steps.specs.Followed.{IsOn}
use Rattle.pass_frames_steps.specs.Framings.{IsFraming}
use Rattle.pass_frames_steps.specs.Moved.{IsSamePlace}
use Rattle.pass_frames_steps.specs.Related.{AreBuiltOf, Building, IsFreeOf, all_slots, instance_in, is_coroutine}
use Rattle.pass_frames_steps.specs.Returning.{IsAmong}
use Rattle.pass_frames_steps.specs.run_framed.Framed.{frame_rights}
use Rattle.pass_frames_steps.specs.run_laws.transfer.Transfer.{AreOver}
use Rattle.pass_frames_steps.specs.run_memory.Memory.{owner_rights}
use Rattle.pass_frames_steps.specs.run_memory.declared.block.MemoryBlock.{MemoryBlock}
use Rattle.pass_frames_steps.specs.run_source.declared.state.Activation.{Activation}
use Rattle.pass_frames_steps.specs.run_source.declared.state.State.{State}
use Rattle.pass_frames_steps.specs.run_step.declared.world.World.{World}

-- a memory that keeps the blocks of another is that one with blocks behind it
pub split_grown : (m k : List MemoryBlock) → ((e : ℕ) → e < length m → slice_get k e ≡ slice_get m e)
    → (news : List MemoryBlock) × (k ≡ m ++ news)
split_grown [] k same = (k, refl)
split_grown (x ∷ m) [] same =
    let e : slice_get [] 0 ≡ slice_get (x ∷ m) 0 = same 0 (omega arith) in absurd (none e)
  where
    none : ◌≡◌ {A = Option MemoryBlock} None (Some x) → ⊥
    none e = absurd (cc)
split_grown (x ∷ m) (y ∷ k) same =
    let more = split_grown m k (λ e lt. same (suc e) (omega (arith, lt))) in
    let first : y ≡ x = one (same 0 (omega arith)) in
    (more.0, λ i. first i ∷ more.1 i)
  where
    one : ◌≡◌ {A = Option MemoryBlock} (Some y) (Some x) → y ≡ x
    one e = cc

module _ (b : Building) (s t : State) (r : AreBuiltOf b s t)
    (framings : (func : ℕ) → is_coroutine b func ≡ true → IsFraming (b.framing func))
    (slots_there : (n : ℕ) → IsAmong n (all_slots t) → n < length t.world.memory) (u : World)
    (same : (e : ℕ) → e < length t.world.memory → slice_get u.memory e ≡ slice_get t.world.memory e) where
  -- with other activations on both sides
  pub grown_shown : t.outcome ≡ Outcome.Running → u.events ≡ t.world.events → (a c : Activation)
      (more others : List Activation)
      → IsOn b (record s { top = a; below = more }) (record t { world = u; top = c; below = others })
  grown_shown runs events a c more others = record {
    running = runs;
    shown = record {
      homes = r.homes;
      events = events ∙ events_same b s t r;
      outcome = r.outcome;
      instances = λ j p there suspended.
          let y = other_instance b s t r j p there in (
            y.0,
            y.1,
            instance_kept b s t r s.world u (grown_left b s t r framings slots_there u same) c others j p y.0 there
                y.2,
          );
    };
  }

  places : (o : Option ℕ) → IsSamePlace (instance_in t.instances o) (instance_in t.instances o)
  places o = same_place (instance_in t.instances o)

  part : (news : List MemoryBlock) × (u.memory ≡ t.world.memory ++ news)
  part = split_grown t.world.memory u.memory same

  pub grown_over : u ≡ record t.world { memory = u.memory }
      → AreOver owner_rights (frame_rights b.given t.instances) r.homes r.hides (λ d. d) s.world u
  grown_over is =
      subst (AreOver owner_rights (frame_rights b.given t.instances) r.homes r.hides (λ d. d) s.world)
      (sym (is ∙ ap (λ (k : List MemoryBlock). record t.world { memory = k }) part.1))
      (over_grown b s t r framings t.instances refl places part.0)

  -- in a new block nothing of the source stands
  pub new_free : (e : ℕ) → length t.world.memory ≤ e → IsFreeOf r.homes r.hides s.world.memory e
  new_free = free_new b s t r framings t.instances refl places part.0
