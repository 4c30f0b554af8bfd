-- An ordinary step that is done in a framed run is done in a part.
use Rattle.std.proofs.Common.{◌≡◌, ℕ, ◌≤◌, false, List, [], ◌∷◌, length, refl, sym, subst}
use Rattle.std.specs.Prelude.{ℤ}
use Rattle.pass_proofs.specs.ir_model.declared.module.Function.{Function}
use Rattle.pass_proofs.specs.ir_model.declared.module.Module.{Module}
use Rattle.pass_split_proof.proofs.states.Refilled.{written_twins}
use Rattle.pass_split_proof.proofs.states.Twins.{IsTwinOf, beside_of, full_twin, over_of, source_at, twin_at, twin_full}
use Rattle.pass_split_proof.specs.states.Memories.{AreTwins, AreWorldsBeside, homes_of}
use Rattle.pass_split_proof.specs.steps.Done.{IsDoneToo, ours, part_maps, theirs}
use Rattle.pass_proofs.specs.run_framed.Framed.{FramedGiven, frame_rights}
use Rattle.pass_proofs.proofs.run_laws.access.Bytes.{bytes_left}
use Rattle.pass_proofs.proofs.run_laws.access.Reading.{as_many}
use Rattle.pass_proofs.proofs.run_laws.access.Touched.{free_untouched}
use Rattle.pass_proofs.proofs.run_laws.memory.Itself.{owner_rights_fit}
use Rattle.pass_proofs.proofs.run_laws.transfer.Over.{step_over}
use Rattle.pass_proofs.specs.run_laws.access.Accessed.{Span, writes}
use Rattle.pass_proofs.specs.run_laws.access.Changed.{IsDefined, IsFull, KeepsFree, LeavesBytes, LeavesFree, WritesOnly}
use Rattle.pass_proofs.specs.run_laws.access.Touched.{AreTouches, touch_of}
use Rattle.pass_proofs.specs.run_laws.changed.Changed.{Each}
use Rattle.pass_proofs.specs.run_laws.embedded.Related.{HasNoSlot}
use Rattle.pass_proofs.specs.run_laws.memory.Pointers.{Home, IsValue}
use Rattle.pass_proofs.specs.run_laws.memory.Standing.{own_homes}
use Rattle.pass_proofs.specs.run_laws.transfer.Transfer.{AreJoined, AreOver, GoesOver, IsTransferred, Maps, args_at, given_at}
use Rattle.run_access_worked.proofs.run_laws_worked.Frames.{frame_rights_fit}
use Rattle.pass_proofs.specs.run_memory.declared.block.MemoryBlock.{MemoryBlock}
use Rattle.pass_proofs.specs.run_source.declared.state.Instance.{Instance}
use Rattle.pass_proofs.specs.run_step.Step.{Action, Context, Done, Fetched, Work, action_of}

pub each_of : {A : Type 0} (P : A → Type 0) → ((x : A) → P x) → (xs : List A) → Each P xs
each_of P f [] = tt
each_of P f (x ∷ xs) = (f x, each_of P f xs)

-- ---- blocks have all their bytes

module _ (m n : List MemoryBlock) (t : AreTwins m n) where
  source_full : (b : ℕ) → IsFull m b
  source_full b x e live = let y = twin_at m n t b x e in twin_full x y.twin y.is live

  target_full : (b : ℕ) → IsFull n b
  target_full b y e live = let x : IsTwinOf m b y = source_at m n t b y e in full_twin x.source y x.is live

-- ---- the step

module _ (g : FramedGiven) (instances : List Instance) (m n : Module) (answers : List ℤ) (f q : Function)
    (functions labels : ℕ → ℕ)
    (w x : Work) (beside : AreWorldsBeside g instances w.world x.world) (room : length w.values ≤ length x.values) where
  abbrev c : Context
  c = ours g instances m answers f

  abbrev d : Context
  d = theirs n answers q

  abbrev homes : List Home
  homes = homes_of w.world.memory

  abbrev maps : Maps
  maps = part_maps functions labels

  pub joined : AreJoined homes (λ b. false) maps c d w x
  joined = record {
    over = over_of g instances w.world x.world beside;
    hidden = λ b e. absurd (cc);
    answers = refl;
    room = room;
  }

  module _ (here there : Fetched) (k : IsTransferred (IsValue homes) maps c d w.values x.values here there)
      (touch : AreTouches homes (touch_of c w here) (touch_of d x there)) (no_slot : HasNoSlot there) where
    goes : GoesOver c.rights d.rights homes (λ b. false) maps (given_at here) (args_at here) (args_at there) w x
        (action_of c w here) (action_of d x there)
    goes = step_over homes (λ b. false) maps c d w x here there (frame_rights_fit g instances) owner_rights_fit joined k

    module _ (v : Work) (is : action_of c w here ≡ Done v) where
      done : GoesOver c.rights d.rights homes (λ b. false) maps (given_at here) (args_at here) (args_at there) w x
          (Done v) (action_of d x there)
      done = subst (λ (a : Action). GoesOver c.rights d.rights homes (λ b. false) maps (given_at here) (args_at here)
          (args_at there) w x a (action_of d x there)) is goes

      source_writes : WritesOnly (writes c w here) w.world.memory v.world.memory
      source_writes = subst (λ (a : Action). LeavesBytes (writes c w here) w.world.memory a) is
          (bytes_left c w here k.no_slot
          (each_of _ (λ (s : Span). source_full w.world.memory x.world.memory beside.memory.twins s.block)
          (writes c w here)))

      module _ (y : Work) (does : action_of d x there ≡ Done y) where
        target_writes : WritesOnly (writes d x there) x.world.memory y.world.memory
        target_writes = subst (λ (a : Action). LeavesBytes (writes d x there) x.world.memory a) does
            (bytes_left d x there no_slot
            (each_of _ (λ (s : Span). target_full w.world.memory x.world.memory beside.memory.twins s.block)
            (writes d x there)))

        leaves : KeepsFree (frame_rights g instances) homes w.world.memory x.world.memory y.world.memory
        leaves = subst (λ (a : Action). LeavesFree (frame_rights g instances) homes w.world.memory x.world.memory a)
            does
            (free_untouched homes c d w x here there (frame_rights_fit g instances) beside.memory.stands k.no_slot
            no_slot touch (subst IsDefined (sym is) tt))

        stays : AreOver c.rights d.rights homes (λ b. false) (λ k. k) v.world y.world
            → AreWorldsBeside g instances v.world y.world
        stays over = beside_of g instances v.world y.world
            (written_twins w.world.memory x.world.memory v.world.memory y.world.memory (writes c w here)
            (writes d x there) beside.memory.twins source_writes target_writes)
            (subst (λ (l : ℕ). AreOver c.rights d.rights (own_homes 0 l) (λ b. false) (λ k. k) v.world y.world)
            (sym (as_many w.world.memory v.world.memory source_writes.refilled)) over)

      pub done_too : IsDoneToo g instances d w x here there v
      done_too = record {
        work = done.0;
        does = done.1;
        world = stays done.0 done.1 done.2;
        set = done.3;
        refilled = source_writes.refilled;
        free = leaves done.0 done.1;
      }
