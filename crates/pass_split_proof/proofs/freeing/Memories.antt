-- A block of an allocator dies in both runs, and an instance may be freed with it.
use Rattle.std.proofs.Common.{◌≡◌, ℕ, zero, suc, Bool, true, false, not, List, [], ◌∷◌, Option, Some, None, Ok, Err, refl, sym, ap, ◌∙◌, if◌then◌else◌, ◌==◌}
use Rattle.std.specs.Prelude.{slice_get, slice_set, is_some}
use Rattle.std.proofs.lemmas.Bool.{and_from, false≢true}
use Rattle.pass_proofs.specs.ir_base.declared.cause.Cause.{Cause}
use Rattle.pass_split_proof.proofs.held.LetGo.{IsUnkilled}
use Rattle.pass_split_proof.proofs.states.Advanced.{KeepsFrames}
use Rattle.pass_split_proof.proofs.states.Killed.{dead_beside, dead_frames, kills, left_too}
use Rattle.pass_split_proof.proofs.states.Statuses.{changed_beside, changed_frames}
use Rattle.pass_split_proof.proofs.states.Twins.{HasTwin, twin_at, unowned}
use Rattle.pass_split_proof.proofs.steps.Saves.{set_keeps}
use Rattle.pass_split_proof.specs.states.Instances.{AreFrames, is_held}
use Rattle.pass_split_proof.specs.states.Memories.{AreBeside, plain_kind}
use Rattle.pass_proofs.specs.run_framed.Framed.{FramedGiven}
use Rattle.pass_proofs.proofs.run_laws.memory.Written.{changed_here, same_some}
use Rattle.pass_proofs.specs.run_memory.Memory.{disown, is_killed, is_live, is_owned, is_unkilled, killed, killed_block, same_kind, with_block}
use Rattle.pass_proofs.specs.run_memory.declared.block.Kind.{Kind}
use Rattle.pass_proofs.specs.run_memory.declared.block.MemoryBlock.{MemoryBlock}
use Rattle.pass_proofs.specs.run_memory.declared.pointer.Offset.{Offset}
use Rattle.pass_proofs.specs.run_memory.declared.pointer.Pointer.{Pointer}
use Rattle.pass_proofs.specs.run_memory.declared.pointer.Value.{Value}
use Rattle.pass_proofs.specs.run_source.declared.state.Instance.{Instance}
use Rattle.pass_proofs.specs.run_step.Step.{deallocated}

-- a block that dies needn't lose its owner before
pub killed_alone : (m : List MemoryBlock) (b : ℕ) → killed (disown m b) b ≡ killed m b
killed_alone [] b = refl
killed_alone (u ∷ m) zero = refl
killed_alone (u ∷ m) (suc b) = ap (λ (rest : List MemoryBlock). u ∷ rest) (killed_alone m b)

-- what the framed run kills the part kills too
module _ (m n : List MemoryBlock) (g : FramedGiven) (xs : List Instance) (beside : AreBeside g xs m n) (b : ℕ)
    (o : Offset) where
  plain_heap : (k : Kind) → same_kind k Kind.Allocator ≡ true → same_kind (plain_kind k) Kind.Allocator ≡ true
  plain_heap Kind.Allocator e = refl
  plain_heap _ e = absurd (cc)

  not_dead : (t : Bool) → t ≡ false → not t ≡ true
  not_dead false e = refl
  not_dead true e = absurd (false≢true (sym e))

  module _ (y : IsUnkilled m b) where
    twin : HasTwin n b y.block
    twin = twin_at m n beside.twins b y.block y.there

    unkilled_too : is_unkilled Kind.Allocator (slice_get n b) ≡ true
    unkilled_too = ap (is_unkilled Kind.Allocator) twin.there
        ∙ and_from (same_kind twin.twin.kind Kind.Allocator) (not (is_killed twin.twin.life))
        (ap (λ (z : MemoryBlock). same_kind z.kind Kind.Allocator) twin.is.is ∙ plain_heap y.block.kind y.heap)
        (not_dead (is_killed twin.twin.life) (left_too y.block.life twin.twin.life twin.is.life ∙ y.alive))

    unowned_too : is_owned (slice_get n b) ≡ false
    unowned_too = ap is_owned twin.there
        ∙ ap is_some (unowned m n beside.twins b twin.twin twin.there)

    pub killed_too : (o.bits == 0) ≡ true
        → deallocated n (Value.Ptr (Pointer.At b o)) ≡ Ok (killed n b)
    killed_too start =
        ap (λ (t : Bool). if not t then Err Cause.Free else if is_owned (slice_get n b) then Err Cause.Owned
        else Ok (killed n b)) (and_from (o.bits == 0) (is_unkilled Kind.Allocator (slice_get n b)) start unkilled_too)
        ∙ ap (λ (t : Bool). if t then Err Cause.Owned else Ok (killed n b)) unowned_too

-- the instance of that block is freed
module _ (g : FramedGiven) (xs : List Instance) (m n : List MemoryBlock) (i : ℕ) (x : Instance)
    (there : slice_get xs i ≡ Some x) where
  abbrev pub freed : Instance
  freed = record x { freed = true }

  abbrev k : List MemoryBlock
  k = killed m x.block

  abbrev l : List MemoryBlock
  l = killed n x.block

  unheld : is_held k freed ≡ true → is_held k x ≡ true
  unheld e = absurd (false≢true e)

  no_longer : (y : MemoryBlock) → true ≡ true → slice_get k x.block ≡ Some y → y.kind ≡ Kind.Allocator
      → is_live y.life ≡ false
  no_longer y e at kind = on (slice_get m x.block) refl
    where
      nothing : (m : List MemoryBlock) (b : ℕ) → slice_get m b ≡ None → slice_get (with_block m b killed_block) b ≡ None
      nothing [] b e = refl
      nothing (u ∷ m) zero e = absurd (cc)
      nothing (u ∷ m) (suc b) e = nothing m b e

      on : (o : Option MemoryBlock) → slice_get m x.block ≡ o → is_live y.life ≡ false
      on None f = absurd (none (sym (nothing m x.block f) ∙ at))
        where
          none : None ≡ Some y → ⊥
          none h = cc
      on (Some u) f = ap (λ (z : MemoryBlock). is_live z.life) (same_some y (killed_block u)
          (sym at ∙ changed_here m x.block killed_block u f))

  pub freed_beside : AreFrames g xs m n → AreBeside g xs m n → AreBeside g (slice_set xs i freed) k l
  freed_beside frames beside = changed_beside g xs k l i x there x.status x.last_save x.released true
      (dead_beside killed_block killed_block kills g xs m n x.block frames.laid beside)

  pub freed_frames : AreFrames g xs m n → AreFrames g (slice_set xs i freed) k l
  freed_frames frames = changed_frames g xs k l i x there x.status x.last_save x.released true unheld
      (λ e. absurd (false≢true (sym e))) no_longer
      (dead_frames killed_block killed_block kills g xs m n x.block frames) (λ e. absurd (false≢true e))

  pub freed_keeps : KeepsFrames xs (slice_set xs i freed)
  freed_keeps = set_keeps xs i x freed there refl refl
