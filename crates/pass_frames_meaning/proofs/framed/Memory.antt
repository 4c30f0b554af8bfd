-- What a memory that changes leaves of the frames of instances that aren't freed.
use Rattle.std.proofs.Common.{◌≡◌, ◌+◌, ◌≤◌, ℕ, Bool, true, false, List, [], ◌∷◌, ◌++◌, length, Option, Some, None}
use Rattle.std.proofs.Common.{Result, Ok, Err, refl, sym, ap, ◌∙◌, subst, not, ◌&&◌, ◌==◌, arith}
use Rattle.std.specs.Prelude.{if◌then◌else◌, is_some, replicate, slice_get, slice_set}
use Rattle.pass_frames_proof.specs.ir_base.declared.cause.Cause.{Cause}
use Rattle.pass_frames_proof.specs.ir_model.Layout.{size_of}
use Rattle.pass_frames_proof.specs.ir_model.Ty.{Ty}
use Rattle.pass_frames_proof.specs.ir_model.declared.instr.Instr.{Instr}
use Rattle.pass_frames_proof.specs.ir_model.declared.module.Frame.{Frame}
use Rattle.pass_frames_proof.specs.ir_model.declared.operand.Allocator.{Allocator}
use Rattle.pass_frames_proof.specs.ir_model.declared.operand.Arg.{Arg}
use Rattle.pass_frames_proof.specs.ir_model.declared.operand.Callee.{Callee}
use Rattle.pass_frames_proof.specs.ir_model.declared.operand.Intrinsic.{Intrinsic}
use Rattle.pass_frames_meaning.specs.Framed.{AreFramesHeld, IsFrameHeld}
use Rattle.pass_frames_proof.specs.Marking.{marker}
use Rattle.pass_renewed_meaning.proofs.run_hooks.alive.Parts.{Here, IsSet, Other, get_set}
use Rattle.pass_frames_proof.proofs.run_laws.embedded.Refills.{step_only}
use Rattle.pass_frames_proof.specs.run_laws.embedded.Refilled.{IsRefilled, OnlyRefills}
use Rattle.pass_frames_proof.specs.run_memory.Memory.{end, ended, is_live, is_owned, is_unkilled, killed, killed_block, started}
use Rattle.pass_frames_proof.specs.run_memory.Memory.{with_block}
use Rattle.pass_frames_proof.specs.run_memory.declared.block.Byte.{Byte}
use Rattle.pass_frames_proof.specs.run_memory.declared.block.Kind.{Kind}
use Rattle.pass_frames_proof.specs.run_memory.declared.block.Life.{Life}
use Rattle.pass_frames_proof.specs.run_memory.declared.block.MemoryBlock.{MemoryBlock}
use Rattle.pass_frames_proof.specs.run_memory.declared.pointer.Pointer.{Pointer}
use Rattle.pass_frames_proof.specs.run_memory.declared.pointer.Value.{Value}
use Rattle.run_slots.proofs.Keeping.{frame_apart}
use Rattle.run_slots.proofs.Times.{Dies, IsLeft, Stays, more_there, there_below, with_other, without_at}
use Rattle.run_slots.specs.Slots.{AreSlotted, times, times_in}
use Rattle.pass_frames_proof.specs.run_source.declared.state.Instance.{Instance}
use Rattle.pass_frames_proof.specs.run_source_tables.Given.{frame_of}
use Rattle.pass_frames_proof.specs.run_step.Step.{Action, AtInstr, AtTerm, Context, Done, Fetched, NewSlot, Nowhere, Stuck, Work}
use Rattle.pass_frames_proof.specs.run_step.Step.{action_of, alloca_kind, block_of, deallocated, has_markers, is_alignment, on_block}
use Rattle.pass_frames_proof.specs.run_step.Step.{set_memory, set_value, with_length, without_slots}
use Rattle.pass_frames_proof.specs.run_step.Values.{arg_values, nth, pointer_to}
use Rattle.pass_frames_proof.specs.run_step.declared.world.Slot.{Slot}

-- ---- one block

-- a block is there as before, but for its bytes, its kind and its alignment
pub record IsStill (k : List MemoryBlock) (n : ℕ) (z : MemoryBlock) : Type 0 where
  pub block : MemoryBlock
  pub there : slice_get k n ≡ Some block
  pub life : is_live block.life ≡ is_live z.life
  pub owned : block.owned ≡ z.owned
  pub size : block.size ≡ z.size

pub same_still : (k : List MemoryBlock) (n : ℕ) (z : MemoryBlock) → slice_get k n ≡ Some z → IsStill k n z
same_still k n z e = record { block = z; there = e; life = refl; owned = refl; size = refl }

-- another one changes
pub other_still : (m : List MemoryBlock) (b : ℕ) (f : MemoryBlock → MemoryBlock) (n : ℕ) (z : MemoryBlock)
    → (n ≡ b → ⊥) → slice_get m n ≡ Some z → IsStill (with_block m b f) n z
other_still m b f n z away e = same_still (with_block m b f) n z (with_other m b f n away ∙ e)

-- ---- frames

pub still_held : (size : ℕ) (m k : List MemoryBlock) (x : Instance) (f : IsFrameHeld m size x)
    → IsStill k x.block f.block → IsFrameHeld k size x
still_held size m k x f h = record {
  block = h.block;
  there = h.there;
  live = h.life ∙ f.live;
  owned = h.owned ∙ f.owned;
  fits = subst (λ (n : ℕ). size ≤ n) (sym h.size) f.fits;
}

pub moved_held : (sizes : List Frame) (m k : List MemoryBlock) (xs : List Instance) → AreFramesHeld sizes m xs
    → ((i : ℕ) (x : Instance) → slice_get xs i ≡ Some x → x.freed ≡ false
    → (f : IsFrameHeld m (frame_of sizes x.coroutine).size x) → IsStill k x.block f.block) → AreFramesHeld sizes k xs
moved_held sizes m k xs h still i x e u =
    still_held (frame_of sizes x.coroutine).size m k x (h i x e u) (still i x e u (h i x e u))

-- an instance changes in its status, marks and slots
pub changed_held : (sizes : List Frame) (m : List MemoryBlock) (xs : List Instance) → AreFramesHeld sizes m xs
    → (i : ℕ) (x y : Instance) → slice_get xs i ≡ Some x → y.coroutine ≡ x.coroutine → y.block ≡ x.block
    → y.freed ≡ x.freed → AreFramesHeld sizes m (slice_set xs i y)
changed_held sizes m xs h i x y e coroutine block freed j z d u = on (get_set xs i y j z d)
  where
    here : IsFrameHeld m (frame_of sizes x.coroutine).size x → IsFrameHeld m (frame_of sizes y.coroutine).size y
    here f = record {
      block = f.block;
      there = ap (slice_get m) block ∙ f.there;
      live = f.live;
      owned = f.owned ∙ ap (λ (func : ℕ). Some (frame_of sizes func).size) (sym coroutine);
      fits = subst (λ (func : ℕ). (frame_of sizes func).size ≤ f.block.size) (sym coroutine) f.fits;
    }

    on : IsSet xs i y j z → IsFrameHeld m (frame_of sizes z.coroutine).size z
    on (Here a b) = subst (λ (w : Instance). IsFrameHeld m (frame_of sizes w.coroutine).size w) (sym b)
        (here (h i x e (sym freed ∙ sym (ap (λ (w : Instance). w.freed) b) ∙ u)))
    on (Other a b) = h j z b u

-- slots die that are those of activations and instances
pub without_still : (m : List MemoryBlock) (own : ℕ → ℕ) (xs : List Instance) → AreSlotted m own xs
    → (ss : List Slot) → ((n : ℕ) → 1 ≤ times n ss → 1 ≤ own n + times_in n xs) → (i : ℕ) (x : Instance)
    → slice_get xs i ≡ Some x → (z : MemoryBlock) → slice_get m x.block ≡ Some z
    → IsStill (without_slots m ss) x.block z
without_still m own xs h ss among i x e z there = on (without_at m ss x.block z there)
  where
    on : IsLeft ss x.block z (slice_get (without_slots m ss) x.block) → IsStill (without_slots m ss) x.block z
    on (Stays a b) = same_still (without_slots m ss) x.block z b
    on (Dies a b) = absurd (frame_apart m own xs h i x e x.block (among x.block a) refl)

-- ---- deallocations

abbrev pub GivesHeld : List Frame → List Instance → Result (List MemoryBlock) Cause → Type 0
GivesHeld sizes xs (Err cause) = Unit {0}
GivesHeld sizes xs (Ok k) = AreFramesHeld sizes k xs

-- a deallocator kills what nobody owns
module _ (sizes : List Frame) (m : List MemoryBlock) (xs : List Instance) (h : AreFramesHeld sizes m xs) where
  owned_apart : (b : ℕ) → is_owned (slice_get m b) ≡ false → (i : ℕ) (x : Instance) → slice_get xs i ≡ Some x
      → x.freed ≡ false → x.block ≡ b → ⊥
  owned_apart b free i x e u same =
      let f = h i x e u in
      let k : is_owned (slice_get m x.block) ≡ true = ap is_owned f.there ∙ ap is_some f.owned in
      let l : is_owned (slice_get m x.block) ≡ false = ap (λ (n : ℕ). is_owned (slice_get m n)) same ∙ free in
      cc

  kill_held : (b : ℕ) (t u : Bool) → is_owned (slice_get m b) ≡ u
      → GivesHeld sizes xs (if t then Err Cause.Free else if u then Err Cause.Owned else Ok (killed m b))
  kill_held b true u e = tt
  kill_held b false true e = tt
  kill_held b false false e = moved_held sizes m (killed m b) xs h (λ i x d v f.
      other_still m b killed_block x.block f.block (owned_apart b e i x d v) f.there)

  pub freed_held : (p : Value) → GivesHeld sizes xs (deallocated m p)
  freed_held (Value.Ptr Pointer.Null) = h
  freed_held (Value.Ptr (Pointer.At b o)) =
      kill_held b (not ((o.bits == 0) && is_unkilled Kind.Allocator (slice_get m b))) (is_owned (slice_get m b)) refl
  freed_held (Value.Ptr (Pointer.Func f)) = tt
  freed_held Value.Poison = tt
  freed_held (Value.Int x) = tt

-- ---- instructions

-- each block for which it may be is still there
abbrev pub LeavesStill : List MemoryBlock → (ℕ → Type 0) → Action → Type 0
LeavesStill m P (Done w) = (n : ℕ) (z : MemoryBlock) → P n → slice_get m n ≡ Some z → IsStill w.world.memory n z
LeavesStill m P (NewSlot w slot) =
    (n : ℕ) (z : MemoryBlock) → slice_get m n ≡ Some z → IsStill w.world.memory n z
LeavesStill m P _ = Unit {0}

only_still : (m : List MemoryBlock) (P : ℕ → Type 0) (a : Action) → OnlyRefills m a → LeavesStill m P a
only_still m P (Done w) h = λ n z p e.
    on n z (slice_get w.world.memory n) refl
    (subst (λ (o : Option MemoryBlock). IsRefilled o (slice_get w.world.memory n)) e (h.each n))
  where
    on : (n : ℕ) (z : MemoryBlock) (o : Option MemoryBlock) → slice_get w.world.memory n ≡ o → IsRefilled (Some z) o
        → IsStill w.world.memory n z
    on n z None d r = absurd r
    on n z (Some y) d r = record {
      block = y;
      there = d;
      life = ap (λ (v : MemoryBlock). is_live v.life) r;
      owned = ap (λ (v : MemoryBlock). v.owned) r;
      size = ap (λ (v : MemoryBlock). v.size) r;
    }
only_still m P (NewSlot w slot) h = absurd h
only_still m P _ h = tt

-- no marker that stands there is of the block
abbrev pub IsUnmarkedBlock : Context → Work → Fetched → ℕ → Type 0
IsUnmarkedBlock c w x n =
    (starts : Bool) (result : Option ℕ) (must_tail : Bool) (ty : Option Ty) (args : List Arg)
    → x ≡ AtInstr (Instr.Call result must_tail ty (Callee.Intrinsic (marker starts)) args)
    → block_of (nth (arg_values c.code w.values args) 1) ≡ Some n → ⊥

module _ (c : Context) (w : Work) where
  abbrev Leaves : Fetched → Action → Type 0
  Leaves x a = LeavesStill w.world.memory (IsUnmarkedBlock c w x) a

  on_still : (f : MemoryBlock → MemoryBlock) (o : Option ℕ) (n : ℕ) (z : MemoryBlock) → (o ≡ Some n → ⊥)
      → slice_get w.world.memory n ≡ Some z → IsStill (on_block (λ m b. with_block m b f) w.world.memory o) n z
  on_still f None n z away e = same_still w.world.memory n z e
  on_still f (Some b) n z away e =
      other_still w.world.memory b f n z (λ same. away (ap (λ (k : ℕ). Some k) (sym same))) e

  length_still : (x : Fetched) (v : Value) (f : ℕ → Action) → ((n : ℕ) → Leaves x (f n))
      → Leaves x (with_length v f)
  length_still x (Value.Int y) f h = h y.bits
  length_still x Value.Poison f h = tt
  length_still x (Value.Ptr p) f h = tt

  instr_still : (i : Instr) → Leaves (AtInstr i) (action_of c w (AtInstr i))
  instr_still (Instr.Call result must_tail ty (Callee.Allocator Allocator.Malloc) args) =
      length_still _ (nth (arg_values c.code w.values args) 0) _
      (λ k n z p e. same_still _ n z (more_there w.world.memory _ n z e))
  instr_still (Instr.Call result must_tail ty (Callee.Allocator Allocator.Znwm) args) =
      length_still _ (nth (arg_values c.code w.values args) 0) _
      (λ k n z p e. same_still _ n z (more_there w.world.memory _ n z e))
  instr_still (Instr.Call result must_tail ty (Callee.Intrinsic Intrinsic.LifetimeStart) args) =
      λ n z p e. on_still started (block_of (nth (arg_values c.code w.values args) 1)) n z
      (p true result must_tail ty args refl) e
  instr_still (Instr.Call result must_tail ty (Callee.Intrinsic Intrinsic.LifetimeEnd) args) =
      λ n z p e. on_still ended (block_of (nth (arg_values c.code w.values args) 1)) n z
      (p false result must_tail ty args refl) e
  instr_still (Instr.Alloca name ty align) = on (is_alignment align) (has_markers c.function name)
    where
      block : MemoryBlock
      block = record {
        size = size_of c.code ty;
        align = align;
        kind = alloca_kind c.function;
        life = Life.Live;
        owned = None;
        bytes = replicate (size_of c.code ty) Byte.Undefined;
      }

      old : (n : ℕ) (z : MemoryBlock) → slice_get w.world.memory n ≡ Some z → n ≡ length w.world.memory → ⊥
      old n z e same = let k = there_below w.world.memory n z e in omega (arith, k, same)

      on : (t u : Bool) → Leaves (AtInstr (Instr.Alloca name ty align)) (if t then NewSlot
          (set_memory (set_value w name (pointer_to (length w.world.memory)))
          (if u then end (w.world.memory ++ block ∷ []) (length w.world.memory) else w.world.memory ++ block ∷ []))
          (record { alloca = name; block = length w.world.memory }) else Stuck Cause.Align)
      on false u = tt
      on true true = λ n z e. other_still (w.world.memory ++ block ∷ []) (length w.world.memory) ended n z (old n z e)
          (more_there w.world.memory block n z e)
      on true false = λ n z e. same_still (w.world.memory ++ block ∷ []) n z (more_there w.world.memory block n z e)
  instr_still i = only_still w.world.memory (IsUnmarkedBlock c w (AtInstr i)) (action_of c w (AtInstr i))
      (step_only c w (AtInstr i) tt)

  pub step_still : (x : Fetched) → Leaves x (action_of c w x)
  step_still (AtInstr i) = instr_still i
  step_still (AtTerm t) = only_still w.world.memory (IsUnmarkedBlock c w (AtTerm t)) (action_of c w (AtTerm t))
      (step_only c w (AtTerm t) tt)
  step_still Nowhere = tt
