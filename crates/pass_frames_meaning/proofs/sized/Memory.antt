-- Blocks keep their sizes and alignments.
use Rattle.std.proofs.Common.{◌≡◌, ℕ, zero, suc, ◌+◌, ◌<◌, Bool, true, false, List, [], ◌∷◌, ◌++◌, length, map}
use Rattle.std.proofs.Common.{Option, Some, None}
use Rattle.std.proofs.Common.{Result, Ok, Err, refl, sym, ap, ◌∙◌, subst, not, ◌&&◌, ◌==◌, replicate}
use Rattle.std.proofs.lemmas.Option.{slice_get-map}
use Rattle.std.specs.Prelude.{if◌then◌else◌, is_none, option_map, slice_get, unwrap_or}
use Rattle.pass_frames_proof.specs.ir_base.declared.cause.Cause.{Cause}
use Rattle.pass_frames_proof.specs.ir_base.declared.outcome.Outcome.{Outcome}
use Rattle.pass_frames_proof.specs.ir_model.Layout.{size_of}
use Rattle.pass_frames_proof.specs.ir_model.Ty.{Ty}
use Rattle.pass_frames_proof.specs.ir_model.declared.instr.Instr.{Instr}
use Rattle.pass_frames_proof.specs.ir_model.declared.module.Function.{Function}
use Rattle.pass_frames_proof.specs.ir_model.declared.module.Module.{Module}
use Rattle.pass_frames_proof.specs.ir_model.declared.operand.Allocator.{Allocator}
use Rattle.pass_frames_proof.specs.ir_model.declared.operand.Arg.{Arg}
use Rattle.pass_frames_proof.specs.ir_model.declared.operand.Callee.{Callee}
use Rattle.pass_frames_proof.specs.ir_model.declared.operand.Intrinsic.{Intrinsic}
use Rattle.pass_frames_meaning.specs.Sized.{IsLonger, sizes_of}
use Rattle.pass_frames_proof.proofs.run_laws.embedded.Refills.{step_only}
use Rattle.pass_frames_proof.specs.run_laws.embedded.Refilled.{AreRefilled, IsRefilled, OnlyRefills}
use Rattle.pass_frames_proof.specs.run_memory.Memory.{check, disown, disowned, end, ended, is_killed, is_owned, is_unkilled, killed}
use Rattle.pass_frames_proof.specs.run_memory.Memory.{killed_block}
use Rattle.pass_frames_proof.specs.run_memory.Memory.{may_be_owned, own, owned_to, start, started, with_block}
use Rattle.pass_frames_proof.specs.run_memory.declared.block.Byte.{Byte}
use Rattle.pass_frames_proof.specs.run_memory.declared.block.Kind.{Kind}
use Rattle.pass_frames_proof.specs.run_memory.declared.block.Life.{Life}
use Rattle.pass_frames_proof.specs.run_memory.declared.block.MemoryBlock.{MemoryBlock}
use Rattle.pass_frames_proof.specs.run_memory.declared.pointer.Pointer.{Pointer}
use Rattle.pass_frames_proof.specs.run_memory.declared.pointer.Value.{Value}
use Rattle.pass_frames_proof.specs.run_step.Step.{Action, AtInstr, AtTerm, Context, Done, Fetched, NewSlot, Nowhere, Stuck, Work}
use Rattle.pass_frames_proof.specs.run_step.Step.{action_of, alloca, alloca_kind, block_of, deallocated, has_markers, instr_action}
use Rattle.pass_frames_proof.specs.run_step.Step.{is_alignment}
use Rattle.pass_frames_proof.specs.run_step.Step.{on_block, set_memory, set_value, with_length, without_slots}
use Rattle.pass_frames_proof.specs.run_step.Values.{arg_values, nth, pointer_to}
use Rattle.pass_frames_proof.specs.run_step.declared.world.Slot.{Slot}

-- ---- rows of sizes

pub same_sizes : (t : List (ℕ × ℕ)) → IsLonger t t
same_sizes t = record { each = λ n x e. e }

pub more_sizes : (t u v : List (ℕ × ℕ)) → IsLonger t u → IsLonger u v → IsLonger t v
more_sizes t u v h k = record { each = λ n x e. k.each n x (h.each n x e) }

-- of memories
abbrev pub KeepSizes : List MemoryBlock → List MemoryBlock → Type 0
KeepSizes m k = IsLonger (sizes_of m) (sizes_of k)

pub keeps_same : (m k : List MemoryBlock) → sizes_of k ≡ sizes_of m → KeepSizes m k
keeps_same m k e = subst (IsLonger (sizes_of m)) (sym e) (same_sizes (sizes_of m))

pub keeps_appended : (m k : List MemoryBlock) → KeepSizes m (m ++ k)
keeps_appended m k = record { each = λ n x e. on m n x e }
  where
    on : (m : List MemoryBlock) (n : ℕ) (x : ℕ × ℕ) → slice_get (sizes_of m) n ≡ Some x
        → slice_get (sizes_of (m ++ k)) n ≡ Some x
    on [] n x e = absurd (cc)
    on (y ∷ m) zero x e = e
    on (y ∷ m) (suc n) x e = on m n x e

-- ---- one block

abbrev IsSameSize : (MemoryBlock → MemoryBlock) → Type 0
IsSameSize f = (x : MemoryBlock) → ((f x).size ≡ x.size) × ((f x).align ≡ x.align)

block_sizes : (f : MemoryBlock → MemoryBlock) → IsSameSize f → (m : List MemoryBlock) (b : ℕ)
    → sizes_of (with_block m b f) ≡ sizes_of m
block_sizes f h [] b = refl
block_sizes f h (x ∷ m) zero = λ i. ((h x).0 i, (h x).1 i) ∷ sizes_of m
block_sizes f h (x ∷ m) (suc b) = ap (λ (t : List (ℕ × ℕ)). (x.size, x.align) ∷ t) (block_sizes f h m b)

ended_same : IsSameSize ended
ended_same x = on (is_killed x.life)
  where
    on : (t : Bool) → ((if t then x else record x { life = Life.Ended }).size ≡ x.size)
        × ((if t then x else record x { life = Life.Ended }).align ≡ x.align)
    on true = (refl, refl)
    on false = (refl, refl)

started_same : IsSameSize started
started_same x = on (is_killed x.life)
  where
    on : (t : Bool)
        → ((if t then x else record x { life = Life.Live; bytes = replicate x.size Byte.Undefined }).size ≡ x.size)
        × ((if t then x else record x { life = Life.Live; bytes = replicate x.size Byte.Undefined }).align ≡ x.align)
    on true = (refl, refl)
    on false = (refl, refl)

pub start_keeps : (m : List MemoryBlock) (b : ℕ) → KeepSizes m (start m b)
start_keeps m b = keeps_same m (start m b) (block_sizes started started_same m b)

pub end_keeps : (m : List MemoryBlock) (b : ℕ) → KeepSizes m (end m b)
end_keeps m b = keeps_same m (end m b) (block_sizes ended ended_same m b)

pub killed_keeps : (m : List MemoryBlock) (b : ℕ) → KeepSizes m (killed m b)
killed_keeps m b = keeps_same m (killed m b) (block_sizes killed_block (λ x. (refl, refl)) m b)

pub disown_keeps : (m : List MemoryBlock) (b : ℕ) → KeepSizes m (disown m b)
disown_keeps m b = keeps_same m (disown m b) (block_sizes disowned (λ x. (refl, refl)) m b)

pub without_keeps : (m : List MemoryBlock) (slots : List Slot) → KeepSizes m (without_slots m slots)
without_keeps m [] = same_sizes (sizes_of m)
without_keeps m (s ∷ slots) = more_sizes (sizes_of m) (sizes_of (killed m s.block))
    (sizes_of (without_slots (killed m s.block) slots)) (killed_keeps m s.block)
    (without_keeps (killed m s.block) slots)

-- what may fail
abbrev pub GivesSizes : List MemoryBlock → Result (List MemoryBlock) Cause → Type 0
GivesSizes m (Err cause) = Unit {0}
GivesSizes m (Ok k) = KeepSizes m k

pub own_keeps : (m : List MemoryBlock) (v : Value) (n : ℕ) (kind : Kind) → GivesSizes m (own m v n kind)
own_keeps m (Value.Ptr (Pointer.At b o)) n kind = on ((o.bits == 0) && may_be_owned kind n (slice_get m b))
  where
    on : (t : Bool) → GivesSizes m (check t Cause.Begin (Ok (with_block m b (owned_to n))))
    on true = keeps_same m (with_block m b (owned_to n)) (block_sizes (owned_to n) (λ x. (refl, refl)) m b)
    on false = tt
own_keeps m (Value.Ptr Pointer.Null) n kind = tt
own_keeps m (Value.Ptr (Pointer.Func f)) n kind = tt
own_keeps m Value.Poison n kind = tt
own_keeps m (Value.Int x) n kind = tt

kill_keeps : (m : List MemoryBlock) (b : ℕ) (t u : Bool)
    → GivesSizes m (if t then Err Cause.Free else if u then Err Cause.Owned else Ok (killed m b))
kill_keeps m b true u = tt
kill_keeps m b false true = tt
kill_keeps m b false false = killed_keeps m b

pub deallocated_keeps : (m : List MemoryBlock) (v : Value) → GivesSizes m (deallocated m v)
deallocated_keeps m (Value.Ptr Pointer.Null) = same_sizes (sizes_of m)
deallocated_keeps m (Value.Ptr (Pointer.At b o)) =
    kill_keeps m b (not ((o.bits == 0) && is_unkilled Kind.Allocator (slice_get m b))) (is_owned (slice_get m b))
deallocated_keeps m (Value.Ptr (Pointer.Func f)) = tt
deallocated_keeps m Value.Poison = tt
deallocated_keeps m (Value.Int x) = tt

refilled_keeps : (m k : List MemoryBlock) → AreRefilled m k → KeepSizes m k
refilled_keeps m k h = record {
  each = λ n x e. on n x (slice_get m n) (slice_get k n) (h.each n)
      (sym (slice_get-map (λ (z : MemoryBlock). (z.size, z.align)) m n) ∙ e)
      (slice_get-map (λ (z : MemoryBlock). (z.size, z.align)) k n);
}
  where
    on : (n : ℕ) (x : ℕ × ℕ) (o p : Option MemoryBlock) → IsRefilled o p
        → option_map (λ (z : MemoryBlock). (z.size, z.align)) o ≡ Some x
        → slice_get (sizes_of k) n ≡ option_map (λ (z : MemoryBlock). (z.size, z.align)) p
        → slice_get (sizes_of k) n ≡ Some x
    on n x None p r e d = absurd (cc)
    on n x (Some y) None r e d = absurd r
    on n x (Some y) (Some z) r e d =
        d ∙ ap (λ (w : MemoryBlock). Some (w.size, w.align)) r ∙ e

-- ---- instructions

-- an alloca makes a block of its size and alignment
abbrev pub GivesSized : Module → List MemoryBlock → Fetched → Action → Type 0
GivesSized m memory x (Done w) = KeepSizes memory w.world.memory
GivesSized m memory x (NewSlot w slot) =
    KeepSizes memory w.world.memory × (ty : Ty) × (align : ℕ) × (x ≡ AtInstr (Instr.Alloca slot.alloca ty align))
    × (slice_get (sizes_of w.world.memory) slot.block ≡ Some (size_of m ty, align))
GivesSized m memory x _ = Unit {0}

only_sized : (m : Module) (memory : List MemoryBlock) (x : Fetched) (a : Action) → OnlyRefills memory a
    → GivesSized m memory x a
only_sized m memory x (Done w) h = refilled_keeps memory w.world.memory h
only_sized m memory x (NewSlot w slot) h = absurd h
only_sized m memory x _ h = tt

-- the block behind all others
last_there : (m : List MemoryBlock) (z : MemoryBlock)
    → slice_get (sizes_of (m ++ z ∷ [])) (length m) ≡ Some (z.size, z.align)
last_there [] z = refl
last_there (x ∷ m) z = last_there m z

module _ (c : Context) (w : Work) where
  on_sized : (f : MemoryBlock → MemoryBlock) → IsSameSize f → (o : Option ℕ)
      → KeepSizes w.world.memory (on_block (λ m b. with_block m b f) w.world.memory o)
  on_sized f h None = same_sizes (sizes_of w.world.memory)
  on_sized f h (Some b) = keeps_same w.world.memory (with_block w.world.memory b f) (block_sizes f h w.world.memory b)

  length_sized : (x : Fetched) (v : Value) (f : ℕ → Action) → ((n : ℕ) → GivesSized c.code w.world.memory x (f n))
      → GivesSized c.code w.world.memory x (with_length v f)
  length_sized x (Value.Int y) f h = h y.bits
  length_sized x Value.Poison f h = tt
  length_sized x (Value.Ptr p) f h = tt

  instr_sized : (i : Instr) → GivesSized c.code w.world.memory (AtInstr i) (action_of c w (AtInstr i))
  instr_sized (Instr.Call result must_tail ty (Callee.Allocator Allocator.Malloc) args) =
      length_sized _ (nth (arg_values c.code w.values args) 0) _ (λ n. keeps_appended w.world.memory _)
  instr_sized (Instr.Call result must_tail ty (Callee.Allocator Allocator.Znwm) args) =
      length_sized _ (nth (arg_values c.code w.values args) 0) _ (λ n. keeps_appended w.world.memory _)
  instr_sized (Instr.Call result must_tail ty (Callee.Intrinsic Intrinsic.LifetimeStart) args) =
      on_sized started started_same (block_of (nth (arg_values c.code w.values args) 1))
  instr_sized (Instr.Call result must_tail ty (Callee.Intrinsic Intrinsic.LifetimeEnd) args) =
      on_sized ended ended_same (block_of (nth (arg_values c.code w.values args) 1))
  instr_sized (Instr.Alloca name ty align) = on (is_alignment align) (has_markers c.function name)
    where
      block : MemoryBlock
      block = record {
        size = size_of c.code ty;
        align = align;
        kind = alloca_kind c.function;
        life = Life.Live;
        owned = None;
        bytes = replicate (size_of c.code ty) Byte.Undefined;
      }

      on : (t u : Bool) → GivesSized c.code w.world.memory (AtInstr (Instr.Alloca name ty align)) (if t then NewSlot
          (set_memory (set_value w name (pointer_to (length w.world.memory)))
          (if u then end (w.world.memory ++ block ∷ []) (length w.world.memory) else w.world.memory ++ block ∷ []))
          (record { alloca = name; block = length w.world.memory }) else Stuck Cause.Align)
      on false u = tt
      on true true = (
        more_sizes (sizes_of w.world.memory) (sizes_of (w.world.memory ++ block ∷ []))
            (sizes_of (end (w.world.memory ++ block ∷ []) (length w.world.memory)))
            (keeps_appended w.world.memory (block ∷ []))
            (end_keeps (w.world.memory ++ block ∷ []) (length w.world.memory)),
        ty,
        align,
        refl,
        ap (λ (t : List (ℕ × ℕ)). slice_get t (length w.world.memory))
            (block_sizes ended ended_same (w.world.memory ++ block ∷ []) (length w.world.memory))
            ∙ last_there w.world.memory block,
      )
      on true false = (keeps_appended w.world.memory (block ∷ []), ty, align, refl, last_there w.world.memory block)
  instr_sized i = only_sized c.code w.world.memory (AtInstr i) (action_of c w (AtInstr i))
      (step_only c w (AtInstr i) tt)

  pub step_sized : (x : Fetched) → GivesSized c.code w.world.memory x (action_of c w x)
  step_sized (AtInstr i) = instr_sized i
  step_sized (AtTerm t) = only_sized c.code w.world.memory (AtTerm t) (action_of c w (AtTerm t))
      (step_only c w (AtTerm t) tt)
  step_sized Nowhere = tt
