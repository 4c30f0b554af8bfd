-- Blocks of allocas that weren't killed stay so where memory changes.
use Rattle.std.proofs.Common.{◌≡◌, ◌∙◌, ◌++◌, ◌∷◌, [], ◌||◌, ap, Bool, Err, false, ⊎_elim, List, not, Ok, Option, refl, Result, subst, sym, true, ℕ, length, if◌then◌else◌}
use Rattle.std.specs.Prelude.{None, Some, replicate, slice_get, ◌&&◌, ◌==◌}
use Rattle.pass_elide_proof.specs.Returning.{IsAllocaBlock, IsAllocaKind}
use Rattle.pass_proofs.proofs.ir_laws.facts.Lists.{get_before, get_last}
use Rattle.pass_proofs.proofs.ir_laws.facts.Truth.{is_number}
use Rattle.pass_proofs.proofs.run_laws.embedded.Refills.{step_only}
use Rattle.pass_proofs.proofs.run_laws.memory.Written.{changed_elsewhere, changed_here}
use Rattle.pass_proofs.specs.ir_base.declared.cause.Cause.{Cause}
use Rattle.pass_proofs.specs.ir_model.Layout.{size_of}
use Rattle.pass_proofs.specs.ir_model.declared.instr.Instr.{Instr}
use Rattle.pass_proofs.specs.ir_model.declared.operand.Allocator.{Allocator}
use Rattle.pass_proofs.specs.ir_model.declared.operand.Callee.{Callee}
use Rattle.pass_proofs.specs.ir_model.declared.operand.Intrinsic.{Intrinsic}
use Rattle.pass_proofs.specs.run_laws.embedded.Refilled.{AreRefilled, IsRefilled, OnlyRefills}
use Rattle.pass_proofs.specs.run_memory.Memory.{check, disown, disowned, end, ended, is_killed, is_owned, is_unkilled, killed, killed_block, may_be_owned, own, owned_to, same_kind, start, started, with_block}
use Rattle.pass_proofs.specs.run_laws.embedded.Related.{HasNoSlot}
use Rattle.pass_proofs.specs.run_laws.memory.Standing.{blank_block}
use Rattle.pass_proofs.specs.run_memory.declared.block.Byte.{Byte}
use Rattle.pass_proofs.specs.run_memory.declared.block.Kind.{Kind}
use Rattle.pass_proofs.specs.run_memory.declared.block.Life.{Life}
use Rattle.pass_proofs.specs.run_memory.declared.block.MemoryBlock.{MemoryBlock}
use Rattle.pass_proofs.specs.run_memory.declared.pointer.Pointer.{Pointer}
use Rattle.pass_proofs.specs.run_memory.declared.pointer.Value.{Value}
use Rattle.pass_proofs.specs.run_step.Step.{Action, AtInstr, AtTerm, Context, Coro, Deallocate, Done, Enter, Fetched, GoTo, NewSlot, Nowhere, Return, Stuck, Work, action_of, alloca, alloca_kind, allocated, block_of, deallocated, has_markers, is_alignment, on_block, with_length}
use Rattle.pass_proofs.specs.run_step.Values.{arg_values, nth}

abbrev pub Carries : List MemoryBlock → List MemoryBlock → Type 0
Carries m k = (n : ℕ) → IsAllocaBlock m n → IsAllocaBlock k n

-- ---- one block changes

pub record KeepsAllocas (f : MemoryBlock → MemoryBlock) : Type 0 where
  pub kind : (x : MemoryBlock) → (f x).kind ≡ x.kind
  pub unkilled : (x : MemoryBlock) → is_killed x.life ≡ false → is_killed (f x).life ≡ false

pub changed_carries : (m : List MemoryBlock) (b : ℕ) (f : MemoryBlock → MemoryBlock) → KeepsAllocas f
    → Carries m (with_block m b f)
changed_carries m b f keeps n h =
    ⊎_elim
    (λ same. subst (λ (c : ℕ). IsAllocaBlock (with_block m c f) n) (sym same) (record {
      block = f h.block;
      there = changed_here m n f h.block h.there;
      made = ap (λ (k : Kind). same_kind k Kind.Slot || same_kind k Kind.Stack) (keeps.kind h.block) ∙ h.made;
      unkilled = keeps.unkilled h.block h.unkilled;
    }))
    (λ ne. record {
      block = h.block;
      there = changed_elsewhere m b n f (λ same. ne (sym same)) ∙ h.there;
      made = h.made;
      unkilled = h.unkilled;
    })
    (is_number b n)

started_keeps : KeepsAllocas started
started_keeps = record {
  kind = λ x. kind_by (is_killed x.life) x;
  unkilled = λ x calm. by (is_killed x.life) x calm
      calm;
}
  where
    kind_by : (b : Bool) (x : MemoryBlock)
        → (if b then x else record x { life = Life.Live; bytes = replicate x.size Byte.Undefined }).kind ≡ x.kind
    kind_by true x = refl
    kind_by false x = refl

    by : (b : Bool) (x : MemoryBlock) → b ≡ false → is_killed x.life ≡ false
        → is_killed (if b then x else record x { life = Life.Live; bytes = replicate x.size Byte.Undefined }).life
        ≡ false
    by true x e calm = calm
    by false x e calm = refl

ended_keeps : KeepsAllocas ended
ended_keeps = record { kind = λ x. kind_by (is_killed x.life) x; unkilled = λ x calm. by (is_killed x.life) x calm }
  where
    kind_by : (b : Bool) (x : MemoryBlock) → (if b then x else record x { life = Life.Ended }).kind ≡ x.kind
    kind_by true x = refl
    kind_by false x = refl

    by : (b : Bool) (x : MemoryBlock) → is_killed x.life ≡ false
        → is_killed (if b then x else record x { life = Life.Ended }).life ≡ false
    by true x calm = calm
    by false x calm = refl

owned_keeps : (size : ℕ) → KeepsAllocas (owned_to size)
owned_keeps size = record { kind = λ x. refl; unkilled = λ x calm. calm }

disowned_keeps : KeepsAllocas disowned
disowned_keeps = record { kind = λ x. refl; unkilled = λ x calm. calm }

-- ---- memories

pub grown_carries : (m : List MemoryBlock) (x : MemoryBlock) → Carries m (m ++ x ∷ [])
grown_carries m x n h = record {
  block = h.block;
  there = get_before m (x ∷ []) n h.block h.there;
  made = h.made;
  unkilled = h.unkilled;
}

pub disown_carries : (m : List MemoryBlock) (b : ℕ) → Carries m (disown m b)
disown_carries m b = changed_carries m b disowned disowned_keeps

refilled_carries : (m k : List MemoryBlock) → AreRefilled m k → Carries m k
refilled_carries m k r n h = on (slice_get m n) (slice_get k n) h.there refl (r.each n)
  where
    on : (o p : Option MemoryBlock) → o ≡ Some h.block → slice_get k n ≡ p → IsRefilled o p → IsAllocaBlock k n
    on None p is there h = absurd (cc)
    on (Some x) None is there same = absurd same
    on (Some x) (Some y) is there same =
        let first : x ≡ h.block = cc in
        record {
          block = y;
          there = there;
          made = ap (λ (z : MemoryBlock). same_kind z.kind Kind.Slot || same_kind z.kind Kind.Stack) same
              ∙ (ap (λ (z : MemoryBlock). same_kind z.kind Kind.Slot || same_kind z.kind Kind.Stack) first ∙ h.made);
          unkilled = ap (λ (z : MemoryBlock). is_killed z.life) same
              ∙ (ap (λ (z : MemoryBlock). is_killed z.life) first ∙ h.unkilled);
        }

-- a block that a deallocator kills is an allocator's
heap_no_slot : (k : Kind) → same_kind k Kind.Allocator ≡ true → IsAllocaKind k → ⊥
heap_no_slot Kind.Allocator e made = absurd (cc)
heap_no_slot Kind.Slot e made = absurd (cc)
heap_no_slot Kind.Stack e made = absurd (cc)
heap_no_slot Kind.Global e made = absurd (cc)
heap_no_slot Kind.Constant e made = absurd (cc)

abbrev pub CarriesAll : List MemoryBlock → Result (List MemoryBlock) Cause → Type 0
CarriesAll m (Err cause) = Unit {0}
CarriesAll m (Ok k) = Carries m k

pub kill_carries : (m : List MemoryBlock) (p : Value) → CarriesAll m (deallocated m p)
kill_carries m (Value.Ptr Pointer.Null) = λ n h. h
kill_carries m (Value.Ptr (Pointer.Func f)) = tt
kill_carries m Value.Poison = tt
kill_carries m (Value.Int x) = tt
kill_carries m (Value.Ptr (Pointer.At b o)) =
    on (o.bits == 0) (slice_get m b) refl (is_owned (slice_get m b))
  where
    apart : (x : MemoryBlock) → slice_get m b ≡ Some x → same_kind x.kind Kind.Allocator ≡ true
        → Carries m (killed m b)
    apart x there heap n h =
        ⊎_elim
        (λ same. absurd (heap_no_slot x.kind heap (ap (λ (z : MemoryBlock). same_kind z.kind Kind.Slot
        || same_kind z.kind Kind.Stack) (first same) ∙ h.made)))
        (λ ne. record {
          block = h.block;
          there = changed_elsewhere m b n killed_block (λ same. ne (sym same)) ∙ h.there;
          made = h.made;
          unkilled = h.unkilled;
        })
        (is_number b n)
      where
        first : b ≡ n → x ≡ h.block
        first same = let is : Some x ≡ Some h.block = sym there ∙ (ap (slice_get m) same ∙ h.there) in cc

    by : (x : MemoryBlock) → slice_get m b ≡ Some x → (c d f : Bool) → same_kind x.kind Kind.Allocator ≡ c
        → CarriesAll m (if not (c && d) then Err Cause.Free else if f then Err Cause.Owned else Ok (killed m b))
    by x there true true true heap = tt
    by x there true true false heap = apart x there heap
    by x there true false f heap = tt
    by x there false d f heap = tt

    on : (t : Bool) (q : Option MemoryBlock) → slice_get m b ≡ q → (f : Bool)
        → CarriesAll m (if not (t && is_unkilled Kind.Allocator q) then Err Cause.Free
        else if f then Err Cause.Owned else Ok (killed m b))
    on true (Some x) there f = by x there (same_kind x.kind Kind.Allocator) (not (is_killed x.life)) f refl
    on true None there f = tt
    on false q there f = tt

pub own_carries : (m : List MemoryBlock) (p : Value) (size : ℕ) (kind : Kind) → CarriesAll m (own m p size kind)
own_carries m (Value.Ptr (Pointer.At b o)) size kind =
    on ((o.bits == 0) && may_be_owned kind size (slice_get m b))
  where
    on : (t : Bool) → CarriesAll m (check t Cause.Begin (Ok (with_block m b (owned_to size))))
    on true = changed_carries m b (owned_to size) (owned_keeps size)
    on false = tt
own_carries m (Value.Ptr Pointer.Null) size kind = tt
own_carries m (Value.Ptr (Pointer.Func f)) size kind = tt
own_carries m Value.Poison size kind = tt
own_carries m (Value.Int x) size kind = tt

-- ---- what an instruction does

-- the block of a new slot is the next one
abbrev pub ActionKeeps : List MemoryBlock → Action → Type 0
ActionKeeps m (Done v) = Carries m v.world.memory
ActionKeeps m (NewSlot v slot) =
    (slot.block ≡ length m) × (Carries m v.world.memory) × (IsAllocaBlock v.world.memory (length m))
ActionKeeps m _ = Unit {0}

refills_keep : (m : List MemoryBlock) (a : Action) → OnlyRefills m a → ActionKeeps m a
refills_keep m (Done v) h = refilled_carries m v.world.memory h
refills_keep m (NewSlot v slot) h = absurd h
refills_keep m (Enter func args result must_tail) h = tt
refills_keep m (Coro i args result) h = tt
refills_keep m (Deallocate p) h = tt
refills_keep m (GoTo label) h = tt
refills_keep m (Return v) h = tt
refills_keep m (Stuck cause) h = tt

module _ (c : Context) (w : Work) where
  abbrev m : List MemoryBlock
  m = w.world.memory

  alloca_keeps : (name size align : ℕ) → ActionKeeps m (alloca c w name size align)
  alloca_keeps name size align = on (has_markers c.function name)
    where
      is_alloca : (b : Bool) → IsAllocaKind (if b then Kind.Slot else Kind.Stack)
      is_alloca true = refl
      is_alloca false = refl

      new : IsAllocaBlock (m ++ blank_block size align (alloca_kind c.function) ∷ []) (length m)
      new = record {
        block = blank_block size align (alloca_kind c.function);
        there = get_last m (blank_block size align (alloca_kind c.function));
        made = is_alloca c.function.coroutine;
        unkilled = refl;
      }

      ends : Carries (m ++ blank_block size align (alloca_kind c.function) ∷ [])
          (end (m ++ blank_block size align (alloca_kind c.function) ∷ []) (length m))
      ends = changed_carries (m ++ blank_block size align (alloca_kind c.function) ∷ []) (length m) ended ended_keeps

      on : (b : Bool) → (length m ≡ length m) × (Carries m (if b then end
          (m ++ blank_block size align (alloca_kind c.function) ∷ []) (length m)
          else m ++ blank_block size align (alloca_kind c.function) ∷ [])) × (IsAllocaBlock (if b then end (m
          ++ blank_block size align (alloca_kind c.function) ∷ []) (length m) else m ++ blank_block size align
          (alloca_kind c.function) ∷ []) (length m))
      on true = (
        refl,
        λ n h. ends n (grown_carries m (blank_block size align (alloca_kind c.function)) n h),
        ends (length m) new,
      )
      on false = (refl, grown_carries m (blank_block size align (alloca_kind c.function)), new)

  aligned_keeps : (align : ℕ) (a : Action) → ActionKeeps m a
      → ActionKeeps m (if is_alignment align then a else Stuck Cause.Align)
  aligned_keeps align a h = on (is_alignment align)
    where
      on : (b : Bool) → ActionKeeps m (if b then a else Stuck Cause.Align)
      on true = h
      on false = tt

  allocated_keeps : (result : Option ℕ) (v : Value) → ActionKeeps m (with_length v (λ n. Done (allocated w result n)))
  allocated_keeps result (Value.Int x) = grown_carries m (blank_block x.bits 16 Kind.Allocator)
  allocated_keeps result Value.Poison = tt
  allocated_keeps result (Value.Ptr p) = tt

  started_at : (o : Option ℕ) → Carries m (on_block start m o)
  started_at None = λ n h. h
  started_at (Some b) = changed_carries m b started started_keeps

  ended_at : (o : Option ℕ) → Carries m (on_block end m o)
  ended_at None = λ n h. h
  ended_at (Some b) = changed_carries m b ended ended_keeps

  rest : (x : Fetched) → HasNoSlot x → ActionKeeps m (action_of c w x)
  rest x h = refills_keep m (action_of c w x) (step_only c w x h)

  pub action_keeps : (x : Fetched) → ActionKeeps w.world.memory (action_of c w x)
  action_keeps Nowhere = tt
  action_keeps (AtTerm t) = rest (AtTerm t) tt
  action_keeps (AtInstr (Instr.Alloca name ty align)) =
      aligned_keeps align (alloca c w name (size_of c.code ty) align) (alloca_keeps name (size_of c.code ty) align)
  action_keeps (AtInstr (Instr.Call result must_tail ty (Callee.Allocator Allocator.Malloc) args)) =
      allocated_keeps result (nth (arg_values c.code w.values args) 0)
  action_keeps (AtInstr (Instr.Call result must_tail ty (Callee.Allocator Allocator.Znwm) args)) =
      allocated_keeps result (nth (arg_values c.code w.values args) 0)
  action_keeps (AtInstr (Instr.Call result must_tail ty (Callee.Allocator Allocator.Free) args)) = tt
  action_keeps (AtInstr (Instr.Call result must_tail ty (Callee.Allocator Allocator.ZdlPv) args)) = tt
  action_keeps (AtInstr (Instr.Call result must_tail ty (Callee.Allocator Allocator.ZdlPvm) args)) = tt
  action_keeps (AtInstr (Instr.Call result must_tail ty (Callee.Intrinsic i) args)) = others i
    where
      others : (i : Intrinsic) → ActionKeeps m (action_of c w (AtInstr (Instr.Call result must_tail ty
          (Callee.Intrinsic i) args)))
      others Intrinsic.LifetimeStart = started_at (block_of (nth (arg_values c.code w.values args) 1))
      others Intrinsic.LifetimeEnd = ended_at (block_of (nth (arg_values c.code w.values args) 1))
      others Intrinsic.MemcpyI64 = rest (AtInstr (Instr.Call result must_tail ty (Callee.Intrinsic Intrinsic.MemcpyI64)
          args)) tt
      others Intrinsic.MemcpyI32 = rest (AtInstr (Instr.Call result must_tail ty (Callee.Intrinsic Intrinsic.MemcpyI32)
          args)) tt
      others _ = tt
  action_keeps (AtInstr (Instr.Call result must_tail ty (Callee.Named n) args)) =
      rest (AtInstr (Instr.Call result must_tail ty (Callee.Named n) args)) tt
  action_keeps (AtInstr (Instr.Call result must_tail ty (Callee.Local n) args)) =
      rest (AtInstr (Instr.Call result must_tail ty (Callee.Local n) args)) tt
  action_keeps (AtInstr (Instr.Binary name op flags ty x y)) = rest (AtInstr (Instr.Binary name op flags ty x y)) tt
  action_keeps (AtInstr (Instr.Icmp name pred ty x y)) = rest (AtInstr (Instr.Icmp name pred ty x y)) tt
  action_keeps (AtInstr (Instr.Select name x y z)) = rest (AtInstr (Instr.Select name x y z)) tt
  action_keeps (AtInstr (Instr.Cast name op nneg arg to)) = rest (AtInstr (Instr.Cast name op nneg arg to)) tt
  action_keeps (AtInstr (Instr.Load name ty p align)) = rest (AtInstr (Instr.Load name ty p align)) tt
  action_keeps (AtInstr (Instr.Store arg p align)) = rest (AtInstr (Instr.Store arg p align)) tt
  action_keeps (AtInstr (Instr.Gep name inbounds ty base indices)) =
      rest (AtInstr (Instr.Gep name inbounds ty base indices)) tt
