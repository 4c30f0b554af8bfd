-- Blocks keep their kinds over a step, so frames that were given stay those that were.
use Rattle.std.proofs.Common.{◌≡◌, ◌<◌, ◌≤◌, ℕ, zero, suc, Bool, true, false, not, List, [], ◌∷◌, ◌++◌, length, Option, Result, Ok, Err, refl, ap, ◌∙◌, arith, if◌then◌else◌, length-append, ◌&&◌, ◌||◌, ◌==◌}
use Rattle.std.specs.Option.{option_map_or}
use Rattle.std.specs.Prelude.{None, Some, replicate, slice_get}
use Rattle.pass_elide_proof.proofs.ChangedBoth.{changed_many}
use Rattle.pass_elide_proof.proofs.KindsStay.{given_kept}
use Rattle.pass_proofs.proofs.run_laws.access.Reading.{as_many}
use Rattle.pass_proofs.proofs.run_laws.access.Walk.{AllocatorNeeds, CallNeeds, Comes, CopyNeeds, IntrinsicNeeds, Needs, step_ends}
use Rattle.pass_proofs.proofs.run_laws.embedded.Memories.{copy_refills, store_refills}
use Rattle.pass_proofs.specs.ir_base.declared.cause.Cause.{Cause}
use Rattle.pass_proofs.specs.ir_model.Layout.{size_of}
use Rattle.pass_proofs.specs.ir_model.Ty.{ptr}
use Rattle.pass_proofs.specs.ir_model.declared.instr.Instr.{Instr}
use Rattle.pass_proofs.specs.ir_model.declared.operand.Allocator.{Allocator}
use Rattle.pass_proofs.specs.ir_model.declared.operand.Callee.{Callee}
use Rattle.pass_proofs.specs.ir_model.declared.operand.Intrinsic.{Intrinsic}
use Rattle.pass_proofs.specs.run_framed.Framed.{is_given, is_stack_block}
use Rattle.pass_proofs.specs.run_laws.embedded.Refilled.{AreRefilled, IsRefilled}
use Rattle.pass_proofs.specs.run_laws.memory.Standing.{blank_block}
use Rattle.pass_proofs.specs.run_memory.Memory.{end, ended, fresh, is_killed, is_owned, is_unkilled, killed, killed_block, same_kind, started, with_block}
use Rattle.pass_proofs.specs.run_memory.declared.block.Byte.{Byte}
use Rattle.pass_proofs.specs.run_memory.declared.block.Kind.{Kind}
use Rattle.pass_proofs.specs.run_memory.declared.block.Life.{Life}
use Rattle.pass_proofs.specs.run_memory.declared.block.MemoryBlock.{MemoryBlock}
use Rattle.pass_proofs.specs.run_memory.declared.pointer.Pointer.{Pointer}
use Rattle.pass_proofs.specs.run_memory.declared.pointer.Value.{Value}
use Rattle.pass_proofs.specs.run_source.declared.state.Instance.{Instance}
use Rattle.pass_proofs.specs.run_step.Step.{AtInstr, AtTerm, Context, Fetched, Nowhere, Work, action_of, alloca_kind, block_of, deallocated, has_markers, on_block, without_slots}
use Rattle.pass_proofs.specs.run_step.Values.{access_of, address, arg_value, arg_values, nth, operand_value, stored}
use Rattle.pass_proofs.specs.run_step.declared.world.Slot.{Slot}

-- as many blocks or more, and frames in blocks that there were are given as they were
pub record KeepsKinds (m k : List MemoryBlock) : Type 0 where
  pub many : length m ≤ length k
  pub given : (z : Instance) → z.block < length m → is_given k z ≡ is_given m z

pub kinds_themselves : (m : List MemoryBlock) → KeepsKinds m m
kinds_themselves m = record { many = le (length m); given = λ z lt. refl }
  where
    le : (n : ℕ) → n ≤ n
    le n = omega arith

pub kinds_then : (m k n : List MemoryBlock) → KeepsKinds m k → KeepsKinds k n → KeepsKinds m n
kinds_then m k n first second = record {
  many = let a = first.many in let b = second.many in omega (arith, a, b);
  given = λ z lt.
      let a = first.many in
      second.given z (further z.block (length m) (length k) lt a) ∙ first.given z lt;
}
  where
    further : (b i j : ℕ) → b < i → i ≤ j → b < j
    further b i j lt le = omega (arith, lt, le)

pub kinds_block : (m : List MemoryBlock) (b : ℕ) (f : MemoryBlock → MemoryBlock)
    → ((x : MemoryBlock) → (f x).kind ≡ x.kind) → KeepsKinds m (with_block m b f)
kinds_block m b f keeps = record {
  many = let many = changed_many m b f in omega (arith, many);
  given = λ z lt. given_kept f keeps m b z;
}

stack_before : (m : List MemoryBlock) (x : MemoryBlock) (b : ℕ) → b < length m
    → is_stack_block (m ++ x ∷ []) b ≡ is_stack_block m b
stack_before [] x b lt = absurd (omega (arith, lt))
stack_before (y ∷ m) x zero lt = refl
stack_before (y ∷ m) x (suc b) lt = stack_before m x b (omega (arith, lt))

kinds_more : (m : List MemoryBlock) (x : MemoryBlock) → KeepsKinds m (m ++ x ∷ [])
kinds_more m x = record {
  many = let long = length-append m (x ∷ []) in omega (arith, long);
  given = λ z lt. ap (λ (b : Bool). b || not (z.start == 0)) (stack_before m x z.block lt);
}

refilled_stack : (m k : List MemoryBlock) → AreRefilled m k → (b : ℕ) → is_stack_block k b ≡ is_stack_block m b
refilled_stack m k h b = by (slice_get m b) (slice_get k b) (h.each b)
  where
    by : (o q : Option MemoryBlock) → IsRefilled o q
        → option_map_or (λ (x : MemoryBlock). same_kind x.kind Kind.Stack) q false
        ≡ option_map_or (λ (x : MemoryBlock). same_kind x.kind Kind.Stack) o false
    by None None r = refl
    by None (Some y) r = absurd r
    by (Some x) None r = absurd r
    by (Some x) (Some y) r = ap (λ (z : MemoryBlock). same_kind z.kind Kind.Stack) r

kinds_refilled : (m k : List MemoryBlock) → AreRefilled m k → KeepsKinds m k
kinds_refilled m k h = record {
  many = let many = as_many m k h in omega (arith, many);
  given = λ z lt. ap (λ (b : Bool). b || not (z.start == 0)) (refilled_stack m k h z.block);
}

-- ---- the changes

started_kind : (x : MemoryBlock) → (started x).kind ≡ x.kind
started_kind x = by (is_killed x.life)
  where
    by : (t : Bool) → (if t then x else record x { life = Life.Live; bytes = replicate x.size Byte.Undefined }).kind ≡ x.kind
    by true = refl
    by false = refl

ended_kind : (x : MemoryBlock) → (ended x).kind ≡ x.kind
ended_kind x = by (is_killed x.life)
  where
    by : (t : Bool) → (if t then x else record x { life = Life.Ended }).kind ≡ x.kind
    by true = refl
    by false = refl

pub kinds_slots : (m : List MemoryBlock) (slots : List Slot) → KeepsKinds m (without_slots m slots)
kinds_slots m [] = kinds_themselves m
kinds_slots m (z ∷ slots) =
    kinds_then m (killed m z.block) (without_slots (killed m z.block) slots)
    (kinds_block m z.block killed_block (λ x. refl)) (kinds_slots (killed m z.block) slots)

abbrev pub KindsTo : List MemoryBlock → Result (List MemoryBlock) Cause → Type 0
KindsTo m (Err cause) = Unit {0}
KindsTo m (Ok n) = KeepsKinds m n

if_kinds : (m : List MemoryBlock) (t : Bool) (r q : Result (List MemoryBlock) Cause) → KindsTo m r → KindsTo m q
    → KindsTo m (if t then r else q)
if_kinds m true r q h k = h
if_kinds m false r q h k = k

pub kinds_deallocated : (m : List MemoryBlock) (p : Value) → KindsTo m (deallocated m p)
kinds_deallocated m (Value.Ptr Pointer.Null) = kinds_themselves m
kinds_deallocated m (Value.Ptr (Pointer.At b o)) =
    if_kinds m (not (o.bits == 0 && is_unkilled Kind.Allocator (slice_get m b))) (Err Cause.Free)
    (if is_owned (slice_get m b) then Err Cause.Owned else Ok (killed m b)) tt
    (if_kinds m (is_owned (slice_get m b)) (Err Cause.Owned) (Ok (killed m b)) tt
    (kinds_block m b killed_block (λ x. refl)))
kinds_deallocated m (Value.Ptr (Pointer.Func f)) = tt
kinds_deallocated m Value.Poison = tt
kinds_deallocated m (Value.Int n) = tt

-- ---- ordinary steps

fresh_kinds : (m : List MemoryBlock) (size align : ℕ) (kind : Kind) → KeepsKinds m (fresh m size align kind)
fresh_kinds m size align kind = kinds_more m (blank_block size align kind)

marked_kinds : (f : MemoryBlock → MemoryBlock) → ((x : MemoryBlock) → (f x).kind ≡ x.kind) → (m : List MemoryBlock)
    (o : Option ℕ) → KeepsKinds m (on_block (λ k b. with_block k b f) m o)
marked_kinds f keeps m None = kinds_themselves m
marked_kinds f keeps m (Some b) = kinds_block m b f keeps

slot_kinds : (m : List MemoryBlock) (size align : ℕ) (kind : Kind) (t : Bool)
    → KeepsKinds m (if t then end (fresh m size align kind) (length m) else fresh m size align kind)
slot_kinds m size align kind false = fresh_kinds m size align kind
slot_kinds m size align kind true =
    kinds_then m (fresh m size align kind) (end (fresh m size align kind) (length m)) (fresh_kinds m size align kind)
    (kinds_block (fresh m size align kind) (length m) ended ended_kind)

module _ (c : Context) (w : Work) where
  abbrev m : List MemoryBlock
  m = w.world.memory

  abbrev Any : List MemoryBlock → Type 0
  Any k = Unit {0}

  copies_need : (vs : List Value) → CopyNeeds c w (KeepsKinds w.world.memory) Any vs
  copies_need vs = λ y k e h.
      kinds_refilled m k (copy_refills c.rights m k (address (nth vs 0)) (address (nth vs 1)) y.bits h)

  intrinsic_needs : (i : Intrinsic) (vs : List Value) → IntrinsicNeeds c w (KeepsKinds w.world.memory) Any i vs
  intrinsic_needs Intrinsic.LifetimeStart vs = marked_kinds started started_kind m (block_of (nth vs 1))
  intrinsic_needs Intrinsic.LifetimeEnd vs = marked_kinds ended ended_kind m (block_of (nth vs 1))
  intrinsic_needs Intrinsic.MemcpyI64 vs = copies_need vs
  intrinsic_needs Intrinsic.MemcpyI32 vs = copies_need vs
  intrinsic_needs _ vs = tt

  allocator_needs : (a : Allocator) (vs : List Value) → AllocatorNeeds c w (KeepsKinds w.world.memory) Any a vs
  allocator_needs Allocator.Malloc vs = λ n. fresh_kinds m n 16 Kind.Allocator
  allocator_needs Allocator.Znwm vs = λ n. fresh_kinds m n 16 Kind.Allocator
  allocator_needs Allocator.Free vs = λ k e. tt
  allocator_needs Allocator.ZdlPv vs = λ k e. tt
  allocator_needs Allocator.ZdlPvm vs = λ k e. tt

  call_needs : (callee : Callee) (vs : List Value) → CallNeeds c w (KeepsKinds w.world.memory) Any callee vs
  call_needs (Callee.Named n) vs = tt
  call_needs (Callee.Allocator a) vs = allocator_needs a vs
  call_needs (Callee.Intrinsic i) vs = intrinsic_needs i vs
  call_needs (Callee.Local name) vs = tt

  here_needs : (here : Fetched) → Needs c w (KeepsKinds w.world.memory) Any here
  here_needs Nowhere = tt
  here_needs (AtTerm t) = tt
  here_needs (AtInstr (Instr.Alloca name ty align)) =
      slot_kinds m (size_of c.code ty) align (alloca_kind c.function) (has_markers c.function name)
  here_needs (AtInstr (Instr.Store arg p align)) = λ k e.
      kinds_refilled m k (store_refills c.rights m k (address (operand_value c.code w.values ptr p))
      (stored (access_of arg.ty) (arg_value c.code w.values arg)) (access_of arg.ty) align e)
  here_needs (AtInstr (Instr.Call result must_tail ty callee args)) =
      call_needs callee (arg_values c.code w.values args)
  here_needs (AtInstr _) = tt

  pub actions_keep_kinds : (here : Fetched)
      → Comes (KeepsKinds w.world.memory) Any w.world.memory (action_of c w here)
  actions_keep_kinds here =
      step_ends c w (KeepsKinds w.world.memory) Any (kinds_themselves w.world.memory) here (here_needs here)
