-- A step changes no block that it doesn't access.
use Rattle.std.proofs.Common.{◌≡◌, ◌≢◌, ℕ, zero, suc, Bool, true, false, not, List, [], ◌∷◌, ◌++◌, length, Option, Some, None, Result, Ok, Err, refl, sym, ap, ◌∙◌, subst, if◌then◌else◌, ◌&&◌, ◌==◌, nat_le}
use Rattle.std.specs.Prelude.{slice_get}
use Rattle.run_memory.specs.Memory.{Rights, access_bytes, both, bytes_at, copied, copy, encode, end, fresh, is_constant, is_owned, is_unkilled, killed, on_ok, overlaps, range, rank, start, store, unless_constant, with_block, write}
use Rattle.run_memory.specs.declared.block.Kind.{Kind}
use Rattle.run_memory.specs.declared.block.MemoryBlock.{MemoryBlock}
use Rattle.run_memory.specs.declared.pointer.Access.{Access}
use Rattle.run_memory.specs.declared.pointer.Pointer.{Pointer}
use Rattle.run_memory.specs.declared.pointer.Spot.{Spot}
use Rattle.run_memory.specs.declared.pointer.Value.{Value}
use Rattle.run_memory.proofs.Found.{found}
use Rattle.ir_base.specs.declared.cause.Cause.{Cause}
use Rattle.ir_model.specs.Ty.{ptr}
use Rattle.ir_model.specs.declared.instr.Instr.{Instr}
use Rattle.ir_model.specs.declared.operand.Allocator.{Allocator}
use Rattle.ir_model.specs.declared.operand.Callee.{Callee}
use Rattle.ir_model.specs.declared.operand.Intrinsic.{Intrinsic}
use Rattle.run_laws.proofs.memory.Written.{changed_elsewhere}
use Rattle.run_step.specs.Step.{Action, AtInstr, AtTerm, Context, Deallocate, Done, Fetched, NewSlot, Nowhere, Work, action_of, alloca_kind, block_of, deallocated, has_markers, on_block, without_slots}
use Rattle.run_step.specs.Values.{access_of, address, arg_value, arg_values, nth, operand_value, stored}
use Rattle.run_step.specs.declared.world.Slot.{Slot}
use Rattle.run_laws.proofs.access.Walk.{AllocatorNeeds, CallNeeds, Comes, CopyNeeds, IntrinsicNeeds, Needs, step_ends}
use Rattle.run_laws.specs.access.Accessed.{accessed, allocator_accesses, as_list, by_copy, call_accesses, copy_accesses, intrinsic_accesses, led_into, of_length, slot_blocks}
use Rattle.ir_model.specs.Layout.{size_of}
use Rattle.run_laws.specs.access.Changed.{ChangesOnly, LeavesOthers}

same_blocks : (blocks : List ℕ) (m : List MemoryBlock) → ChangesOnly blocks m m
same_blocks blocks m = record { others = λ b h. refl }

-- one block is changed
one_block : (b : ℕ) (blocks : List ℕ) (m : List MemoryBlock) (f : MemoryBlock → MemoryBlock) → ChangesOnly (b ∷ blocks) m (with_block m b f)
one_block b blocks m f = record { others = λ a h. changed_elsewhere m b a f h.0 }

led_change : (f : List MemoryBlock → ℕ → List MemoryBlock) (g : MemoryBlock → MemoryBlock) → ((m : List MemoryBlock) (b : ℕ) → f m b ≡ with_block m b g) → (v : Value) (m : List MemoryBlock) → ChangesOnly (led_into v) m (on_block f m (block_of v))
led_change f g is v m = on (block_of v)
  where
    on : (o : Option ℕ) → ChangesOnly (as_list o) m (on_block f m o)
    on None = same_blocks [] m
    on (Some b) = subst (λ k. ChangesOnly (b ∷ []) m k) (sym (is m b)) (one_block b [] m g)

-- ---- new blocks

get_before : (m : List MemoryBlock) (x : MemoryBlock) (b : ℕ) → b ≢ length m → slice_get (m ++ x ∷ []) b ≡ slice_get m b
get_before [] x zero ne = absurd (ne refl)
get_before [] x (suc b) ne = refl
get_before (y ∷ m) x zero ne = refl
get_before (y ∷ m) x (suc b) ne = get_before m x b (λ e. ne (ap suc e))

pub fresh_block : (m : List MemoryBlock) (size align : ℕ) (kind : Kind) → ChangesOnly (length m ∷ []) m (fresh m size align kind)
fresh_block m size align kind = record { others = λ b h. get_before m _ b h.0 }

slot_block : (m made : List MemoryBlock) (t : Bool) → ChangesOnly (length m ∷ []) m made → ChangesOnly (length m ∷ []) m (if t then end made (length m) else made)
slot_block m made false h = h
slot_block m made true h = record { others = λ b none. changed_elsewhere made (length m) b _ none.0 ∙ h.others b none }

-- ---- stores and copies

if_written : (m k n : List MemoryBlock) (blocks : List ℕ) (t : Bool) → ChangesOnly blocks m k → (if t then Err Cause.Constant else Ok k) ≡ Ok n → ChangesOnly blocks m n
if_written m k n blocks true h e = absurd (cc)
if_written m k n blocks false h e = let same : k ≡ n = cc in subst (ChangesOnly blocks m) same h

-- a write where an access found something
found_block : (rights : Rights) (m : List MemoryBlock) (v : Value) (len align : ℕ) (s : Spot) → range rights m v len align ≡ Ok s → led_into v ≡ s.block ∷ []
found_block rights m v len align s e = let f = found rights m v len align s e in ap led_into f.leads

store_on : (rights : Rights) (m n : List MemoryBlock) (p v : Value) (len align : ℕ) (r : Result Spot Cause) → range rights m p len align ≡ r → on_ok (λ s. unless_constant m s (write m s (encode len v))) r ≡ Ok n → ChangesOnly (led_into p) m n
store_on rights m n p v len align (Err c) is e = absurd (cc)
store_on rights m n p v len align (Ok s) is e =
    if_written m (write m s (encode len v)) n (led_into p) (is_constant (slice_get m s.block))
    (subst (λ (bs : List ℕ). ChangesOnly bs m (write m s (encode len v))) (sym (found_block rights m p len align s is)) (one_block s.block [] m _)) e

store_block : (rights : Rights) (m n : List MemoryBlock) (p v : Value) (what : Access) (align : ℕ) → store rights m p v what align ≡ Ok n → ChangesOnly (led_into p) m n
store_block rights m n p v what align e = store_on rights m n p v (access_bytes what) align (range rights m p (access_bytes what) align) refl e

copied_blocks : (m n : List MemoryBlock) (a b : Spot) (len : ℕ) (blocks : List ℕ) (t u : Bool) → (if t then Err Cause.Constant else if u then Err Cause.Overlap else Ok (write m a (bytes_at m b len))) ≡ Ok n → ChangesOnly (a.block ∷ blocks) m n
copied_blocks m n a b len blocks true u e = absurd (cc)
copied_blocks m n a b len blocks false true e = absurd (cc)
copied_blocks m n a b len blocks false false e = let same : write m a (bytes_at m b len) ≡ n = cc in subst (ChangesOnly (a.block ∷ blocks) m) same (one_block a.block blocks m _)

pub both_fails : (m n : List MemoryBlock) (len : ℕ) (c d : Cause) (t : Bool) → on_ok (λ (x, y). copied m x y len) (if t then Err c else Err d) ≡ Ok n → ⊥
both_fails m n len c d true e = cc
both_fails m n len c d false e = cc

copy_on : (rights : Rights) (m n : List MemoryBlock) (to from : Value) (len : ℕ) (r s : Result Spot Cause) → range rights m to len 1 ≡ r → on_ok (λ (x, y). copied m x y len) (both r s) ≡ Ok n → ChangesOnly (led_into to ++ led_into from) m n
copy_on rights m n to from len (Err c) (Err d) is e = absurd (both_fails m n len c d (nat_le (rank c) (rank d)) e)
copy_on rights m n to from len (Err c) (Ok b) is e = absurd (cc)
copy_on rights m n to from len (Ok a) (Err d) is e = absurd (cc)
copy_on rights m n to from len (Ok a) (Ok b) is e =
    subst (λ (bs : List ℕ). ChangesOnly (bs ++ led_into from) m n) (sym (found_block rights m to len 1 a is)) (copied_blocks m n a b len (led_into from) (is_constant (slice_get m a.block)) (overlaps a b len) e)

copy_blocks : (rights : Rights) (m n : List MemoryBlock) (to from : Value) (len : ℕ) → copy rights m to from len ≡ Ok n → ChangesOnly (by_copy to from len) m n
copy_blocks rights m n to from zero e = let same : m ≡ n = cc in subst (ChangesOnly [] m) same (same_blocks [] m)
copy_blocks rights m n to from (suc len) e = copy_on rights m n to from (suc len) (range rights m to (suc len) 1) (range rights m from (suc len) 1) refl e

-- ---- deallocation

kill_on : (m n : List MemoryBlock) (b : ℕ) (t u : Bool) → (if not t then Err Cause.Free else if u then Err Cause.Owned else Ok (killed m b)) ≡ Ok n → ChangesOnly (b ∷ []) m n
kill_on m n b false u e = absurd (cc)
kill_on m n b true true e = absurd (cc)
kill_on m n b true false e = let same : killed m b ≡ n = cc in subst (ChangesOnly (b ∷ []) m) same (one_block b [] m _)

pub deallocated_block : (m n : List MemoryBlock) (p : Value) → deallocated m p ≡ Ok n → ChangesOnly (led_into p) m n
deallocated_block m n (Value.Ptr Pointer.Null) e = let same : m ≡ n = cc in subst (ChangesOnly [] m) same (same_blocks [] m)
deallocated_block m n (Value.Ptr (Pointer.Func f)) e = absurd (cc)
deallocated_block m n (Value.Ptr (Pointer.At b o)) e = kill_on m n b ((o.bits == 0) && is_unkilled Kind.Allocator (slice_get m b)) (is_owned (slice_get m b)) e
deallocated_block m n Value.Poison e = absurd (cc)
deallocated_block m n (Value.Int y) e = absurd (cc)

-- ---- a step

module _ (c : Context) (w : Work) where
  abbrev m : List MemoryBlock
  m = w.world.memory

  abbrev Only : List ℕ → List MemoryBlock → Type 0
  Only blocks k = ChangesOnly blocks m k

  copy_needs : (vs : List Value) → CopyNeeds c w (Only (copy_accesses vs)) (Only (copy_accesses vs)) vs
  copy_needs vs = λ y k e h. subst (λ (v : Value). Only (of_length v (by_copy (address (nth vs 0)) (address (nth vs 1)))) k) (sym e) (copy_blocks c.rights m k (address (nth vs 0)) (address (nth vs 1)) y.bits h)

  intrinsic_needs : (i : Intrinsic) (vs : List Value) → IntrinsicNeeds c w (Only (intrinsic_accesses i vs)) (Only (intrinsic_accesses i vs)) i vs
  intrinsic_needs Intrinsic.LifetimeStart vs = led_change start _ (λ k b. refl) (nth vs 1) m
  intrinsic_needs Intrinsic.LifetimeEnd vs = led_change end _ (λ k b. refl) (nth vs 1) m
  intrinsic_needs Intrinsic.MemcpyI64 vs = copy_needs vs
  intrinsic_needs Intrinsic.MemcpyI32 vs = copy_needs vs
  intrinsic_needs _ vs = tt

  allocator_needs : (a : Allocator) (vs : List Value) → AllocatorNeeds c w (Only (allocator_accesses a m vs)) (Only (allocator_accesses a m vs)) a vs
  allocator_needs Allocator.Malloc vs = λ n. fresh_block m n 16 Kind.Allocator
  allocator_needs Allocator.Znwm vs = λ n. fresh_block m n 16 Kind.Allocator
  allocator_needs Allocator.Free vs = λ k e. deallocated_block m k (address (nth vs 0)) e
  allocator_needs Allocator.ZdlPv vs = λ k e. deallocated_block m k (address (nth vs 0)) e
  allocator_needs Allocator.ZdlPvm vs = λ k e. deallocated_block m k (address (nth vs 0)) e

  call_needs : (callee : Callee) (vs : List Value) → CallNeeds c w (Only (call_accesses callee m vs)) (Only (call_accesses callee m vs)) callee vs
  call_needs (Callee.Named n) vs = tt
  call_needs (Callee.Allocator a) vs = allocator_needs a vs
  call_needs (Callee.Intrinsic i) vs = intrinsic_needs i vs
  call_needs (Callee.Local name) vs = tt

  here_needs : (here : Fetched) → Needs c w (Only (accessed c w here)) (Only (accessed c w here)) here
  here_needs Nowhere = tt
  here_needs (AtTerm t) = tt
  here_needs (AtInstr (Instr.Alloca name ty align)) = slot_block m (fresh m (size_of c.code ty) align (alloca_kind c.function)) (has_markers c.function name) (fresh_block m (size_of c.code ty) align (alloca_kind c.function))
  here_needs (AtInstr (Instr.Store arg p align)) = λ k e. store_block c.rights m k (address (operand_value c.code w.values ptr p)) (stored (access_of arg.ty) (arg_value c.code w.values arg)) (access_of arg.ty) align e
  here_needs (AtInstr (Instr.Call result must_tail ty callee args)) = call_needs callee (arg_values c.code w.values args)
  here_needs (AtInstr _) = tt

comes_others : (blocks : List ℕ) (m : List MemoryBlock) (a : Action) → Comes (ChangesOnly blocks m) (ChangesOnly blocks m) m a → LeavesOthers blocks m a
comes_others blocks m (Done w) h = h
comes_others blocks m (NewSlot w slot) h = h
comes_others blocks m (Deallocate p) h = h
comes_others blocks m _ h = tt

pub others_left : (c : Context) (w : Work) (here : Fetched) → LeavesOthers (accessed c w here) w.world.memory (action_of c w here)
others_left c w here = comes_others (accessed c w here) w.world.memory (action_of c w here) (step_ends c w (ChangesOnly (accessed c w here) w.world.memory) (ChangesOnly (accessed c w here) w.world.memory) (same_blocks (accessed c w here) w.world.memory) here (here_needs c w here))

-- ---- a return

pub slots_left : (m : List MemoryBlock) (slots : List Slot) → ChangesOnly (slot_blocks slots) m (without_slots m slots)
slots_left m [] = same_blocks [] m
slots_left m (s ∷ slots) = record { others = λ b h. (slots_left (killed m s.block) slots).others b h.1 ∙ changed_elsewhere m s.block b _ h.0 }
