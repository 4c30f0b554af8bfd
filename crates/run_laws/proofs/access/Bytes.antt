-- A step that makes, marks and allocates no block changes no bytes but those that it writes.
use Rattle.std.proofs.Common.{◌≡◌, ℕ, zero, suc, ◌+◌, ◌<◌, ◌≤◌, ◌⊎◌, inl, inr, Bool, true, false, List, [], ◌∷◌, get_or, length, take, drop, Option, Some, Result, Ok, Err, refl, sym, ap, ◌∙◌, subst, ⊎_elim, arith, length-take, if◌then◌else◌, nat_le}
use Rattle.std.specs.Prelude.{slice_get}
use Rattle.std.proofs.lemmas.Bool.{cases_eq}
use Rattle.run_memory.proofs.Digits.{length-encode}
use Rattle.run_memory.proofs.Found.{Found, found}
use Rattle.run_memory.proofs.Kept.{length-written}
use Rattle.run_memory.specs.Memory.{Rights, access_bytes, both, bytes_at, bytes_in, copied, copy, encode, is_constant, on_ok, overlaps, range, rank, unless_constant, with_bytes, write, written}
use Rattle.run_memory.specs.declared.block.Byte.{Byte}
use Rattle.run_memory.specs.declared.block.MemoryBlock.{MemoryBlock}
use Rattle.run_memory.specs.declared.pointer.Spot.{Spot}
use Rattle.run_memory.specs.declared.pointer.Value.{Value}
use Rattle.ir_base.specs.declared.cause.Cause.{Cause}
use Rattle.ir_model.specs.Ty.{Ty, ptr}
use Rattle.ir_model.specs.declared.instr.Instr.{Instr}
use Rattle.ir_model.specs.declared.operand.Allocator.{Allocator}
use Rattle.ir_model.specs.declared.operand.Arg.{Arg}
use Rattle.ir_model.specs.declared.operand.Callee.{Callee}
use Rattle.ir_model.specs.declared.operand.Intrinsic.{Intrinsic}
use Rattle.run_laws.proofs.memory.Written.{changed_elsewhere, changed_here, written_before, written_behind}
use Rattle.run_step.specs.Step.{Action, AtInstr, AtTerm, Context, Done, Fetched, NewSlot, Nowhere, Work, action_of}
use Rattle.run_step.specs.Values.{access_of, address, arg_value, arg_values, nth, operand_value, stored}
use Rattle.run_laws.proofs.access.Blocks.{both_fails}
use Rattle.run_laws.proofs.access.Walk.{AllocatorNeeds, CallNeeds, Comes, CopyNeeds, IntrinsicNeeds, Needs, step_ends}
use Rattle.run_laws.specs.access.Accessed.{Span, call_writes, copy_span, copy_writes, of_length, span_at, writes}
use Rattle.run_laws.specs.access.Changed.{IsFull, IsOutside, LeavesBytes, byte_in}
use Rattle.run_laws.proofs.embedded.Refills.{step_only}
use Rattle.run_laws.specs.embedded.Refilled.{OnlyRefills}
use Rattle.run_laws.specs.embedded.Related.{HasNoSlot}
use Rattle.run_laws.specs.changed.Changed.{Each}

-- the bytes, and not what else a block has
record HasBytesBut (spans : List Span) (m k : List MemoryBlock) : Type 0 where
  lengths : (b : ℕ) → length (bytes_in (slice_get k b)) ≡ length (bytes_in (slice_get m b))
  others : (b i : ℕ) → Each (IsOutside b i) spans → byte_in k b i ≡ byte_in m b i

same_bytes : (spans : List Span) (m : List MemoryBlock) → HasBytesBut spans m m
same_bytes spans m = record { lengths = λ b. refl; others = λ b i h. refl }

abbrev span : Spot → ℕ → Span
span s len = record { block = s.block; offset = s.offset; len = len }

written_away : (bytes new : List Byte) (at len i : ℕ) → length new ≤ len → at + len ≤ length bytes → (i < at) ⊎ (at + len ≤ i) → get_or (written bytes at new) i Byte.Undefined ≡ get_or bytes i Byte.Undefined
written_away bytes new at len i short within (inl lt) = written_before bytes at new i (omega arith) lt
written_away bytes new at len i short within (inr ge) = written_behind bytes at new i (omega arith) (omega arith)

bytes_written : (m : List MemoryBlock) (s : Spot) (new : List Byte) (len : ℕ) (y : MemoryBlock) → slice_get m s.block ≡ Some y → length new ≤ len → s.offset + len ≤ length y.bytes → HasBytesBut (span s len ∷ []) m (write m s new)
bytes_written m s new len y there short within = record {
  lengths = λ b. ⊎_elim
      (λ e. ap (λ (a : ℕ). length (bytes_in (slice_get (write m s new) a))) e ∙ ap (λ (o : Option MemoryBlock). length (bytes_in o)) here ∙ length-written y.bytes s.offset new (omega arith)
      ∙ sym (ap (λ (a : ℕ). length (bytes_in (slice_get m a))) e ∙ ap (λ (o : Option MemoryBlock). length (bytes_in o)) there))
      (λ ne. ap (λ (o : Option MemoryBlock). length (bytes_in o)) (changed_elsewhere m s.block b (with_bytes s.offset new) ne))
      (cases_eq b s.block);
  others = λ b i h. ⊎_elim
      (λ e. ap (λ (a : ℕ). byte_in (write m s new) a i) e ∙ ap (λ (o : Option MemoryBlock). get_or (bytes_in o) i Byte.Undefined) here ∙ written_away y.bytes new s.offset len i short within (h.0 e)
      ∙ sym (ap (λ (a : ℕ). byte_in m a i) e ∙ ap (λ (o : Option MemoryBlock). get_or (bytes_in o) i Byte.Undefined) there))
      (λ ne. ap (λ (o : Option MemoryBlock). get_or (bytes_in o) i Byte.Undefined) (changed_elsewhere m s.block b (with_bytes s.offset new) ne))
      (cases_eq b s.block);
}
  where
    here : slice_get (write m s new) s.block ≡ Some (with_bytes s.offset new y)
    here = changed_here m s.block (with_bytes s.offset new) y there

-- where an access found something a span lies there
pub found_span : (rights : Rights) (m : List MemoryBlock) (v : Value) (len align : ℕ) (s : Spot) → Found rights m v len align s → span_at v len ≡ span s len ∷ []
found_span rights m v len align s f = ap (λ (u : Value). span_at u len) f.leads ∙ ap (λ (o : ℕ). record { block = s.block; offset = o; len = len } ∷ []) f.at

found_written : (rights : Rights) (m : List MemoryBlock) (v : Value) (len align : ℕ) (s : Spot) (new : List Byte) → Found rights m v len align s → Each (λ (t : Span). IsFull m t.block) (span_at v len) → length new ≤ len → HasBytesBut (span_at v len) m (write m s new)
found_written rights m v len align s new f full short =
    let e = found_span rights m v len align s f in
    let whole : Each (λ (t : Span). IsFull m t.block) (span s len ∷ []) = subst (λ (ts : List Span). Each (λ (t : Span). IsFull m t.block) ts) e full in
    let long : length f.block.bytes ≡ f.block.size = whole.0 f.block f.stands f.live in
    let within = f.within in
    subst (λ (ts : List Span). HasBytesBut ts m (write m s new)) (sym e) (bytes_written m s new len f.block f.stands short (omega arith))

if_bytes : (spans : List Span) (m k n : List MemoryBlock) (t : Bool) → HasBytesBut spans m k → (if t then Err Cause.Constant else Ok k) ≡ Ok n → HasBytesBut spans m n
if_bytes spans m k n true h e = absurd (cc)
if_bytes spans m k n false h e = let same : k ≡ n = cc in subst (HasBytesBut spans m) same h

store_on : (rights : Rights) (m n : List MemoryBlock) (p v : Value) (len align : ℕ) (r : Result Spot Cause) → range rights m p len align ≡ r → Each (λ (t : Span). IsFull m t.block) (span_at p len) → on_ok (λ s. unless_constant m s (write m s (encode len v))) r ≡ Ok n → HasBytesBut (span_at p len) m n
store_on rights m n p v len align (Err c) is full e = absurd (cc)
store_on rights m n p v len align (Ok s) is full e =
    let long = length-encode len v in
    if_bytes (span_at p len) m (write m s (encode len v)) n (is_constant (slice_get m s.block)) (found_written rights m p len align s (encode len v) (found rights m p len align s is) full (omega arith)) e

length_cut : (bytes : List Byte) (o len : ℕ) → length (take len (drop o bytes)) ≤ len
length_cut bytes o len = let a = length-take len (drop o bytes) in omega arith

copied_bytes_but : (rights : Rights) (m n : List MemoryBlock) (to : Value) (a b : Spot) (len : ℕ) (t u : Bool) → range rights m to len 1 ≡ Ok a → Each (λ (t : Span). IsFull m t.block) (span_at to len) → (if t then Err Cause.Constant else if u then Err Cause.Overlap else Ok (write m a (bytes_at m b len))) ≡ Ok n → HasBytesBut (span_at to len) m n
copied_bytes_but rights m n to a b len true u is full e = absurd (cc)
copied_bytes_but rights m n to a b len false true is full e = absurd (cc)
copied_bytes_but rights m n to a b len false false is full e =
    let same : write m a (bytes_at m b len) ≡ n = cc in
    subst (HasBytesBut (span_at to len) m) same (found_written rights m to len 1 a (bytes_at m b len) (found rights m to len 1 a is) full (length_cut (bytes_in (slice_get m b.block)) b.offset len))

copy_on : (rights : Rights) (m n : List MemoryBlock) (to from : Value) (len : ℕ) (r s : Result Spot Cause) → range rights m to len 1 ≡ r → Each (λ (t : Span). IsFull m t.block) (span_at to len) → on_ok (λ (x, y). copied m x y len) (both r s) ≡ Ok n → HasBytesBut (span_at to len) m n
copy_on rights m n to from len (Err c) (Err d) is full e = absurd (both_fails m n len c d (nat_le (rank c) (rank d)) e)
copy_on rights m n to from len (Err c) (Ok b) is full e = absurd (cc)
copy_on rights m n to from len (Ok a) (Err d) is full e = absurd (cc)
copy_on rights m n to from len (Ok a) (Ok b) is full e = copied_bytes_but rights m n to a b len (is_constant (slice_get m a.block)) (overlaps a b len) is full e

copy_but : (rights : Rights) (m n : List MemoryBlock) (to from : Value) (len : ℕ) → Each (λ (t : Span). IsFull m t.block) (copy_span to len) → copy rights m to from len ≡ Ok n → HasBytesBut (copy_span to len) m n
copy_but rights m n to from zero full e = let same : m ≡ n = cc in subst (HasBytesBut [] m) same (same_bytes [] m)
copy_but rights m n to from (suc len) full e = copy_on rights m n to from (suc len) (range rights m to (suc len) 1) (range rights m from (suc len) 1) refl full e

-- ---- a step

module _ (c : Context) (w : Work) where
  abbrev m : List MemoryBlock
  m = w.world.memory

  abbrev But : List Span → List MemoryBlock → Type 0
  But spans k = HasBytesBut spans m k

  abbrev Any : List MemoryBlock → Type 0
  Any k = Unit {0}

  abbrev Full : List Span → Type 0
  Full spans = Each (λ (t : Span). IsFull m t.block) spans

  copy_needs : (vs : List Value) → Full (copy_writes vs) → CopyNeeds c w (But (copy_writes vs)) Any vs
  copy_needs vs full = λ y k e h.
      subst (λ (v : Value). But (of_length v (copy_span (address (nth vs 0)))) k) (sym e)
      (copy_but c.rights m k (address (nth vs 0)) (address (nth vs 1)) y.bits (subst (λ (v : Value). Full (of_length v (copy_span (address (nth vs 0))))) e full) h)

  module _ (result : Option ℕ) (must_tail : Bool) (ty : Option Ty) (args : List Arg) where
    abbrev NoSlot : Callee → Type 0
    NoSlot callee = HasNoSlot (AtInstr (Instr.Call result must_tail ty callee args))

    intrinsic_needs : (i : Intrinsic) (vs : List Value) → NoSlot (Callee.Intrinsic i) → Full (call_writes (Callee.Intrinsic i) vs) → IntrinsicNeeds c w (But (call_writes (Callee.Intrinsic i) vs)) Any i vs
    intrinsic_needs Intrinsic.LifetimeStart vs s full = absurd s
    intrinsic_needs Intrinsic.LifetimeEnd vs s full = absurd s
    intrinsic_needs Intrinsic.MemcpyI64 vs s full = copy_needs vs full
    intrinsic_needs Intrinsic.MemcpyI32 vs s full = copy_needs vs full
    intrinsic_needs _ vs s full = tt

    allocator_needs : (a : Allocator) (vs : List Value) → NoSlot (Callee.Allocator a) → AllocatorNeeds c w (But []) Any a vs
    allocator_needs Allocator.Malloc vs s = absurd s
    allocator_needs Allocator.Znwm vs s = absurd s
    allocator_needs Allocator.Free vs s = λ k e. tt
    allocator_needs Allocator.ZdlPv vs s = λ k e. tt
    allocator_needs Allocator.ZdlPvm vs s = λ k e. tt

    call_needs : (callee : Callee) (vs : List Value) → NoSlot callee → Full (call_writes callee vs) → CallNeeds c w (But (call_writes callee vs)) Any callee vs
    call_needs (Callee.Named n) vs s full = tt
    call_needs (Callee.Allocator a) vs s full = allocator_needs a vs s
    call_needs (Callee.Intrinsic i) vs s full = intrinsic_needs i vs s full
    call_needs (Callee.Local name) vs s full = tt

  here_needs : (here : Fetched) → HasNoSlot here → Full (writes c w here) → Needs c w (But (writes c w here)) Any here
  here_needs Nowhere s full = tt
  here_needs (AtTerm t) s full = tt
  here_needs (AtInstr (Instr.Alloca name ty align)) s full = absurd s
  here_needs (AtInstr (Instr.Store arg p align)) s full = λ k e. store_on c.rights m k (address (operand_value c.code w.values ptr p)) (stored (access_of arg.ty) (arg_value c.code w.values arg)) (access_bytes (access_of arg.ty)) align (range c.rights m (address (operand_value c.code w.values ptr p)) (access_bytes (access_of arg.ty)) align) refl full e
  here_needs (AtInstr (Instr.Call result must_tail ty callee args)) s full = call_needs result must_tail ty args callee (arg_values c.code w.values args) s full
  here_needs (AtInstr _) s full = tt

comes_bytes : (spans : List Span) (m : List MemoryBlock) (a : Action) → Comes (HasBytesBut spans m) (λ k. Unit {0}) m a → OnlyRefills m a → LeavesBytes spans m a
comes_bytes spans m (Done w) h r = record { refilled = r; lengths = h.lengths; others = h.others }
comes_bytes spans m (NewSlot w slot) h r = r
comes_bytes spans m _ h r = tt

pub bytes_left : (c : Context) (w : Work) (here : Fetched) → HasNoSlot here → Each (λ (t : Span). IsFull w.world.memory t.block) (writes c w here) → LeavesBytes (writes c w here) w.world.memory (action_of c w here)
bytes_left c w here s full =
    comes_bytes (writes c w here) w.world.memory (action_of c w here)
    (step_ends c w (HasBytesBut (writes c w here) w.world.memory) (λ k. Unit {0}) (same_bytes (writes c w here) w.world.memory) here (here_needs c w here s full))
    (step_only c w here s)
