-- A block that has all its bytes keeps them over an ordinary step.
use Rattle.std.proofs.Common.{◌≡◌, ◌≢◌, ℕ, zero, suc, ◌+◌, ◌≤◌, Bool, true, false, List, length, take, drop, Option, Some, Result, Ok, Err, refl, sym, ap, ◌∙◌, subst, ⊎_elim, arith, length-take, if◌then◌else◌, nat_le}
use Rattle.std.specs.Prelude.{slice_get}
use Rattle.std.proofs.lemmas.Bool.{cases_eq}
use Rattle.pass_proofs.proofs.run_laws.access.Blocks.{both_fails}
use Rattle.pass_proofs.proofs.run_laws.access.Walk.{AllocatorNeeds, CallNeeds, Comes, CopyNeeds, IntrinsicNeeds, Needs, step_ends}
use Rattle.pass_proofs.proofs.run_laws.memory.Written.{changed_elsewhere, changed_here}
use Rattle.pass_proofs.proofs.run_memory.Digits.{length-encode}
use Rattle.pass_proofs.proofs.run_memory.Found.{found}
use Rattle.pass_proofs.proofs.run_memory.Kept.{length-written}
use Rattle.pass_proofs.specs.ir_base.declared.cause.Cause.{Cause}
use Rattle.pass_proofs.specs.ir_model.Ty.{Ty, ptr}
use Rattle.pass_proofs.specs.ir_model.declared.instr.Instr.{Instr}
use Rattle.pass_proofs.specs.ir_model.declared.operand.Allocator.{Allocator}
use Rattle.pass_proofs.specs.ir_model.declared.operand.Arg.{Arg}
use Rattle.pass_proofs.specs.ir_model.declared.operand.Callee.{Callee}
use Rattle.pass_proofs.specs.ir_model.declared.operand.Intrinsic.{Intrinsic}
use Rattle.pass_proofs.specs.run_laws.access.Changed.{IsFull}
use Rattle.pass_proofs.specs.run_laws.embedded.Related.{HasNoSlot}
use Rattle.pass_proofs.specs.run_memory.Memory.{Rights, access_bytes, both, bytes_at, bytes_in, copied, copy, encode, is_constant, is_live, on_ok, overlaps, range, rank, unless_constant, with_bytes, write}
use Rattle.pass_proofs.specs.run_memory.declared.block.Byte.{Byte}
use Rattle.pass_proofs.specs.run_memory.declared.block.MemoryBlock.{MemoryBlock}
use Rattle.pass_proofs.specs.run_memory.declared.pointer.Spot.{Spot}
use Rattle.pass_proofs.specs.run_memory.declared.pointer.Value.{Value}
use Rattle.pass_proofs.specs.run_step.Step.{AtInstr, AtTerm, Context, Fetched, Nowhere, Work, action_of}
use Rattle.pass_proofs.specs.run_step.Values.{access_of, address, arg_value, arg_values, nth, operand_value, stored}

module _ (m : List MemoryBlock) (b : ℕ) (full : IsFull m b) where
  abbrev pub KeepsLength : List MemoryBlock → Type 0
  KeepsLength k = length (bytes_in (slice_get k b)) ≡ length (bytes_in (slice_get m b))

  write_keeps : (s : Spot) (new : List Byte) (y : MemoryBlock) → slice_get m s.block ≡ Some y
      → is_live y.life ≡ true → s.offset + length new ≤ y.size → KeepsLength (write m s new)
  write_keeps s new y there live fits = ⊎_elim here away (cases_eq b s.block)
    where
      here : b ≡ s.block → KeepsLength (write m s new)
      here e =
          let is : slice_get m b ≡ Some y = ap (slice_get m) e ∙ there in
          let long : length y.bytes ≡ y.size = full y is live in
          ap (λ (o : Option MemoryBlock). length (bytes_in o))
          (ap (slice_get (write m s new)) e ∙ changed_here m s.block (with_bytes s.offset new) y there)
          ∙ (length-written y.bytes s.offset new (omega (arith, fits, long))
          ∙ sym (ap (λ (o : Option MemoryBlock). length (bytes_in o)) is))

      away : b ≢ s.block → KeepsLength (write m s new)
      away ne =
          ap (λ (o : Option MemoryBlock). length (bytes_in o))
          (changed_elsewhere m s.block b (with_bytes s.offset new) ne)

  found_keeps : (rights : Rights) (v : Value) (len align : ℕ) (s : Spot) (new : List Byte)
      → range rights m v len align ≡ Ok s → length new ≤ len → KeepsLength (write m s new)
  found_keeps rights v len align s new e short =
      let f = found rights m v len align s e in
      let within : s.offset + len ≤ f.block.size = f.within in
      write_keeps s new f.block f.stands f.live (omega (arith, within, short))

  if_keeps : (k n : List MemoryBlock) (t : Bool) → KeepsLength k → (if t then Err Cause.Constant else Ok k) ≡ Ok n
      → KeepsLength n
  if_keeps k n true h e = absurd (cc)
  if_keeps k n false h e = let same : k ≡ n = cc in subst KeepsLength same h

  store_keeps : (rights : Rights) (n : List MemoryBlock) (p v : Value) (len align : ℕ) (r : Result Spot Cause)
      → range rights m p len align ≡ r → on_ok (λ s. unless_constant m s (write m s (encode len v))) r ≡ Ok n
      → KeepsLength n
  store_keeps rights n p v len align (Err c) is e = absurd (cc)
  store_keeps rights n p v len align (Ok s) is e =
      let long = length-encode len v in
      if_keeps (write m s (encode len v)) n (is_constant (slice_get m s.block))
      (found_keeps rights p len align s (encode len v) is (omega (arith, long))) e

  length_cut : (bytes : List Byte) (o len : ℕ) → length (take len (drop o bytes)) ≤ len
  length_cut bytes o len = let a = length-take len (drop o bytes) in omega (arith, a)

  copied_keeps : (rights : Rights) (n : List MemoryBlock) (to : Value) (a c : Spot) (len : ℕ) (t u : Bool)
      → range rights m to len 1 ≡ Ok a
      → (if t then Err Cause.Constant else if u then Err Cause.Overlap else Ok (write m a (bytes_at m c len))) ≡ Ok n
      → KeepsLength n
  copied_keeps rights n to a c len true u is e = absurd (cc)
  copied_keeps rights n to a c len false true is e = absurd (cc)
  copied_keeps rights n to a c len false false is e =
      let same : write m a (bytes_at m c len) ≡ n = cc in
      subst KeepsLength same
      (found_keeps rights to len 1 a (bytes_at m c len) is (length_cut (bytes_in (slice_get m c.block)) c.offset len))

  copy_found : (rights : Rights) (n : List MemoryBlock) (to from : Value) (len : ℕ) (r s : Result Spot Cause)
      → range rights m to len 1 ≡ r → on_ok (λ (x, y). copied m x y len) (both r s) ≡ Ok n → KeepsLength n
  copy_found rights n to from len (Err c) (Err d) is e =
      absurd (both_fails m n len c d (nat_le (rank c) (rank d)) e)
  copy_found rights n to from len (Err c) (Ok y) is e = absurd (cc)
  copy_found rights n to from len (Ok x) (Err d) is e = absurd (cc)
  copy_found rights n to from len (Ok x) (Ok y) is e =
      copied_keeps rights n to x y len (is_constant (slice_get m x.block)) (overlaps x y len) is e

  copy_keeps : (rights : Rights) (n : List MemoryBlock) (to from : Value) (len : ℕ)
      → copy rights m to from len ≡ Ok n → KeepsLength n
  copy_keeps rights n to from zero e = let same : m ≡ n = cc in subst KeepsLength same refl
  copy_keeps rights n to from (suc len) e =
      copy_found rights n to from (suc len) (range rights m to (suc len) 1) (range rights m from (suc len) 1) refl e

-- ---- a step

module _ (c : Context) (w : Work) (b : ℕ) (full : IsFull w.world.memory b) where
  abbrev m : List MemoryBlock
  m = w.world.memory

  abbrev Keeps : List MemoryBlock → Type 0
  Keeps k = KeepsLength m b full k

  abbrev Any : List MemoryBlock → Type 0
  Any k = Unit {0}

  copies_need : (vs : List Value) → CopyNeeds c w Keeps Any vs
  copies_need vs = λ y k e h.
      copy_keeps m b full c.rights k (address (nth vs 0)) (address (nth vs 1)) y.bits h

  module _ (result : Option ℕ) (must_tail : Bool) (ty : Option Ty) (args : List Arg) where
    abbrev NoSlot : Callee → Type 0
    NoSlot callee = HasNoSlot (AtInstr (Instr.Call result must_tail ty callee args))

    intrinsic_needs : (i : Intrinsic) (vs : List Value) → NoSlot (Callee.Intrinsic i)
        → IntrinsicNeeds c w Keeps Any i vs
    intrinsic_needs Intrinsic.LifetimeStart vs s = absurd s
    intrinsic_needs Intrinsic.LifetimeEnd vs s = absurd s
    intrinsic_needs Intrinsic.MemcpyI64 vs s = copies_need vs
    intrinsic_needs Intrinsic.MemcpyI32 vs s = copies_need vs
    intrinsic_needs _ vs s = tt

    allocator_needs : (a : Allocator) (vs : List Value) → NoSlot (Callee.Allocator a)
        → AllocatorNeeds c w Keeps Any a vs
    allocator_needs Allocator.Malloc vs s = absurd s
    allocator_needs Allocator.Znwm vs s = absurd s
    allocator_needs Allocator.Free vs s = λ k e. tt
    allocator_needs Allocator.ZdlPv vs s = λ k e. tt
    allocator_needs Allocator.ZdlPvm vs s = λ k e. tt

    call_needs : (callee : Callee) (vs : List Value) → NoSlot callee → CallNeeds c w Keeps Any callee vs
    call_needs (Callee.Named n) vs s = tt
    call_needs (Callee.Allocator a) vs s = allocator_needs a vs s
    call_needs (Callee.Intrinsic i) vs s = intrinsic_needs i vs s
    call_needs (Callee.Local name) vs s = tt

  here_needs : (here : Fetched) → HasNoSlot here → Needs c w Keeps Any here
  here_needs Nowhere s = tt
  here_needs (AtTerm t) s = tt
  here_needs (AtInstr (Instr.Alloca name ty align)) s = absurd s
  here_needs (AtInstr (Instr.Store arg p align)) s = λ k e.
      store_keeps m b full c.rights k (address (operand_value c.code w.values ptr p))
      (stored (access_of arg.ty) (arg_value c.code w.values arg)) (access_bytes (access_of arg.ty)) align
      (range c.rights m (address (operand_value c.code w.values ptr p)) (access_bytes (access_of arg.ty)) align) refl e
  here_needs (AtInstr (Instr.Call result must_tail ty callee args)) s =
      call_needs result must_tail ty args callee (arg_values c.code w.values args) s
  here_needs (AtInstr _) s = tt

  pub lengths_left : (here : Fetched) → HasNoSlot here → Comes Keeps Any m (action_of c w here)
  lengths_left here s = step_ends c w Keeps Any refl here (here_needs here s)
