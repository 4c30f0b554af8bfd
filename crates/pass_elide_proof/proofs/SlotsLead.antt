-- Slots of activations lead to blocks that there are. Each step of a framed run keeps that.
use Rattle.std.proofs.Common.{◌≡◌, ◌<◌, ◌≤◌, ℕ, Bool, true, false, List, [], ◌∷◌, length, Option, arith, if◌then◌else◌, length-append}
use Rattle.std.specs.Prelude.{None, Some}
use Rattle.pass_elide_proof.proofs.ChangedBoth.{changed_many}
use Rattle.pass_elide_proof.specs.Making.{HasSlotsIn}
use Rattle.pass_proofs.proofs.run_laws.access.Reading.{as_many}
use Rattle.pass_proofs.proofs.run_laws.access.Walk.{AllocatorNeeds, CallNeeds, Comes, CopyNeeds, IntrinsicNeeds, Needs, step_ends}
use Rattle.pass_proofs.proofs.run_laws.embedded.Memories.{copy_refills, store_refills}
use Rattle.pass_proofs.specs.ir_model.Layout.{size_of}
use Rattle.pass_proofs.specs.ir_model.Ty.{ptr}
use Rattle.pass_proofs.specs.ir_model.declared.instr.Instr.{Instr}
use Rattle.pass_proofs.specs.ir_model.declared.operand.Allocator.{Allocator}
use Rattle.pass_proofs.specs.ir_model.declared.operand.Callee.{Callee}
use Rattle.pass_proofs.specs.ir_model.declared.operand.Intrinsic.{Intrinsic}
use Rattle.pass_proofs.specs.run_laws.changed.Changed.{Each}
use Rattle.pass_proofs.specs.run_laws.memory.Standing.{blank_block}
use Rattle.pass_proofs.specs.run_memory.Memory.{end, ended, fresh, started, with_block}
use Rattle.pass_proofs.specs.run_memory.declared.block.Kind.{Kind}
use Rattle.pass_proofs.specs.run_memory.declared.block.MemoryBlock.{MemoryBlock}
use Rattle.pass_proofs.specs.run_memory.declared.pointer.Value.{Value}
use Rattle.pass_proofs.specs.run_source.declared.state.Activation.{Activation}
use Rattle.pass_proofs.specs.run_step.Step.{AtInstr, AtTerm, Context, Fetched, Nowhere, Work, action_of, alloca_kind, block_of, has_markers, on_block}
use Rattle.pass_proofs.specs.run_step.Values.{access_of, address, arg_value, arg_values, nth, operand_value, stored}
use Rattle.pass_proofs.specs.run_step.declared.world.Slot.{Slot}

-- ---- more blocks

abbrev pub IsAsWide : List MemoryBlock → List MemoryBlock → Type 0
IsAsWide m k = length m ≤ length k

at_least : (a b c : ℕ) → a < b → b ≤ c → a < c
at_least a b c lt le = omega (arith, lt, le)

wider : (m k : List MemoryBlock) → IsAsWide m k → (ss : List Slot) → Each (λ (z : Slot). z.block < length m) ss
    → Each (λ (z : Slot). z.block < length k) ss
wider m k le [] h = tt
wider m k le (z ∷ ss) h = (at_least z.block (length m) (length k) h.0 le, wider m k le ss h.1)

pub all_wider : (m k : List MemoryBlock) → IsAsWide m k → (bs : List Activation) → Each (HasSlotsIn m) bs
    → Each (HasSlotsIn k) bs
all_wider m k le [] h = tt
all_wider m k le (b ∷ bs) h = (wider m k le b.slots h.0, all_wider m k le bs h.1)

-- ---- what a step leaves of the memory

changed_wide : (m : List MemoryBlock) (b : ℕ) (f : MemoryBlock → MemoryBlock) → IsAsWide m (with_block m b f)
changed_wide m b f = let many = changed_many m b f in omega (arith, many)

fresh_wide : (m : List MemoryBlock) (size align : ℕ) (kind : Kind) → IsAsWide m (fresh m size align kind)
fresh_wide m size align kind = let long = length-append m (blank_block size align kind ∷ []) in omega (arith, long)

same_wide : (m k : List MemoryBlock) → length k ≡ length m → IsAsWide m k
same_wide m k many = omega (arith, many)

marked_wide : (f : MemoryBlock → MemoryBlock) (m : List MemoryBlock) (o : Option ℕ)
    → IsAsWide m (on_block (λ k b. with_block k b f) m o)
marked_wide f m None = omega arith
marked_wide f m (Some b) = changed_wide m b f

slot_wide : (m : List MemoryBlock) (size align : ℕ) (kind : Kind) (t : Bool)
    → IsAsWide m (if t then end (fresh m size align kind) (length m) else fresh m size align kind)
slot_wide m size align kind false = fresh_wide m size align kind
slot_wide m size align kind true =
    let wide = fresh_wide m size align kind in
    let many = changed_many (fresh m size align kind) (length m) ended in
    omega (arith, wide, many)

module _ (c : Context) (w : Work) where
  abbrev m : List MemoryBlock
  m = w.world.memory

  abbrev Any : List MemoryBlock → Type 0
  Any k = Unit {0}

  copies_need : (vs : List Value) → CopyNeeds c w (IsAsWide w.world.memory) Any vs
  copies_need vs = λ y k e h.
      same_wide m k (as_many m k (copy_refills c.rights m k (address (nth vs 0)) (address (nth vs 1)) y.bits h))

  intrinsic_needs : (i : Intrinsic) (vs : List Value) → IntrinsicNeeds c w (IsAsWide w.world.memory) Any i vs
  intrinsic_needs Intrinsic.LifetimeStart vs = marked_wide started m (block_of (nth vs 1))
  intrinsic_needs Intrinsic.LifetimeEnd vs = marked_wide ended m (block_of (nth vs 1))
  intrinsic_needs Intrinsic.MemcpyI64 vs = copies_need vs
  intrinsic_needs Intrinsic.MemcpyI32 vs = copies_need vs
  intrinsic_needs _ vs = tt

  allocator_needs : (a : Allocator) (vs : List Value) → AllocatorNeeds c w (IsAsWide w.world.memory) Any a vs
  allocator_needs Allocator.Malloc vs = λ n. fresh_wide m n 16 Kind.Allocator
  allocator_needs Allocator.Znwm vs = λ n. fresh_wide m n 16 Kind.Allocator
  allocator_needs Allocator.Free vs = λ k e. tt
  allocator_needs Allocator.ZdlPv vs = λ k e. tt
  allocator_needs Allocator.ZdlPvm vs = λ k e. tt

  call_needs : (callee : Callee) (vs : List Value) → CallNeeds c w (IsAsWide w.world.memory) Any callee vs
  call_needs (Callee.Named n) vs = tt
  call_needs (Callee.Allocator a) vs = allocator_needs a vs
  call_needs (Callee.Intrinsic i) vs = intrinsic_needs i vs
  call_needs (Callee.Local name) vs = tt

  here_needs : (here : Fetched) → Needs c w (IsAsWide w.world.memory) Any here
  here_needs Nowhere = tt
  here_needs (AtTerm t) = tt
  here_needs (AtInstr (Instr.Alloca name ty align)) =
      slot_wide m (size_of c.code ty) align (alloca_kind c.function) (has_markers c.function name)
  here_needs (AtInstr (Instr.Store arg p align)) = λ k e.
      same_wide m k (as_many m k (store_refills c.rights m k (address (operand_value c.code w.values ptr p))
      (stored (access_of arg.ty) (arg_value c.code w.values arg)) (access_of arg.ty) align e))
  here_needs (AtInstr (Instr.Call result must_tail ty callee args)) =
      call_needs callee (arg_values c.code w.values args)
  here_needs (AtInstr _) = tt

  pub memory_wider : (here : Fetched) → Comes (IsAsWide w.world.memory) Any w.world.memory (action_of c w here)
  memory_wider here = step_ends c w (IsAsWide w.world.memory) Any (omega arith) here (here_needs here)
