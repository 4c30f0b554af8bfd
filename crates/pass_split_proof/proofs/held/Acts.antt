-- What an instruction makes of memory: blocks of allocators that live and are owned stay so.
use Rattle.std.proofs.Common.{◌≡◌, ℕ, Bool, true, false, List, length, Option, None, Some, refl, ap, ◌∙◌}
use Rattle.std.specs.Prelude.{slice_get, if◌then◌else◌}
use Rattle.pass_proofs.specs.ir_base.declared.cause.Cause.{Cause}
use Rattle.pass_proofs.specs.ir_model.Layout.{size_of}
use Rattle.pass_proofs.specs.ir_model.Ty.{Ty}
use Rattle.pass_proofs.specs.ir_model.declared.instr.Instr.{Instr}
use Rattle.pass_proofs.specs.ir_model.declared.module.Function.{Function}
use Rattle.pass_proofs.specs.ir_model.declared.operand.Allocator.{Allocator}
use Rattle.pass_proofs.specs.ir_model.declared.operand.Arg.{Arg}
use Rattle.pass_proofs.specs.ir_model.declared.operand.Callee.{Callee}
use Rattle.pass_proofs.specs.ir_model.declared.operand.Intrinsic.{Intrinsic}
use Rattle.pass_split_proof.proofs.held.Memory.{Keeps, ended_kind, get_last, keeps_more, keeps_no_heap, keeps_refilled, keeps_same, keeps_then, longer_by_one, no_heap_on, started_kind}
use Rattle.pass_split_proof.specs.held.Kept.{IsNoHeap, MarksNoHeap, is_heap_in}
use Rattle.pass_proofs.specs.run_framed.Framed.{FramedGiven, framed_context}
use Rattle.pass_proofs.proofs.run_laws.access.Reading.{as_many}
use Rattle.pass_proofs.proofs.run_laws.embedded.Refills.{step_only}
use Rattle.pass_proofs.specs.run_laws.embedded.Refilled.{OnlyRefills}
use Rattle.pass_proofs.specs.run_memory.Memory.{end, ended, fresh, same_kind, start, started}
use Rattle.pass_proofs.specs.run_memory.declared.block.Kind.{Kind}
use Rattle.pass_proofs.specs.run_memory.declared.block.MemoryBlock.{MemoryBlock}
use Rattle.pass_proofs.specs.run_memory.declared.pointer.Value.{Value}
use Rattle.pass_proofs.specs.run_source.State.{work_of}
use Rattle.pass_proofs.specs.run_source.declared.state.State.{State}
use Rattle.pass_proofs.specs.run_step.Step.{Action, AtInstr, AtTerm, Context, Done, Fetched, NewSlot, Nowhere, Stuck, Work, action_of, alloca, alloca_kind, allocated, block_of, has_markers, instr_action, is_alignment, on_block, with_length}
use Rattle.pass_proofs.specs.run_step.Values.{arg_values, nth}

-- what is done keeps them, and a new slot is no allocator's block
abbrev pub ActsKept : List MemoryBlock → Action → Type 0
ActsKept m (Done w) = Keeps m w.world.memory
ActsKept m (NewSlot w slot) = Keeps m w.world.memory × IsNoHeap w.world.memory slot.block
ActsKept m _ = Unit {0}

refills : (m : List MemoryBlock) (a : Action) → OnlyRefills m a → ActsKept m a
refills m (Done w) r = keeps_refilled m w.world.memory (as_many m w.world.memory r) r
refills m (NewSlot w slot) r = absurd r
refills m _ r = tt

-- ---- a new block

same_alloca : (f : Function) → same_kind (alloca_kind f) Kind.Allocator ≡ false
same_alloca f = on f.coroutine
  where
    on : (c : Bool) → same_kind (if c then Kind.Slot else Kind.Stack) Kind.Allocator ≡ false
    on true = refl
    on false = refl

module _ (c : Context) (w : Work) where
  abbrev m : List MemoryBlock
  m = w.world.memory

  module _ (size align : ℕ) where
    abbrev made : List MemoryBlock
    made = fresh m size align (alloca_kind c.function)

    no_heap_made : IsNoHeap made (length m)
    no_heap_made = record {
      known = longer_by_one m _;
      is = ap is_heap_in (get_last m _) ∙ same_alloca c.function;
    }

    marked_kept : Keeps made (end made (length m))
    marked_kept = keeps_no_heap made (length m) ended no_heap_made.is ended_kind

    slot_kept : (name : ℕ) (marked : Bool) → Keeps m (if marked then end made (length m) else made)
        × IsNoHeap (if marked then end made (length m) else made) (length m)
    slot_kept name true = (
      keeps_then m made (end made (length m)) (keeps_more m _) marked_kept,
      no_heap_on made (end made (length m)) (length m) marked_kept no_heap_made,
    )
    slot_kept name false = (keeps_more m _, no_heap_made)

    alloca_kept : (name : ℕ) (ok : Bool) → ActsKept m (if ok then alloca c w name size align else Stuck Cause.Align)
    alloca_kept name true = slot_kept name (has_markers c.function name)
    alloca_kept name false = tt

  allocated_kept : (result : Option ℕ) (v : Value)
      → ActsKept m (with_length v (λ (n : ℕ). Done (allocated w result n)))
  allocated_kept result (Value.Int n) = keeps_more m _
  allocated_kept result Value.Poison = tt
  allocated_kept result (Value.Ptr p) = tt

  -- markers
  started_kept : (o : Option ℕ) → ((b : ℕ) → o ≡ Some b → is_heap_in (slice_get m b) ≡ false)
      → Keeps m (on_block start m o)
  started_kept None h = keeps_same m
  started_kept (Some b) h = keeps_no_heap m b started (h b refl) started_kind

  ended_kept : (o : Option ℕ) → ((b : ℕ) → o ≡ Some b → is_heap_in (slice_get m b) ≡ false)
      → Keeps m (on_block end m o)
  ended_kept None h = keeps_same m
  ended_kept (Some b) h = keeps_no_heap m b ended (h b refl) ended_kind

module _ (g : FramedGiven) (s : State) where
  abbrev c : Context
  c = framed_context g s

  abbrev w : Work
  w = work_of s

  intrinsic_acts : (result : Option ℕ) (must_tail : Bool) (ty : Option Ty) (i : Intrinsic) (args : List Arg)
      → MarksNoHeap g s (AtInstr (Instr.Call result must_tail ty (Callee.Intrinsic i) args))
      → ActsKept s.world.memory (instr_action c w (Instr.Call result must_tail ty (Callee.Intrinsic i) args))
  intrinsic_acts result must_tail ty Intrinsic.LifetimeStart args h
      = started_kept c w (block_of (nth (arg_values g.given.code s.top.values args) 1)) (h refl)
  intrinsic_acts result must_tail ty Intrinsic.LifetimeEnd args h
      = ended_kept c w (block_of (nth (arg_values g.given.code s.top.values args) 1)) (h refl)
  intrinsic_acts result must_tail ty Intrinsic.MemcpyI64 args h = refills s.world.memory
      (instr_action c w (Instr.Call result must_tail ty (Callee.Intrinsic Intrinsic.MemcpyI64) args))
      (step_only c w (AtInstr (Instr.Call result must_tail ty (Callee.Intrinsic Intrinsic.MemcpyI64) args)) tt)
  intrinsic_acts result must_tail ty Intrinsic.MemcpyI32 args h = refills s.world.memory
      (instr_action c w (Instr.Call result must_tail ty (Callee.Intrinsic Intrinsic.MemcpyI32) args))
      (step_only c w (AtInstr (Instr.Call result must_tail ty (Callee.Intrinsic Intrinsic.MemcpyI32) args)) tt)
  intrinsic_acts result must_tail ty _ args h = tt

  call_acts : (result : Option ℕ) (must_tail : Bool) (ty : Option Ty) (callee : Callee) (args : List Arg)
      → MarksNoHeap g s (AtInstr (Instr.Call result must_tail ty callee args))
      → ActsKept s.world.memory (instr_action c w (Instr.Call result must_tail ty callee args))
  call_acts result must_tail ty (Callee.Named n) args h = refills s.world.memory
      (instr_action c w (Instr.Call result must_tail ty (Callee.Named n) args))
      (step_only c w (AtInstr (Instr.Call result must_tail ty (Callee.Named n) args)) tt)
  call_acts result must_tail ty (Callee.Allocator Allocator.Malloc) args h
      = allocated_kept c w result (nth (arg_values g.given.code s.top.values args) 0)
  call_acts result must_tail ty (Callee.Allocator Allocator.Znwm) args h
      = allocated_kept c w result (nth (arg_values g.given.code s.top.values args) 0)
  call_acts result must_tail ty (Callee.Allocator Allocator.Free) args h = tt
  call_acts result must_tail ty (Callee.Allocator Allocator.ZdlPv) args h = tt
  call_acts result must_tail ty (Callee.Allocator Allocator.ZdlPvm) args h = tt
  call_acts result must_tail ty (Callee.Intrinsic i) args h = intrinsic_acts result must_tail ty i args h
  call_acts result must_tail ty (Callee.Local name) args h = refills s.world.memory
      (instr_action c w (Instr.Call result must_tail ty (Callee.Local name) args))
      (step_only c w (AtInstr (Instr.Call result must_tail ty (Callee.Local name) args)) tt)

  instr_acts : (i : Instr) → MarksNoHeap g s (AtInstr i) → ActsKept s.world.memory (instr_action c w i)
  instr_acts (Instr.Binary name op flags ty a b) h
      = refills s.world.memory (instr_action c w (Instr.Binary name op flags ty a b))
      (step_only c w (AtInstr (Instr.Binary name op flags ty a b)) tt)
  instr_acts (Instr.Icmp name pred ty a b) h = refills s.world.memory (instr_action c w (Instr.Icmp name pred ty a b))
      (step_only c w (AtInstr (Instr.Icmp name pred ty a b)) tt)
  instr_acts (Instr.Select name x a b) h = refills s.world.memory (instr_action c w (Instr.Select name x a b))
      (step_only c w (AtInstr (Instr.Select name x a b)) tt)
  instr_acts (Instr.Cast name op nneg arg to) h
      = refills s.world.memory (instr_action c w (Instr.Cast name op nneg arg to))
      (step_only c w (AtInstr (Instr.Cast name op nneg arg to)) tt)
  instr_acts (Instr.Alloca name ty align) h
      = alloca_kept c w (size_of g.given.code ty) align name (is_alignment align)
  instr_acts (Instr.Load name ty p align) h = refills s.world.memory (instr_action c w (Instr.Load name ty p align))
      (step_only c w (AtInstr (Instr.Load name ty p align)) tt)
  instr_acts (Instr.Store arg p align) h = refills s.world.memory (instr_action c w (Instr.Store arg p align))
      (step_only c w (AtInstr (Instr.Store arg p align)) tt)
  instr_acts (Instr.Gep name inbounds ty base indices) h
      = refills s.world.memory (instr_action c w (Instr.Gep name inbounds ty base indices))
      (step_only c w (AtInstr (Instr.Gep name inbounds ty base indices)) tt)
  instr_acts (Instr.Call result must_tail ty callee args) h = call_acts result must_tail ty callee args h

  pub acts : (here : Fetched) → MarksNoHeap g s here → ActsKept s.world.memory (action_of c w here)
  acts Nowhere h = tt
  acts (AtInstr i) h = instr_acts i h
  acts (AtTerm t) h = refills s.world.memory (action_of c w (AtTerm t)) (step_only c w (AtTerm t) tt)
