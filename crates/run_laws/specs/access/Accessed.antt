-- The blocks that an ordinary step accesses: it reads or writes bytes of them, makes, starts, ends or kills them.
use Rattle.std.specs.Prelude.{ℕ, zero, suc, List, [], map, length, Some, None, Option, ◌∷◌, ◌++◌}
use Rattle.run_memory.specs.Memory.{access_bytes}
use Rattle.run_memory.specs.declared.block.MemoryBlock.{MemoryBlock}
use Rattle.run_memory.specs.declared.pointer.Pointer.{Pointer}
use Rattle.run_memory.specs.declared.pointer.Value.{Value}
use Rattle.ir_model.specs.Ty.{ptr}
use Rattle.ir_model.specs.declared.instr.Instr.{Instr}
use Rattle.ir_model.specs.declared.operand.Allocator.{Allocator}
use Rattle.ir_model.specs.declared.operand.Callee.{Callee}
use Rattle.ir_model.specs.declared.operand.Intrinsic.{Intrinsic}
use Rattle.run_step.specs.Step.{AtInstr, AtTerm, Context, Fetched, Nowhere, Work, block_of, value_at}
use Rattle.run_step.specs.Values.{access_of, address, arg_values, nth}
use Rattle.run_step.specs.declared.world.Slot.{Slot}

-- ---- blocks

abbrev pub as_list : {A : Type 0} → Option A → List A
as_list None = []
as_list (Some a) = a ∷ []

-- the block into which a pointer leads
abbrev pub led_into : Value → List ℕ
led_into v = as_list (block_of v)

-- what a copy of a length concerns
abbrev pub of_length : {A : Type 0} → Value → (ℕ → List A) → List A
of_length (Value.Int n) f = f n.bits
of_length Value.Poison f = []
of_length (Value.Ptr p) f = []

-- a copy of no bytes accesses nothing
abbrev pub by_copy : (to from : Value) → ℕ → List ℕ
by_copy to from zero = []
by_copy to from (suc n) = led_into to ++ led_into from

abbrev pub copy_accesses : List Value → List ℕ
copy_accesses vs = of_length (nth vs 2) (by_copy (address (nth vs 0)) (address (nth vs 1)))

-- a new block has the next number
abbrev pub allocator_accesses : Allocator → List MemoryBlock → List Value → List ℕ
allocator_accesses Allocator.Malloc m vs = length m ∷ []
allocator_accesses Allocator.Znwm m vs = length m ∷ []
allocator_accesses Allocator.Free m vs = led_into (address (nth vs 0))
allocator_accesses Allocator.ZdlPv m vs = led_into (address (nth vs 0))
allocator_accesses Allocator.ZdlPvm m vs = led_into (address (nth vs 0))

abbrev pub intrinsic_accesses : Intrinsic → List Value → List ℕ
intrinsic_accesses Intrinsic.LifetimeStart vs = led_into (nth vs 1)
intrinsic_accesses Intrinsic.LifetimeEnd vs = led_into (nth vs 1)
intrinsic_accesses Intrinsic.MemcpyI64 vs = copy_accesses vs
intrinsic_accesses Intrinsic.MemcpyI32 vs = copy_accesses vs
intrinsic_accesses _ vs = []

abbrev pub call_accesses : Callee → List MemoryBlock → List Value → List ℕ
call_accesses (Callee.Named n) m vs = []
call_accesses (Callee.Allocator a) m vs = allocator_accesses a m vs
call_accesses (Callee.Intrinsic i) m vs = intrinsic_accesses i vs
call_accesses (Callee.Local name) m vs = []

abbrev pub instr_accesses : Context → Work → Instr → List ℕ
instr_accesses c w (Instr.Alloca name ty align) = length w.world.memory ∷ []
instr_accesses c w (Instr.Load name ty p align) = led_into (address (value_at c w ptr p))
instr_accesses c w (Instr.Store arg p align) = led_into (address (value_at c w ptr p))
instr_accesses c w (Instr.Call result must_tail ty callee args) = call_accesses callee w.world.memory (arg_values c.code w.values args)
instr_accesses c w _ = []

-- the blocks that the step at a place accesses
abbrev pub accessed : Context → Work → Fetched → List ℕ
accessed c w Nowhere = []
accessed c w (AtInstr i) = instr_accesses c w i
accessed c w (AtTerm t) = []

-- those that a return kills
abbrev pub slot_blocks : List Slot → List ℕ
slot_blocks slots = map (λ s. s.block) slots

-- ---- bytes

-- so many bytes of a block, from an offset on
pub record Span : Type 0 where
  pub block : ℕ
  pub offset : ℕ
  pub len : ℕ

-- the bytes from where a pointer leads to
abbrev pub span_at : Value → ℕ → List Span
span_at (Value.Ptr (Pointer.At b o)) len = record { block = b; offset = o.bits; len = len } ∷ []
span_at _ len = []

abbrev pub copy_span : Value → ℕ → List Span
copy_span to zero = []
copy_span to (suc n) = span_at to (suc n)

abbrev pub copy_writes : List Value → List Span
copy_writes vs = of_length (nth vs 2) (copy_span (address (nth vs 0)))

abbrev pub call_writes : Callee → List Value → List Span
call_writes (Callee.Intrinsic Intrinsic.MemcpyI64) vs = copy_writes vs
call_writes (Callee.Intrinsic Intrinsic.MemcpyI32) vs = copy_writes vs
call_writes _ vs = []

-- the bytes that the step at a place writes, where it makes, marks and allocates no block
abbrev pub writes : Context → Work → Fetched → List Span
writes c w (AtInstr (Instr.Store arg p align)) = span_at (address (value_at c w ptr p)) (access_bytes (access_of arg.ty))
writes c w (AtInstr (Instr.Call result must_tail ty callee args)) = call_writes callee (arg_values c.code w.values args)
writes c w _ = []
