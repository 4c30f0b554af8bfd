-- The framed run that is undefined too where a coroutine whose calls may give its frame begins in a block of another size
-- than the frame's. No run of a source's framed form comes there.
use Rattle.std.specs.Prelude.{◌≡◌, ◌==◌, ◌||◌, not, ◌&&◌, ℕ, Bool, true, false, List, slice_get, Some, None, Option}
use Rattle.pass_elide_apart.specs.pass_elide_proof.Checked.{checked_run}
use Rattle.pass_elide_apart.specs.pass_elide_proof.Elision.{Elision, function_in}
use Rattle.pass_elide_apart.specs.pass_elide_proof.Match.{frame_size}
use Rattle.pass_elide_apart.specs.pass_elide_proof.Places.{instrs_of}
use Rattle.pass_elide_apart.specs.pass_elide_proof.Placing.{HasShape}
use Rattle.pass_elide_apart.specs.pass_proofs.ir_base.declared.outcome.Word.{Word}
use Rattle.pass_elide_apart.specs.pass_proofs.ir_model.declared.instr.Instr.{Instr}
use Rattle.pass_elide_apart.specs.pass_proofs.ir_model.declared.operand.Callee.{Callee}
use Rattle.pass_elide_apart.specs.pass_proofs.ir_model.declared.operand.Intrinsic.{Intrinsic}
use Rattle.pass_elide_apart.specs.pass_proofs.run_agreement.Machines.{Machine}
use Rattle.pass_elide_apart.specs.pass_proofs.run_memory.declared.block.MemoryBlock.{MemoryBlock}
use Rattle.pass_elide_apart.specs.pass_proofs.run_memory.declared.pointer.Pointer.{Pointer}
use Rattle.pass_elide_apart.specs.pass_proofs.run_memory.declared.pointer.Value.{Value}
use Rattle.pass_elide_apart.specs.pass_proofs.run_source.declared.state.Mode.{Mode}
use Rattle.pass_elide_apart.specs.pass_proofs.run_source.declared.state.State.{State}
use Rattle.pass_elide_apart.specs.pass_proofs.run_step.Values.{arg_values, nth}

-- a block, if it is one, has the size
abbrev pub has_size : ℕ → Option MemoryBlock → Bool
has_size size None = true
has_size size (Some z) = z.size == size

-- an address in a block leads to one of the frame's size
abbrev pub leads_to_frame_size : Elision → State → Value → Bool
leads_to_frame_size e s (Value.Ptr (Pointer.At block offset)) =
    has_size (frame_size e s.top.func) (slice_get s.world.memory block)
leads_to_frame_size e s _ = true

-- begin's memory does, if the instruction is one
abbrev pub begins_exactly : Elision → State → Option Instr → Bool
begins_exactly e s (Some (Instr.Call result must_tail ty (Callee.Intrinsic Intrinsic.CoroBegin) args)) =
    leads_to_frame_size e s (nth (arg_values e.code s.top.values args) 1)
begins_exactly e s _ = true

abbrev pub is_ramp : Mode → Bool
is_ramp Mode.Ramp = true
is_ramp _ = false

-- ramps of the callees begin in blocks of their frame's size
abbrev pub is_exact : Elision → (ℕ → Bool) → State → Bool
is_exact e callees s =
    not (is_ramp s.top.mode && callees s.top.func)
    || begins_exactly e s (slice_get (instrs_of (function_in e s.top.func) s.top.block) s.top.at)

-- each function that has a shape is among the callees
abbrev pub CoversShapes : Elision → (ℕ → Bool) → Type 0
CoversShapes e callees = (func : ℕ) → HasShape e func → callees func ≡ true

abbrev pub exact_run : Elision → (ℕ → Bool) → ℕ → List Word → Machine State
exact_run e callees entry args = checked_run e (is_exact e callees) entry args
