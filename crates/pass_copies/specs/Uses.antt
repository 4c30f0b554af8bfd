-- Slots that are used before begin.
use Rattle.std.specs.Prelude.{ℕ, Bool, true, false, List, [], length, replicate, slice_get, slice_set, unwrap_or, ◌∷◌, if◌then◌else◌}
use Rattle.ir_model.specs.declared.instr.Instr.{Instr}
use Rattle.ir_model.specs.declared.module.Block.{Block}
use Rattle.ir_model.specs.declared.module.Function.{Function}
use Rattle.ir_model.specs.declared.operand.Arg.{Arg}
use Rattle.ir_model.specs.declared.operand.Callee.{Callee}
use Rattle.ir_model.specs.declared.operand.Intrinsic.{Intrinsic}
use Rattle.ir_model.specs.declared.operand.Operand.{Operand}

abbrev pub flag_at : List Bool → ℕ → Bool
flag_at flags n = unwrap_or (slice_get flags n) false

abbrev pub is_begin : Instr → Bool
is_begin (Instr.Call result must_tail ty (Callee.Intrinsic Intrinsic.CoroBegin) args) = true
is_begin _ = false

-- whether an instruction loads, stores or copies
abbrev pub is_access : Instr → Bool
is_access (Instr.Load result ty address align) = true
is_access (Instr.Store arg address align) = true
is_access (Instr.Call result must_tail ty (Callee.Intrinsic Intrinsic.MemcpyI64) args) = true
is_access (Instr.Call result must_tail ty (Callee.Intrinsic Intrinsic.MemcpyI32) args) = true
is_access _ = false

-- whether the point behind an instruction is before begin, where that of the instruction is
abbrev pub still_before : Bool → Instr → Bool
still_before is_before i = if is_begin i then false else is_before

-- ---- for each name whether it is a slot that is used before begin

abbrev pub mark : List Bool → List Bool → ℕ → List Bool
mark slots used n = if flag_at slots n then slice_set used n true else used

abbrev pub mark_operand : List Bool → List Bool → Operand → List Bool
mark_operand slots used (Operand.Local n) = mark slots used n
mark_operand slots used _ = used

abbrev pub mark_args : List Bool → List Bool → List Arg → List Bool
mark_args slots used [] = used
mark_args slots used (a ∷ args) = mark_args slots (mark_operand slots used a.value) args

-- the addresses that an instruction accesses
abbrev pub mark_addresses : List Bool → List Bool → Instr → List Bool
mark_addresses slots used (Instr.Load result ty address align) = mark_operand slots used address
mark_addresses slots used (Instr.Store arg address align) = mark_operand slots used address
mark_addresses slots used (Instr.Call result must_tail ty (Callee.Intrinsic Intrinsic.MemcpyI64) args) = mark_args slots used args
mark_addresses slots used (Instr.Call result must_tail ty (Callee.Intrinsic Intrinsic.MemcpyI32) args) = mark_args slots used args
mark_addresses slots used _ = used

abbrev pub mark_instr : List Bool → Bool → List Bool → Instr → List Bool
mark_instr slots is_before used i = if is_before then mark_addresses slots used i else used

abbrev pub mark_instrs : List Bool → Bool → List Bool → List Instr → List Bool
mark_instrs slots is_before used [] = used
mark_instrs slots is_before used (i ∷ is) = mark_instrs slots (still_before is_before i) (mark_instr slots is_before used i) is

-- before says of each label whether the front of its block is before begin
abbrev pub mark_blocks : List Bool → List Bool → List Bool → List Block → List Bool
mark_blocks slots before used [] = used
mark_blocks slots before used (b ∷ bs) = mark_blocks slots before (mark_instrs slots (flag_at before b.label) used b.instrs) bs

abbrev pub used_before : Function → List Bool → List Bool → List Bool
used_before f slots before = mark_blocks slots before (replicate (length f.names) false) f.blocks
