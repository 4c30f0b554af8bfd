-- How many steps of the framed form one step of the coroutine with blocks on edges costs, by the code of both.
use Rattle.std.specs.Prelude.{ℕ, ◌+◌, ◌-◌, length, filter, Some, None, Option}
use Rattle.pass_proofs.specs.ir_paths.declared.point.Point.{Point}
use Rattle.pass_proofs.specs.pass_front.Front.{is_alloca}
use Rattle.pass_frames_code.specs.Passes.{block_at}
use Rattle.pass_frames_code.specs.Places.{Framing, alloca_place, framed, instrs_at, place}

-- the instructions of a block of the framed form, and its terminator
abbrev pub whole : Framing → ℕ → ℕ
whole x block = length (block_at (framed x) block).instrs + 1

-- what stands from the place of a point to the place behind it
abbrev pub instr_cost : Framing → Point → ℕ
instr_cost x p = (place x (record { block = p.block; at = p.at + 1 })).at - (place x p).at

-- what stands behind the last instruction, the terminator, and the front of the block to which it leads
abbrev pub jump_cost : Framing → ℕ → ℕ → ℕ
jump_cost x block target =
    whole x block - (place x (record { block = block; at = length (instrs_at x block) })).at
    + (place x (record { block = target; at = 0 })).at

-- the front of the entry, which a call of the ramp executes
abbrev pub call_cost : Framing → ℕ
call_cost x = (place x (record { block = 0; at = 0 })).at

-- the allocas before the first one that is made anew, or all of them
abbrev pub allocas_before : Framing → Option ℕ → ℕ
allocas_before x (Some at) = (alloca_place x at).at
allocas_before x None = length (filter is_alloca (block_at (framed x) 0).instrs)

-- a resume: its own step, and the allocas before the first one that is made anew
abbrev pub resume_cost : Framing → Option ℕ → ℕ
resume_cost x first = 1 + allocas_before x first

-- an alloca that is made anew, and those up to the next one
abbrev pub slot_cost : Framing → ℕ → Option ℕ → ℕ
slot_cost x at next = allocas_before x next - (alloca_place x at).at
