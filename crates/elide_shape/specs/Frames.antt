-- The values that are the frame's address, and what rets give.
use Rattle.std.specs.Prelude.{ℕ, Bool, true, false, List, [], flat_map, Some, None, Option, ◌||◌, ◌∷◌, if◌then◌else◌}
use Rattle.std.specs.List.{list_all, list_any}
use Rattle.ir_model.specs.Names.{is_local}
use Rattle.ir_model.specs.declared.instr.Instr.{Instr}
use Rattle.ir_model.specs.declared.instr.Terminator.{Terminator}
use Rattle.ir_model.specs.declared.module.Block.{Block}
use Rattle.ir_model.specs.declared.module.Function.{Function}
use Rattle.ir_model.specs.declared.operand.Intrinsic.{Intrinsic}
use Rattle.ir_model.specs.declared.operand.Operand.{Operand}
use Rattle.ir_paths.specs.Windows.{call_result, is_call_of}

abbrev pub is_frame_call : Instr → Bool
is_frame_call i = is_call_of Intrinsic.CoroBegin i || is_call_of Intrinsic.CoroFrame i

abbrev pub local_if : Option ℕ → List Operand
local_if None = []
local_if (Some v) = Operand.Local v ∷ []

-- the value of a call of begin or coro.frame
abbrev pub frame_value : Instr → List Operand
frame_value i = if is_frame_call i then local_if (call_result i) else []

-- what all instructions of a function give in one way or another
abbrev pub all_from : (Instr → List Operand) → List Block → List Operand
all_from chosen bs = flat_map (λ b. flat_map chosen b.instrs) bs

-- begin's value, and those of coro.frame
abbrev pub frame_values : Function → List Operand
frame_values f = all_from frame_value f.blocks

abbrev pub is_frame : Function → Operand → Bool
is_frame f (Operand.Local v) = list_any (is_local v) (frame_values f)
is_frame f _ = false

abbrev pub returns_frame : Function → Terminator → Bool
returns_frame f (Terminator.Ret None) = false
returns_frame f (Terminator.Ret (Some a)) = is_frame f a.value
returns_frame f _ = true

-- each ret gives begin's value or a coro.frame's
abbrev pub rets_give_frame : Function → Bool
rets_give_frame f = list_all (λ b. returns_frame f b.term) f.blocks
