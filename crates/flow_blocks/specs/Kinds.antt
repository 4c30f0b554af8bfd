-- The kinds of edges.
use Rattle.std.specs.Prelude.{ℕ, zero, suc, Bool, false, List, length, slice_get, Some, None, Option, option_and_then, ◌-◌, if◌then◌else◌}
use Rattle.flow_blocks.specs.declared.kinds.EdgeKind.{EdgeKind}
use Rattle.ir_model.specs.Calls.{result_of_call}
use Rattle.ir_model.specs.Names.{is_local}
use Rattle.ir_model.specs.declared.instr.Case.{Case}
use Rattle.ir_model.specs.declared.instr.Instr.{Instr}
use Rattle.ir_model.specs.declared.instr.Terminator.{Terminator}
use Rattle.ir_model.specs.declared.module.Block.{Block}
use Rattle.ir_model.specs.declared.module.Function.{Function}
use Rattle.ir_model.specs.declared.operand.Intrinsic.{Intrinsic}
use Rattle.ir_model.specs.declared.operand.Operand.{Operand}
use Rattle.run_step.specs.ir_paths.Windows.{is_number}

-- what the suspend gives that is the last instruction
abbrev pub suspended : List Instr → Option ℕ
suspended instrs = option_and_then (result_of_call Intrinsic.CoroSuspend) (slice_get instrs (length instrs - 1))

abbrev pub is_value : Option ℕ → Operand → Bool
is_value None x = false
is_value (Some v) x = is_local v x

-- the kind of a case's edge, if the switch is a suspend's
abbrev pub kind_of_case : Option Case → EdgeKind
kind_of_case None = EdgeKind.Ordinary
kind_of_case (Some k) =
    if is_number 0 k.arg.value then EdgeKind.Resume
    else if is_number 1 k.arg.value then EdgeKind.Destroy
    else EdgeKind.Ordinary

abbrev pub kind_at : List Case → ℕ → EdgeKind
kind_at cases zero = EdgeKind.Stop
kind_at cases (suc at) = kind_of_case (slice_get cases at)

-- of a switch on what a suspend gives the default edge is the stop edge, and those of 0 and 1 are the resume and the
-- destroy edge; each other edge is ordinary
abbrev pub kind_of_ending : Option ℕ → Terminator → ℕ → EdgeKind
kind_of_ending v (Terminator.Switch arg default cases) at = if is_value v arg.value then kind_at cases at else EdgeKind.Ordinary
kind_of_ending v _ at = EdgeKind.Ordinary

abbrev pub kind_in : Option Block → ℕ → EdgeKind
kind_in None at = EdgeKind.Ordinary
kind_in (Some b) at = kind_of_ending (suspended b.instrs) b.term at

-- the kind of the edge at a position of the block's successors
abbrev pub kind_of : Function → ℕ → ℕ → EdgeKind
kind_of f block at = kind_in (slice_get f.blocks block) at
