-- The calls by which a function is a coroutine, with what they name and how they stand in their blocks.
use Rattle.std.specs.Prelude.{ℕ, Bool, true, false, List, [], map, Some, None, Option, ◌+◌, ◌&&◌, ◌∷◌, ◌++◌, if◌then◌else◌, ◌==◌, length}
use Rattle.rule_shape.specs.Switches.{are_both, is_last}
use Rattle.ir_laws.specs.ir_model.Names.{is_local, same_intrinsic}
use Rattle.ir_laws.specs.ir_model.declared.instr.Instr.{Instr}
use Rattle.ir_laws.specs.ir_model.declared.instr.Terminator.{Terminator}
use Rattle.ir_laws.specs.ir_model.declared.module.Block.{Block}
use Rattle.ir_laws.specs.ir_model.declared.module.Function.{Function}
use Rattle.ir_laws.specs.ir_model.declared.operand.Arg.{Arg}
use Rattle.ir_laws.specs.ir_model.declared.operand.Callee.{Callee}
use Rattle.ir_laws.specs.ir_model.declared.operand.Intrinsic.{Intrinsic}
use Rattle.ir_laws.specs.ir_model.declared.operand.Operand.{Operand}
use Rattle.ir_laws.specs.ir_paths.Windows.{operand_at}

-- the intrinsics whose calls those are
abbrev pub is_shaping : Intrinsic → Bool
is_shaping Intrinsic.CoroId = true
is_shaping Intrinsic.CoroAlloc = true
is_shaping Intrinsic.CoroBegin = true
is_shaping Intrinsic.CoroFree = true
is_shaping Intrinsic.CoroFrame = true
is_shaping Intrinsic.CoroSave = true
is_shaping Intrinsic.CoroSuspend = true
is_shaping Intrinsic.CoroEnd = true
is_shaping _ = false

-- ---- the operands by which a call is judged: none of an id and a frame, two of a free and a suspend, and else the first

abbrev pub first_named : Intrinsic → List Arg → Operand
first_named Intrinsic.CoroId args = Operand.None
first_named Intrinsic.CoroFrame args = Operand.None
first_named _ args = operand_at args 0

abbrev pub second_named : Intrinsic → List Arg → Operand
second_named Intrinsic.CoroFree args = operand_at args 1
second_named Intrinsic.CoroSuspend args = operand_at args 1
second_named _ args = Operand.None

-- ---- how it stands

-- an end that is the first of its block, phis counted
abbrev pub leads_block : Intrinsic → ℕ → Bool
leads_block x at = same_intrinsic Intrinsic.CoroEnd x && at == 0

-- the default of a switch on a value with the cases 0 and 1
abbrev pub default_on : ℕ → Terminator → Option ℕ
default_on v (Terminator.Switch arg default cases) = if is_local v arg.value && are_both cases then Some default else None
default_on v _ = None

-- that of the switch on a result right behind the instruction
abbrev pub switched_to : Block → ℕ → Option ℕ → Option ℕ
switched_to b at None = None
switched_to b at (Some v) = if is_last b (Some at) then default_on v b.term else None

-- that of a suspend
abbrev pub default_behind : Block → ℕ → Intrinsic → Option ℕ → Option ℕ
default_behind b at x result = if same_intrinsic Intrinsic.CoroSuspend x then switched_to b at result else None

-- ---- the calls

-- a call of an intrinsic: its result, what it names, the label of its block, whether it is an end that leads that, and the default of
-- the switch of a suspend
pub record ShapingCall : Type 0 where
  pub intrinsic : Intrinsic
  pub result : Option ℕ
  pub first : Operand
  pub second : Operand
  pub block : ℕ
  pub leads : Bool
  pub default : Option ℕ

abbrev pub shaping_call : Block → ℕ → Intrinsic → Option ℕ → List Arg → ShapingCall
shaping_call b at x result args =
    record {
      intrinsic = x;
      result = result;
      first = first_named x args;
      second = second_named x args;
      block = b.label;
      leads = leads_block x at;
      default = default_behind b at x result;
    }

abbrev pub call_at : Block → ℕ → Instr → List ShapingCall
call_at b at (Instr.Call result must_tail ty (Callee.Intrinsic x) args) = if is_shaping x then shaping_call b at x result args ∷ [] else []
call_at b at _ = []

-- those among a block's instructions from a position on
abbrev pub calls_in : Block → ℕ → List Instr → List ShapingCall
calls_in b at [] = []
calls_in b at (i ∷ is) = call_at b at i ++ calls_in b (at + 1) is

abbrev pub calls_of_block : Block → List ShapingCall
calls_of_block b = calls_in b (length b.phis) b.instrs

abbrev pub joined : List (List ShapingCall) → List ShapingCall
joined [] = []
joined (cs ∷ rows) = cs ++ joined rows

-- those of a function, in order of the text
abbrev pub shaping_calls : Function → List ShapingCall
shaping_calls f = joined (map calls_of_block f.blocks)

abbrev pub is_suspend_call : ShapingCall → Bool
is_suspend_call c = same_intrinsic Intrinsic.CoroSuspend c.intrinsic
