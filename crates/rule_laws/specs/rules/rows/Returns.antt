-- Lemmas on returns, that speak of no pass.
use Rattle.std.specs.Prelude.{◌≡◌, ℕ, true, List, Some, length, ◌+◌}
use Rattle.rule_shape.specs.Switches.{are_both}
use Rattle.ir_laws.specs.ir_model.declared.instr.Case.{Case}
use Rattle.ir_laws.specs.ir_model.declared.instr.Instr.{Instr}
use Rattle.ir_laws.specs.ir_model.declared.instr.Terminator.{Terminator}
use Rattle.ir_laws.specs.ir_model.declared.module.Block.{Block}
use Rattle.ir_laws.specs.ir_model.declared.operand.Arg.{Arg}
use Rattle.ir_laws.specs.ir_model.declared.operand.Operand.{Operand}
use Rattle.ir_laws.specs.ir_paths.Windows.{call_result}

-- ---- the switches of suspends

-- an instruction is the last of its block, and behind it stands a switch on its value with exactly the cases 0 and 1
pub record IsSwitched (b : Block) (x : ℕ) (i : Instr) : Type 0 where
  pub last : x + 1 ≡ length b.instrs
  pub value : ℕ
  pub result : call_result i ≡ Some value
  pub arg : Arg
  pub default : ℕ
  pub cases : List Case
  pub is : b.term ≡ Terminator.Switch arg default cases
  pub on : arg.value ≡ Operand.Local value
  pub both : are_both cases ≡ true
