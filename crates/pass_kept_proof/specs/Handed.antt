-- What a resume hands on, by the values that cross suspends as the analysis has them (`frame_crossing`).
use Rattle.std.specs.Prelude.{◌≡◌, ℕ, true, [], slice_get, Some, IsTrue}
use Rattle.flow_solver.specs.Paths.{IsListed}
use Rattle.ir_parts.specs.Contents.{result_of}
use Rattle.ir_model.specs.Names.{function_at, position_of}
use Rattle.ir_model.specs.declared.instr.Instr.{Instr}
use Rattle.ir_model.specs.declared.instr.Terminator.{Terminator}
use Rattle.ir_model.specs.declared.module.Block.{Block}
use Rattle.ir_model.specs.declared.module.Function.{Function}
use Rattle.ir_model.specs.declared.module.Module.{Module}
use Rattle.ir_model.specs.declared.operand.Intrinsic.{Intrinsic}
use Rattle.ir_paths.specs.Windows.{end_block, is_call_of}
use Rattle.ir_paths.specs.declared.point.Point.{Point}
use Rattle.pass_kept_proof.specs.Kept.{Keep}
use Rattle.pass_kept_proof.specs.Needed.{given_by}
use Rattle.run_step.specs.Step.{AtInstr, AtTerm, fetch, phis_of}
use Rattle.frame_crossing.specs.Crossing.{Crosses}
use Rattle.frame_crossing.specs.Values.{values_of}

-- what is asked of names and of the end's block; each part is a consequence of rules by which modules are refused
pub record HasPlainNames (f : Function) : Type 0 where
  -- K2: coro.end stands first in its block, which has no phis
  pub end_is_first : (i : Instr) → fetch f (end_block f) 0 ≡ AtInstr i → is_call_of Intrinsic.CoroEnd i ≡ true
  pub end_is_there : (t : Terminator) → fetch f (end_block f) 0 ≡ AtTerm t → ⊥
  pub end_has_no_phis : phis_of (slice_get f.blocks (end_block f)) ≡ []
  -- N1: a label is that of one block
  pub labels : (block : ℕ) (b : Block) → slice_get f.blocks block ≡ Some b → position_of f b.label ≡ block
  -- N1, Y1 and Y2: what defines a value that is no token gives one
  pub given : (v block at : ℕ) (i : Instr) → IsListed v (values_of f) → fetch f block at ≡ AtInstr i → result_of i ≡ Some v → given_by i ≡ Some v

abbrev pub HavePlainNames : Module → Type 0
HavePlainNames m = (func : ℕ) → HasPlainNames (function_at m func)

-- what crosses a suspend is handed on there, and so is what isn't one of the values that may cross: tokens, which have no value, and addresses that are made anew
pub record HandsOn (m : Module) (keep : Keep) : Type 0 where
  pub crossing : (func : ℕ) (s : Point) (v : ℕ) → Crosses (function_at m func) v s → IsTrue (keep func s v)
  pub others : (func : ℕ) (s : Point) (v : ℕ) → (IsListed v (values_of (function_at m func)) → ⊥) → IsTrue (keep func s v)
