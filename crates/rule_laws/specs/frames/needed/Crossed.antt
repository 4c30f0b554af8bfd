-- What coro.frame makes isn't needed behind suspends.
use Rattle.std.specs.Prelude.{◌≡◌, ℕ, Some, true}
use Rattle.ir_laws.specs.flow_solver.Paths.{IsListed}
use Rattle.ir_parts.specs.Contents.{result_of}
use Rattle.ir_laws.specs.ir_model.declared.instr.Instr.{Instr}
use Rattle.ir_laws.specs.ir_model.declared.module.Function.{Function}
use Rattle.ir_laws.specs.ir_model.declared.operand.Intrinsic.{Intrinsic}
use Rattle.ir_laws.specs.ir_paths.Windows.{instr_at, is_call_of}
use Rattle.ir_laws.specs.ir_paths.declared.point.Point.{Point}
use Rattle.frame_contents.specs.frame_crossing.Crossing.{suspends_of}
use Rattle.frame_contents.specs.frame_crossing.Paths.{IsNeededBehind}

-- no value of coro.frame is needed behind a suspend
abbrev pub AreFramesUnneeded : Function → Type 0
AreFramesUnneeded f =
    (p : Point) (i : Instr) (v : ℕ) → instr_at f p ≡ Some i → is_call_of Intrinsic.CoroFrame i ≡ true → result_of i ≡ Some v → (s : Point) → IsListed s (suspends_of f) → IsNeededBehind f v s → ⊥
