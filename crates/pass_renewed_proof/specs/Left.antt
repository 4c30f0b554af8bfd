-- Where an activation may be that has left: between a save and its suspend, at the suspend and its switch, and at the
-- end and behind it.
use Rattle.std.specs.Prelude.{◌≡◌, ◌+◌, Some}
use Rattle.pass_kept_proof.specs.ir_model.declared.module.Function.{Function}
use Rattle.pass_kept_proof.specs.ir_model.declared.operand.Intrinsic.{Intrinsic}
use Rattle.pass_kept_proof.specs.ir_paths.Windows.{IsInWindow, end_block, suspend_of}
use Rattle.pass_kept_proof.specs.ir_paths.declared.point.Point.{Point}
use Rattle.pass_kept_proof.specs.SuspendRules.{IsCallAt}
use Rattle.pass_kept_proof.specs.rule_windows.Sets.{IsAfterEnd}

-- the point behind another one in its block
abbrev pub behind : Point → Point
behind p = record { block = p.block; at = p.at + 1 }

-- the activation has left by the suspend s
pub data IsLeftBy (f : Function) (s p : Point) : Type 0 where
  Between : (k : Point) → IsCallAt Intrinsic.CoroSave f k → suspend_of f k ≡ Some s → IsInWindow f k s p
      → IsLeftBy f s p
  AtSuspend : p ≡ s → IsLeftBy f s p
  AtSwitch : p ≡ behind s → IsLeftBy f s p
  AtEnd : p.block ≡ end_block f → p.at ≡ 0 → IsLeftBy f s p
  Behind : IsAfterEnd f p → IsLeftBy f s p

-- it has left by some suspend
pub record IsLeftAt (f : Function) (p : Point) : Type 0 where
  pub suspend : Point
  pub is_call : IsCallAt Intrinsic.CoroSuspend f suspend
  pub by : IsLeftBy f suspend p
