use Rattle.std.proofs.Common.{◌≡◌, ℕ, take, Some}
use Rattle.std.specs.Prelude.{slice_get, ◌==◌}
use Rattle.std.specs.HashMap.{get}
use Rattle.flow_points.specs.ir_paths.Windows.{is_suspend_of, points_in}
use Rattle.flow_facts.proofs.tokens.tokens_of.Given as goal

abbrev pub invariant-loop-block : goal.invariant-loop-block
invariant-loop-block l = (t : ℕ) → get ◌==◌ l.tokens t ≡ slice_get (points_in (is_suspend_of (Some t)) 0 (take l.block l.blocks)) 0
