use Rattle.std.proofs.Common.{◌≡◌, ℕ, take, Some}
use Rattle.std.specs.Prelude.{◌==◌}
use Rattle.std.specs.HashMap.{get}
use Rattle.flow_points.specs.ir_paths.Windows.{is_suspend_of, points_from}
use Rattle.flow_facts.specs.Tokens.{or_head}
use Rattle.flow_facts.proofs.tokens.note_all.Given as goal

abbrev pub invariant-loop-at : goal.invariant-loop-at
invariant-loop-at l = (t : ℕ) → get ◌==◌ l.tokens t ≡ or_head (get ◌==◌ l.initial.tokens t) (points_from (is_suspend_of (Some t)) l.block 0 (take l.at l.instrs))
