use Rattle.std.proofs.Common.{◌≡◌, ℕ, drop, get_or, false}
use Rattle.std.specs.Prelude.{◌||◌}
use Rattle.ir_paths.specs.Slots.{has_name}
use Rattle.frame_contents.proofs.marks.marks_of.Given as goal

abbrev pub invariant-loop-name : goal.invariant-loop-name
invariant-loop-name l = (v : ℕ) → (get_or l.marks.items v false || has_name (drop l.name-index l.names) v) ≡ has_name l.names v
