use Rattle.std.proofs.Common.{◌≡◌, drop}
use Rattle.std.specs.List.{list_any}
use Rattle.run_step.specs.Step.{is_marker_of}
use Rattle.run_step.proofs.markers.has_markers.Given as goal

abbrev pub invariant-loop-block : goal.invariant-loop-block
invariant-loop-block l = list_any (λ b. list_any (is_marker_of l.name) b.instrs) l.block-items ≡ list_any (λ b. list_any (is_marker_of l.name) b.instrs) (drop l.block-index l.block-items)
