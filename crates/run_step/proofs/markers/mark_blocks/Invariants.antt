use Rattle.std.proofs.Common.{◌≡◌, take}
use Rattle.std.specs.List.{list_any}
use Rattle.run_step.specs.Step.{is_marker_of}
use Rattle.run_step.specs.Tables.{IsMarked}
use Rattle.run_step.proofs.markers.mark_blocks.Given as goal

abbrev pub invariant-loop-block : goal.invariant-loop-block
invariant-loop-block l = IsMarked l.initial.table l.table (λ name. list_any (λ b. list_any (λ i. is_marker_of name i) b.instrs) (take l.block-index l.blocks))
