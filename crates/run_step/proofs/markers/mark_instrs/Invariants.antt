use Rattle.std.proofs.Common.{◌≡◌, take}
use Rattle.std.specs.List.{list_any}
use Rattle.run_step.specs.Step.{is_marker_of}
use Rattle.run_step.specs.Tables.{IsMarked}
use Rattle.run_step.proofs.markers.mark_instrs.Given as goal

abbrev pub invariant-loop-instr : goal.invariant-loop-instr
invariant-loop-instr l = IsMarked l.initial.table l.table (λ name. list_any (λ i. is_marker_of name i) (take l.instr-index l.instrs))
