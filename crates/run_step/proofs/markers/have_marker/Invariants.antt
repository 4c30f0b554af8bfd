use Rattle.std.proofs.Common.{◌≡◌, drop}
use Rattle.std.specs.List.{list_any}
use Rattle.run_step.specs.Step.{is_marker_of}
use Rattle.run_step.proofs.markers.have_marker.Given as goal

abbrev pub invariant-loop-instr : goal.invariant-loop-instr
invariant-loop-instr l = list_any (λ i. is_marker_of l.name i) l.instrs ≡ list_any (λ i. is_marker_of l.name i) (drop l.instr-index l.instrs)
