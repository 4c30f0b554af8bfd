use Rattle.std.proofs.Common.{arith, ℕ}
use Rattle.run_step.specs.Step.{is_marker_of}
use Rattle.run_step.proofs.Marking.{marked-all}
use Rattle.run_step.proofs.markers.mark_instrs.Goals as goal

pub returns : goal.returns
returns c = marked-all is_marker_of c.args.instrs.now c.loop-instr.instr-index c.args.table.now c.loop-instr.table (omega arith) c.loop-instr.invariant
