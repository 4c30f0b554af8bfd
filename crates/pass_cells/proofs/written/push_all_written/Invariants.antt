use Rattle.std.proofs.Common.{◌≡◌, ◌++◌, drop}
use Rattle.pass_cells.specs.Written.{after_instrs, written_instrs}
use Rattle.pass_cells.proofs.written.push_all_written.Given as goal

abbrev pub invariant-loop-instr : goal.invariant-loop-instr
invariant-loop-instr l = (l.all ++ written_instrs l.types.sizes.now.names.now.source.now l.plan l.next (drop l.instr-index l.instrs) ≡ l.initial.all ++ written_instrs l.types.sizes.now.names.now.source.now l.plan l.first l.instrs) × (after_instrs l.types.sizes.now.names.now.source.now l.plan l.next (drop l.instr-index l.instrs) ≡ after_instrs l.types.sizes.now.names.now.source.now l.plan l.first l.instrs)
