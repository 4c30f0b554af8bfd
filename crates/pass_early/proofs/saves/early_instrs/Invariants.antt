use Rattle.std.proofs.Common.{◌≡◌, ◌++◌, drop}
use Rattle.pass_early.specs.Early.{early_instrs, after_instrs}
use Rattle.pass_early.proofs.saves.early_instrs.Given as goal

abbrev pub invariant-loop-instr : goal.invariant-loop-instr
invariant-loop-instr l = (l.all ++ early_instrs l.renaming l.save (drop l.instr-index l.instrs) ≡ early_instrs l.renaming l.first l.instrs) × (after_instrs l.renaming l.save (drop l.instr-index l.instrs) ≡ after_instrs l.renaming l.first l.instrs)
