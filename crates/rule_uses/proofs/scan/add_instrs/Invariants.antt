use Rattle.std.proofs.Common.{◌≡◌, ◌++◌, drop}
use Rattle.rule_uses.specs.Scan.{noted_instrs, open_instrs}
use Rattle.rule_uses.proofs.scan.add_instrs.Given as goal

abbrev pub invariant-loop-instr : goal.invariant-loop-instr
invariant-loop-instr l = record {
  opens : l.opens.items ++ open_instrs l.params l.last l.func l.block l.at (drop l.instr-index l.instrs) ≡ l.initial.opens.items ++ open_instrs l.params l.initial.last l.func l.block l.first l.instrs;
  last : noted_instrs l.last l.block (drop l.instr-index l.instrs) ≡ noted_instrs l.initial.last l.block l.instrs;
}
