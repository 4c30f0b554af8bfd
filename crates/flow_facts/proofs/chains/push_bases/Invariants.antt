use Rattle.std.proofs.Common.{◌≡◌, ◌++◌, drop}
use Rattle.flow_facts.specs.Chains.{bases_in}
use Rattle.flow_facts.proofs.chains.push_bases.Given as goal

abbrev pub invariant-loop-instr : goal.invariant-loop-instr
invariant-loop-instr l = l.all ++ bases_in (drop l.instr-index l.instrs) ≡ l.initial.all ++ bases_in l.instrs
