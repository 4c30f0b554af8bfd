use Rattle.flow_facts.proofs.Above.{AreBelow}
use Rattle.std.proofs.Common.{take}
use Rattle.flow_facts.proofs.chains.above_names.Given as goal

abbrev pub invariant-loop-name : goal.invariant-loop-name
invariant-loop-name l = AreBelow l.count (take l.name-index l.names)
