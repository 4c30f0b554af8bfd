use Rattle.std.proofs.Common.{take}
use Rattle.flow_facts.specs.HaveFacts.{HaveFacts}
use Rattle.flow_facts.proofs.facts.all_facts.Given as goal

abbrev pub invariant-loop-function : goal.invariant-loop-function
invariant-loop-function l = HaveFacts (take l.function-index l.functions) l.all
