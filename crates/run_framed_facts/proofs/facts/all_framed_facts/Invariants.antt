use Rattle.std.proofs.Common.{take}
use Rattle.run_framed_facts.specs.FramedFacts.{HaveFramedFacts}
use Rattle.run_framed_facts.proofs.facts.all_framed_facts.Given as goal

abbrev pub invariant-loop-function : goal.invariant-loop-function
invariant-loop-function l = HaveFramedFacts (take l.function-index l.functions) l.all
