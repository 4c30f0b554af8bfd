use Rattle.std.proofs.Common.{◌≡◌, ◌++◌, drop}
use Rattle.flow_facts.specs.Chains.{bases_by}
use Rattle.flow_facts.proofs.chains.bases_of.Given as goal

abbrev pub invariant-loop-block : goal.invariant-loop-block
invariant-loop-block l = l.all ++ bases_by (drop l.block-index l.blocks) ≡ bases_by l.blocks
