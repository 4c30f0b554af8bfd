use Rattle.flow_blocks.specs.Words.{AreTold}
use Rattle.flow_blocks.proofs.reaching.told.Given as goal

abbrev pub invariant-loop-at : goal.invariant-loop-at
invariant-loop-at l = AreTold l.words l.at l.blocks.items
