use Rattle.std.proofs.Common.{sym, subst, ◌∷◌, [], arith}
use Rattle.flow_blocks.specs.Reach.{AreReached}
use Rattle.flow_blocks.proofs.Reached.{none_reached}
use Rattle.flow_blocks.proofs.reaching.reach.Goals as goal

pub returns-else-from-len : goal.returns-else-from-len
returns-else-from-len c = subst (AreReached c.args.function.now (c.args.from ∷ []) c.args.avoiding.now) (sym c.new.ensures.items) (none_reached c.args.function.now c.args.from c.args.avoiding.now (omega arith))
