use Rattle.pass_edges.proofs.Firsts.{first-next}
use Rattle.pass_edges.proofs.operands.positions_of.Goals as goal

pub loop-at-preserved : goal.loop-at-preserved
loop-at-preserved c = λ n. first-next n c.args.incoming.now c.loop-at.at c.index-incoming-at.result c.loop-at-test.true c.index-incoming-at.is _ _ (c.loop-at.invariant n) (c.in_ok-note.ensures n)
