use Rattle.pass_elide.proofs.Found.{layout-next}
use Rattle.pass_elide.proofs.tables.positions_of.Goals as goal

pub loop-at-preserved : goal.loop-at-preserved
loop-at-preserved c = λ n. layout-next n c.args.layouts.now c.loop-at.at c.index-layouts-at.result c.loop-at-test.true c.index-layouts-at.is _ _ (c.loop-at.invariant n) (c.in_ok-note.ensures n)
