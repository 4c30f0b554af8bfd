use Rattle.run_step.proofs.Tables.{first_where-next}
use Rattle.run_step.proofs.names.table_of.Goals as goal

pub loop-at-preserved : goal.loop-at-preserved
loop-at-preserved g c = λ n. first_where-next g.T.Named.called n c.args.items.now c.loop-at.at c.index-items-at.result c.name.result.now c.loop-at-test.true c.index-items-at.is c.name.ensures _ _ (c.loop-at.invariant n) (c.in_ok-note.ensures n)
