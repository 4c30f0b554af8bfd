use Rattle.rule_phis.proofs.Numberings.{first_where-next}
use Rattle.rule_phis.proofs.numbers.numbers_of.Goals as goal

pub loop-at-preserved : goal.loop-at-preserved
loop-at-preserved g c = λ n. first_where-next g.T.Numbered.numbered n c.args.items.now c.loop-at.at c.index-items-at.result c.number.result c.loop-at-test.true c.index-items-at.is c.number.ensures _ _ (c.loop-at.invariant n) (c.in_ok-note.ensures n)
