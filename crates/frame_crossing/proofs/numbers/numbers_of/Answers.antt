use Rattle.frame_crossing.proofs.Numbering.{more_numbered}
use Rattle.frame_crossing.proofs.numbers.numbers_of.Goals as goal

pub loop-value-preserved : goal.loop-value-preserved
loop-value-preserved c = more_numbered c.args.names c.loop-value.value-index c.args.defined.now c.loop-value.all.numbers c.give_number.new.all.numbers c.loop-value.all.values c.give_number.new.all.values c.loop-value-test.true c.in_ok-give_number.ensures c.loop-value.invariant
