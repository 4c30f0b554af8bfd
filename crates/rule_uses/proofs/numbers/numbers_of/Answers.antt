use Rattle.rule_uses.proofs.Numbering.{more_numbered}
use Rattle.rule_uses.proofs.numbers.numbers_of.Goals as goal

pub loop-found-preserved : goal.loop-found-preserved
loop-found-preserved c = more_numbered c.args.names c.loop-found.found-index c.args.opens.now _ c.loop-found.all.numbers c.give_number.new.all.numbers c.loop-found.all.values c.give_number.new.all.values c.loop-found-test.true c.in_ok-give_number.ensures c.loop-found.invariant
