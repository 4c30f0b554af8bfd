use Rattle.rule_window_values.proofs.Numbering.{more_added}
use Rattle.rule_window_values.proofs.numbers.add_numbers.Goals as goal

pub loop-value-preserved : goal.loop-value-preserved
loop-value-preserved c =
    more_added c.args.names c.loop-value.value-index c.args.values.now c.args.all.now.numbers c.loop-value.all.numbers c.give_number.new.all.numbers c.args.all.now.values c.loop-value.all.values c.give_number.new.all.values
    c.loop-value-test.true c.in_ok-give_number.ensures c.loop-value.invariant
