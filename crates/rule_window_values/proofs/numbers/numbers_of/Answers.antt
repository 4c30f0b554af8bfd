use Rattle.rule_window_values.proofs.Numbering.{more_numbered}
use Rattle.rule_window_values.proofs.numbers.numbers_of.Goals as goal

pub loop-span-preserved : goal.loop-span-preserved
loop-span-preserved c =
    more_numbered c.args.names c.loop-span.span-index c.args.spans.now c.span-item.result c.as_slice.result.now c.loop-span.all.numbers c.add_numbers.new.all.numbers c.loop-span.all.values c.add_numbers.new.all.values
    c.loop-span-test.true c.span-item.is c.as_slice.ensures c.in_ok-add_numbers.ensures c.loop-span.invariant
