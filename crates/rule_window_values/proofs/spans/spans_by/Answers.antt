use Rattle.rule_window_values.proofs.Spanning.{more_spanned}
use Rattle.rule_window_values.proofs.spans.spans_by.Goals as goal

pub loop-window-preserved : goal.loop-window-preserved
loop-window-preserved c = record {
  graph = c.in_ok-span_of.ensures.kept;
  spans = more_spanned c.args.function.now c.loop-window.window-index c.args.windows.now c.window-item.result c.in_ok-span_of.field-0 c.loop-window.spans c.push.new.self
      c.loop-window-test.true c.window-item.is c.in_ok-span_of.ensures.span c.in_ok-push.ensures.ok c.loop-window.invariant.spans;
}
