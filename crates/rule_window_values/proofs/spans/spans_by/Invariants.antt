use Rattle.std.proofs.Common.{take}
use Rattle.flow_points.specs.Reached.{IsGraphOf}
use Rattle.rule_window_values.specs.Spans.{AreSpans, pairs_of}
use Rattle.rule_window_values.proofs.spans.spans_by.Given as goal

abbrev pub invariant-loop-window : goal.invariant-loop-window
invariant-loop-window l = record { graph : IsGraphOf l.function l.graph; spans : AreSpans l.function (pairs_of (take l.window-index l.windows)) l.spans }
