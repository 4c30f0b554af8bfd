use Rattle.std.proofs.Common.{List, arith, subst}
use Rattle.rule_window_values.proofs.Asking.{rule_is}
use Rattle.rule_window_values.specs.Spans.{AreNumbered}
use Rattle.rule_window_values.specs.declared.spans.Span.{Span}
use Rattle.rule_window_values.proofs.rule.rule_of.Goals as goal

pub returns : goal.returns
returns c =
    rule_is c.args.function.now c.len.result c.in_ok-all.all.numbers c.in_ok-all.all.values c.in_ok-spans.spans c.in_ok-words.words c.chunks_of-chunks.result
    c.in_ok-spans.ensures
    (subst (λ (l : List Span). AreNumbered c.len.result l c.in_ok-all.all.numbers c.in_ok-all.all.values) c.as_slice.ensures c.in_ok-all.ensures)
    (λ k lt. let len = c.len-2.ensures in c.chunks_of-chunks.ensures k (omega (arith, lt, len)))
    c.in_ok-words.ensures
