use Rattle.std.proofs.Common.{ℕ, ◌∙◌, ap, map, replicate}
use Rattle.rule_slots.proofs.Led.{led_from_is}
use Rattle.rule_slots.specs.Steps.{is_odd}
use Rattle.rule_slots.proofs.steps.led_from.Goals as goal

pub returns : goal.returns
returns c =
    led_from_is c.args.function.now c.args.names.now c.in_ok-graph.graph.nodes c.in_ok-graph.graph.edges c.as_slice.result.now c.as_slice-2.result.now c.in_ok-words.words.items c.from_marks.result
    c.in_ok-graph.ensures.edges
    (c.as_slice.ensures.value ∙ c.in_ok-starts.ensures)
    (c.as_slice-2.ensures.value ∙ c.in_ok-kept.ensures ∙ ap (λ (n : ℕ). replicate n 1) c.len.ensures)
    (c.from_marks.ensures ∙ c.in_ok-marks.ensures ∙ ap (map is_odd) c.as_slice-3.ensures.value)
    c.in_ok-words.ensures.nodes
    (c.all_below.ensures c.if-not-all_below.false)
    c.in_ok-graph.ensures.nodes
    c.in_ok-words.ensures.words
