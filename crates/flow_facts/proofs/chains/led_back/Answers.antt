use Rattle.std.proofs.Common.{ap, arith, replicate, subst, sym, ◌∙◌}
use Rattle.flow_bits.specs.Reaching.{StartAt}
use Rattle.flow_facts.proofs.Leading.{if-ok-both, led-back-by, starts-below}
use Rattle.flow_facts.specs.Chains.{bases_by}
use Rattle.flow_solver.specs.Paths.{HasNodes}
use Rattle.flow_facts.proofs.chains.led_back.Goals as goal

pub reached-requires-clause-starts : goal.reached-requires-clause-starts
reached-requires-clause-starts c =
    subst (StartAt c.in_ok-nodes.nodes) (sym (c.as_slice-3.ensures.value ∙ c.in_ok-starts.ensures))
    (starts-below c.in_ok-nodes.nodes c.args.names.now (λ v h. let lt = c.in_ok-above_names.ensures v h in let le = c.in_ok-nodes.ensures.least in omega (arith, lt, le)))

pub returns : goal.returns
returns c =
    if-ok-both c.reached.result _ _ _
    (λ words nodes answers.
    led-back-by c.args.function.now c.args.names.now c.in_ok-nodes.nodes c.in_ok-edges.edges c.as_slice-3.result.now c.as_slice-4.result.now words.items
    (c.in_ok-edges.ensures ∙ ap bases_by c.as_slice.ensures)
    (c.as_slice-3.ensures.value ∙ c.in_ok-starts.ensures)
    (c.as_slice-4.ensures.value ∙ c.in_ok-kept.ensures ∙ ap (λ n. replicate n 1) c.len.ensures)
    (λ v h. let lt = c.in_ok-above_names.ensures v h in let le = c.in_ok-nodes.ensures.least in omega (arith, lt, le))
    (subst (HasNodes c.in_ok-nodes.nodes) c.as_slice-2.ensures c.in_ok-nodes.ensures.edges)
    nodes answers)
    c.reached.ensures.nodes c.reached.ensures.words
