use Rattle.std.proofs.Common.{ap, arith, replicate, subst, sym, ◌∙◌, ◌-◌, ◌^◌, ℕ}
use Rattle.flow_bits.specs.Reaching.{StartAt}
use Rattle.rule_slots.specs.Steps.{steps_by}
use Rattle.flow_solver.specs.Paths.{HasNodes}
use Rattle.frame_slots.proofs.Addressing.{address_words_by, if_ok_both, starts_below}
use Rattle.frame_slots.proofs.addresses.address_words.Goals as goal

pub reached-requires-clause-starts : goal.reached-requires-clause-starts
reached-requires-clause-starts c =
    subst (StartAt c.in_ok-nodes.nodes) (sym (c.as_slice-3.ensures.value ∙ c.in_ok-starts.ensures))
    (starts_below c.args.slots.now c.in_ok-nodes.nodes (λ v h. let lt = c.in_ok-above_names.ensures v h in let le = c.in_ok-nodes.ensures.least in omega (arith, lt, le)))

pub returns : goal.returns
returns c =
    if_ok_both c.reached.result _ _ _
    (λ words nodes answers.
    address_words_by c.args.function.now c.args.slots.now c.in_ok-nodes.nodes c.in_ok-edges.edges c.as_slice-3.result.now c.as_slice-4.result.now words.items
    (c.in_ok-edges.ensures ∙ ap steps_by c.as_slice.ensures)
    (c.as_slice-4.ensures.value ∙ c.in_ok-kept.ensures ∙ ap (λ (n : ℕ). replicate n (2 ^ 64 - 1)) c.len.ensures)
    (c.as_slice-3.ensures.value ∙ c.in_ok-starts.ensures)
    (λ v h. let lt = c.in_ok-above_names.ensures v h in let le = c.in_ok-nodes.ensures.least in omega (arith, lt, le))
    (subst (HasNodes c.in_ok-nodes.nodes) c.as_slice-2.ensures c.in_ok-nodes.ensures.steps)
    nodes answers)
    c.reached.ensures.nodes c.reached.ensures.words
