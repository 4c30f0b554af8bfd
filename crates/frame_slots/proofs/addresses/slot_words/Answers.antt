use Rattle.std.proofs.Common.{subst, sym, ◌∙◌, refl}
use Rattle.flow_bits.specs.Reaching.{StartAt}
use Rattle.frame_slots.proofs.Addressing.{if_ok_both, slot_words_by, starts_below}
use Rattle.frame_slots.proofs.addresses.slot_words.Goals as goal

pub reached-requires-clause-starts : goal.reached-requires-clause-starts
reached-requires-clause-starts c =
    subst (StartAt c.in_ok-nodes.nodes) (sym (c.as_slice.ensures.value ∙ c.in_ok-starts.ensures)) (starts_below c.args.slots.now c.in_ok-nodes.nodes c.in_ok-nodes.ensures)

pub returns : goal.returns
returns c =
    if_ok_both c.reached.result _ _ _
    (λ words nodes answers.
    slot_words_by c.args.slots.now c.in_ok-nodes.nodes c.new.result c.as_slice.result.now _ words.items
    c.new.ensures refl (c.as_slice.ensures.value ∙ c.in_ok-starts.ensures) c.in_ok-nodes.ensures nodes answers)
    c.reached.ensures.nodes c.reached.ensures.words
