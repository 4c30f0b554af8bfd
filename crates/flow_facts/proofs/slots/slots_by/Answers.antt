use Rattle.std.proofs.Common.{List, ap, flat_map, ◌∙◌, ℕ}
use Rattle.ir_model.specs.declared.module.Block.{Block}
use Rattle.flow_facts.proofs.Keeping.{ramp-slots}
use Rattle.flow_facts.specs.Chains.{AreLedBack}
use Rattle.flow_facts.specs.Slots.{own_in}
use Rattle.flow_points.proofs.Tests.{if-ok}
use Rattle.std.proofs.Common.{subst}
use Rattle.flow_facts.proofs.slots.slots_by.Goals as goal

pub returns-clause-slots : goal.returns-clause-slots
returns-clause-slots c =
    if-ok c.own_slots.result _ _
    (λ slots are.
    ramp-slots c.args.function.now c.in_ok-promise.promise c.in_ok-names.names c.in_ok-words.words.items slots c.in_ok-promise.ensures c.in_ok-names.ensures.names
    (subst (λ (l : List ℕ). AreLedBack c.args.function.now l c.in_ok-words.words.items) c.as_slice.ensures c.in_ok-words.ensures)
    (are
    ∙ ap (λ (l : List ℕ). flat_map (λ b. own_in c.in_ok-promise.promise l b.instrs) c.as_slice-2.result.now) c.as_slice-3.ensures.value
    ∙ ap (λ (l : List Block). flat_map (λ b. own_in c.in_ok-promise.promise c.in_ok-words.words.items b.instrs) l) c.as_slice-2.ensures))
    c.own_slots.ensures
