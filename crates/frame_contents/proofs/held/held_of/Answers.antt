use Rattle.std.proofs.Common.{◌≡◌, List, IfOk, subst}
use Rattle.frame_contents.specs.declared.held.Holding.{Holding}
use Rattle.frame_contents.proofs.Marked.{held_told}
use Rattle.frame_contents.proofs.held.held_of.Goals as goal

pub returns : goal.returns
returns c =
    subst (λ (l : List Holding). IfOk c.held_by.result (λ held. held ≡ l))
    (held_told c.args.sizes.now.names.now.source.now c.args.function.now c.args.classes.now c.args.crossing.now c.args.allocas.now c.in_ok-values.values.items c.deref-3.result.now c.in_ok-slots.slots.items c.deref-4.result.now
    c.in_ok-crossing.crossing.items c.deref.result.now c.in_ok-frame.frame.items c.deref-2.result.now c.requires c.in_ok-crossing.ensures c.deref.ensures.value c.in_ok-frame.ensures c.deref-2.ensures.value c.in_ok-values.ensures c.in_ok-slots.ensures
    c.deref-3.ensures.value c.deref-4.ensures.value)
    c.held_by.ensures
