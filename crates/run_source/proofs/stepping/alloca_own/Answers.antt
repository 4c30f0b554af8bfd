use Rattle.std.proofs.Common.{◌≡◌, ◌∙◌, ap, subst, Option, Some}
use Rattle.std.specs.Prelude.{IfSome, length}
use Rattle.run_source_tables.specs.run_step.Effects.{slot_action, work}
use Rattle.run_source_tables.specs.run_step.declared.world.Slot.{Slot}
use Rattle.run_source.specs.SourceEffects.{own_slot}
use Rattle.run_source.proofs.OwnSlots.{own-put}
use Rattle.run_source.proofs.stepping.alloca_own.Goals as goal

pub returns-in-Some-clause-done : goal.returns-in-Some-clause-done
returns-in-Some-clause-done c = λ rights.
    let s = c.args.state.now in
    let w = work c.make_slot-made.new.world c.make_slot-made.new.values in
    let P : Option Slot → Type 0 = λ o. IfSome o (λ x. x ≡ record { alloca = c.args.slot.alloca; block = length s.world.memory }) in
    own-put s w _ c.in-Some.field-0 c.args.slot c.args.next c.push.new.self
    (c.in-Ok-made.ensures.done rights ∙ ap (λ o. slot_action o w) c.in-Some.is)
    (subst P c.in-Some.is c.in-Ok-made.ensures.slot)
    c.requires.fresh c.in-Ok.ensures.ok c.requires.behind

pub returns-in-None-clause-refused : goal.returns-in-None-clause-refused
returns-in-None-clause-refused c = λ rights.
    let w = work c.make_slot-made.new.world c.make_slot-made.new.values in
    ap (own_slot c.args.state.now) (c.in-Ok-made.ensures.done rights ∙ ap (λ o. slot_action o w) c.in-None.is)
