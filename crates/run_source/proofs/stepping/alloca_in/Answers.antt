use Rattle.std.proofs.Common.{◌≡◌, ◌∙◌, ap, subst, Option, Some}
use Rattle.std.specs.Prelude.{IfNone, IfSome, length}
use Rattle.run_memory.specs.Memory.{owner_rights}
use Rattle.run_source_tables.specs.run_step.Effects.{slot_action, work}
use Rattle.run_source_tables.specs.run_step.declared.world.Slot.{Slot}
use Rattle.run_source.specs.Source.{act, continue}
use Rattle.run_source.specs.SourceEffects.{given_of}
use Rattle.run_source.proofs.Slots.{all-kept, in-placed, taken-up}
use Rattle.run_source.proofs.stepping.alloca_in.Goals as goal

pub returns-in-Some-clause-done : goal.returns-in-Some-clause-done
returns-in-Some-clause-done c =
    let g = given_of c.args.given.now in
    let s = c.args.state.now in
    let w = work c.make_slot-made.new.world c.make_slot-made.new.values in
    let P : Option Slot → Type 0 = λ o. IfSome o (λ x. x ≡ record { alloca = c.args.slot.alloca; block = length s.world.memory }) in
    let at = c.requires.owner.there in
    in-placed g s w _ c.in-Some.field-0 c.args.slot c.args.next c.args.i c.args.late at.instance c.keep.new.self c.kill_if.new.memory
    (c.in-Ok-made.ensures.done owner_rights ∙ ap (λ o. slot_action o w) c.in-Some.is)
    (subst P c.in-Some.is c.in-Ok-made.ensures.slot)
    c.requires.fresh at.got (c.in-Ok.ensures.ok at.instance at.got) c.kill_if.ensures c.requires.behind c.requires.owner

pub returns-in-None-clause-refused : goal.returns-in-None-clause-refused
returns-in-None-clause-refused c =
    let g = given_of c.args.given.now in
    let w = work c.make_slot-made.new.world c.make_slot-made.new.values in
    ap (act g (continue g) c.args.state.now) (c.in-Ok-made.ensures.done owner_rights ∙ ap (λ o. slot_action o w) c.in-None.is)

pub returns-in-None-clause-kept : goal.returns-in-None-clause-kept
returns-in-None-clause-kept c =
    let s = c.args.state.now in
    let at = c.requires.owner.there in
    all-kept s c.make_slot-made.new.world c.make_slot-made.new.values c.drop_newest-in-None.new.self (subst (λ (o : Option Slot). IfNone o (work c.make_slot-made.new.world c.make_slot-made.new.values ≡ work s.world s.top.values)) c.in-None.is c.in-Ok-made.ensures.none)
    (taken-up s.instances c.keep.new.self c.drop_newest-in-None.new.self c.args.i at.instance c.args.slot at.got c.in-Ok.ensures.ok c.drop_newest-in-None.ensures)

pub returns-in-Err-clause-kept : goal.returns-in-Err-clause-kept
returns-in-Err-clause-kept c =
    let s = c.args.state.now in
    let at = c.requires.owner.there in
    all-kept s c.make_slot-made.new.world c.make_slot-made.new.values c.drop_newest.new.self c.in-Err.ensures.kept
    (taken-up s.instances c.keep.new.self c.drop_newest.new.self c.args.i at.instance c.args.slot at.got c.in-Ok.ensures.ok c.drop_newest.ensures)
