use Rattle.std.proofs.Common.{◌≡◌, ◌∙◌, ap, subst, Option, Some}
use Rattle.std.specs.Prelude.{IfSome, length}
use Rattle.run_memory.specs.Memory.{owner_rights}
use Rattle.ir_model.specs.declared.instr.Instr.{Instr}
use Rattle.ir_model.specs.declared.module.Function.{Function}
use Rattle.run_step.specs.Effects.{context, slot_action, work}
use Rattle.run_step.specs.Step.{instr_action}
use Rattle.run_step.specs.declared.world.Slot.{Slot}
use Rattle.run_plain.specs.Plain.{plain_act, plain_function, plain_work}
use Rattle.run_plain.specs.PlainEffects.{given_of}
use Rattle.run_plain.proofs.Acting.{slot-placed}
use Rattle.run_plain.proofs.stepping.alloca.Goals as goal

pub returns-in-Some-clause-done : goal.returns-in-Some-clause-done
returns-in-Some-clause-done c =
    let g = given_of c.args.program.now in
    let s = c.args.state.now in
    let i = Instr.Alloca c.args.name c.args.ty.now c.args.align in
    let w = work c.make_slot-made.new.world c.make_slot-made.new.values in
    let f = λ (x : Function). instr_action (context c.args.program.now.module c.args.program.now.answers owner_rights x) (plain_work s) i in
    let P : Option Slot → Type 0 = λ o. IfSome o (λ x. x ≡ record { alloca = c.args.name; block = length s.world.memory }) in
    let x = c.in-Some.field-0 in
    slot-placed g s w (f (plain_function g s)) x c.args.next c.len.result c.args.name c.push.new.self
    (c.in-Ok-made.ensures.done owner_rights ∙ ap (λ o. slot_action o w) c.in-Some.is)
    (subst P c.in-Some.is c.in-Ok-made.ensures.slot)
    c.in-Ok.ensures.ok c.len.ensures c.requires.behind

pub returns-in-None-clause-refused : goal.returns-in-None-clause-refused
returns-in-None-clause-refused c =
    let g = given_of c.args.program.now in
    let s = c.args.state.now in
    let w = work c.make_slot-made.new.world c.make_slot-made.new.values in
    ap (plain_act g s) (c.in-Ok-made.ensures.done owner_rights ∙ ap (λ o. slot_action o w) c.in-None.is)
