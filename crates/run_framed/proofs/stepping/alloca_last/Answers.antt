use Rattle.std.proofs.Common.{◌≡◌, ◌∙◌, ap}
use Rattle.run_memory.specs.declared.pointer.Value.{Value}
use Rattle.run_framed.proofs.Entering.{none-follows, slot-refused}
use Rattle.run_framed.proofs.stepping.alloca_last.Goals as goal
use Rattle.run_framed.specs.FramedEffects.{framed_of}
use Rattle.run_step.specs.Values.{Env, pointer_to, with_value}

pub returns-in-Ok-alloca_own-clause-done : goal.returns-in-Ok-alloca_own-clause-done
returns-in-Ok-alloca_own-clause-done c = λ rights.
    let a = c.args.slot.alloca in
    let filled : c.set_result.new.values ≡ with_value c.args.state.now.top.values a (pointer_to c.args.slot.block) =
    c.set_result.ensures
    ∙ ap (λ (v : Value). with_value c.in-Ok.values a v) c.pointer_to.ensures
    ∙ ap (λ (e : Env). with_value e a (pointer_to c.args.slot.block)) (c.in-Ok.ensures ∙ c.as_slice.ensures) in
    none-follows (framed_of c.args.program.now) rights c.args.state.now c.alloca_own.new.state a c.args.ty.now c.args.align c.args.from c.args.label c.args.next c.args.slot.block c.in-Ok-enter_label.block c.set_result.new.values c.enter_label.new.values c.requires.entering c.requires.behind c.requires.last (c.in-Ok-alloca_own.ensures.done rights) c.requires.fresh filled c.in-Ok-enter_label.ensures.position c.in-Ok-enter_label.ensures.done

pub returns-in-Err-clause-refused : goal.returns-in-Err-clause-refused
returns-in-Err-clause-refused c = λ rights. slot-refused (framed_of c.args.program.now) rights c.args.state.now c.args.slot.alloca c.args.ty.now c.args.align c.in-Err.stop (c.in-Err.ensures.refused rights)
