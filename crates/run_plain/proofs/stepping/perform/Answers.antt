use Rattle.std.proofs.Common.{◌≡◌, refl}
use Rattle.run_step.specs.Effects.{work}
use Rattle.run_step.specs.Step.{instr_action}
use Rattle.run_plain.specs.Plain.{plain_context, plain_function, plain_work}
use Rattle.run_plain.specs.PlainEffects.{given_of}
use Rattle.run_plain.proofs.Acting.{performed-done, performed-refused, performed-kept}
use Rattle.run_plain.proofs.stepping.perform.Goals as goal

pub returns-in-Ok-clause-done : goal.returns-in-Ok-clause-done
returns-in-Ok-clause-done c =
    let g = given_of c.args.program.now in
    let s = c.args.state.now in
    let a = instr_action (plain_context g s) (plain_work s) c.args.instr.now in
    performed-done g s a a c.in-Ok.effect (work c.execute-executed.new.world c.execute-executed.new.values) c.act.result c.act.new.state refl (c.in-Ok.ensures.done (plain_function g s)) c.act.ensures.done

pub returns-in-Ok-clause-refused : goal.returns-in-Ok-clause-refused
returns-in-Ok-clause-refused c =
    let g = given_of c.args.program.now in
    let s = c.args.state.now in
    let a = instr_action (plain_context g s) (plain_work s) c.args.instr.now in
    performed-refused g s a a c.in-Ok.effect (work c.execute-executed.new.world c.execute-executed.new.values) c.act.result refl (c.in-Ok.ensures.done (plain_function g s)) c.act.ensures.refused

pub returns-in-Ok-clause-kept : goal.returns-in-Ok-clause-kept
returns-in-Ok-clause-kept c =
    let g = given_of c.args.program.now in
    let s = c.args.state.now in
    let a = instr_action (plain_context g s) (plain_work s) c.args.instr.now in
    performed-kept s a c.in-Ok.effect (work c.execute-executed.new.world c.execute-executed.new.values) c.act.result c.act.new.state (c.in-Ok.ensures.done (plain_function g s)) c.in-Ok.ensures.no_slot c.act.ensures.kept c.act.ensures.undone
