use Rattle.std.proofs.Common.{refl}
use Rattle.run_source.proofs.Acting.{performed-kept}
use Rattle.run_source.proofs.OfCalls.{of-given}
use Rattle.run_source.specs.State.{function_of, work_of}
use Rattle.run_framed.proofs.Acting.{performed-done, performed-refused}
use Rattle.run_framed.proofs.stepping.perform.Goals as goal
use Rattle.run_framed.specs.Framed.{framed_context}
use Rattle.run_framed.specs.FramedEffects.{framed_of}
use Rattle.run_step.specs.Effects.{work}
use Rattle.run_step.specs.Step.{instr_action}

pub returns-clause-done : goal.returns-clause-done
returns-clause-done c =
    let g = framed_of c.args.program.now in
    let s = c.args.state.now in
    let x = framed_context g s in
    let i = c.args.instr.now in
    let a = instr_action x (work_of s) i in
    let args = c.args_of.result.now in
    let res = c.result_of.result in
    performed-done g s args res a a c.in-Ok.effect (work c.execute-executed.new.world c.execute-executed.new.values) c.act_framed.result c.act_framed.new.state refl (of-given x (work_of s) i args res c.args_of.ensures c.result_of.ensures) c.in-Ok.ensures.no_slot (c.in-Ok.ensures.done (function_of g.given s)) c.act_framed.ensures.done

pub returns-clause-refused : goal.returns-clause-refused
returns-clause-refused c =
    let g = framed_of c.args.program.now in
    let s = c.args.state.now in
    let x = framed_context g s in
    let i = c.args.instr.now in
    let a = instr_action x (work_of s) i in
    let args = c.args_of.result.now in
    let res = c.result_of.result in
    performed-refused g s args res a a c.in-Ok.effect (work c.execute-executed.new.world c.execute-executed.new.values) c.act_framed.result refl (of-given x (work_of s) i args res c.args_of.ensures c.result_of.ensures) c.in-Ok.ensures.no_slot (c.in-Ok.ensures.done (function_of g.given s)) c.act_framed.ensures.refused

pub returns-clause-kept : goal.returns-clause-kept
returns-clause-kept c =
    let g = framed_of c.args.program.now in
    let s = c.args.state.now in
    let a = instr_action (framed_context g s) (work_of s) c.args.instr.now in
    performed-kept s a c.in-Ok.effect (work c.execute-executed.new.world c.execute-executed.new.values) c.act_framed.result c.act_framed.new.state (c.in-Ok.ensures.done (function_of g.given s)) c.in-Ok.ensures.no_slot c.act_framed.ensures.kept c.act_framed.ensures.undone
