use Rattle.std.proofs.Common.{◌≡◌, refl}
use Rattle.run_source_tables.specs.run_step.Effects.{work}
use Rattle.run_source_tables.specs.run_step.Step.{instr_action}
use Rattle.run_source.specs.Source.{context_of}
use Rattle.run_source.specs.State.{function_of, work_of}
use Rattle.run_source.specs.SourceEffects.{given_of}
use Rattle.run_source.proofs.Acting.{performed-done, performed-refused, performed-kept}
use Rattle.run_source.proofs.OfCalls.{of-given}
use Rattle.run_source.proofs.stepping.perform.Goals as goal

pub returns-clause-done : goal.returns-clause-done
returns-clause-done c =
    let g = given_of c.args.given.now in
    let s = c.args.state.now in
    let x = context_of g s in
    let i = c.args.instr.now in
    let a = instr_action x (work_of s) i in
    let args = c.args_of.result.now in
    let res = c.result_of.result in
    performed-done g s args res a a c.in-Ok.effect (work c.execute-executed.new.world c.execute-executed.new.values) c.act.result c.act.new.state refl (of-given x (work_of s) i args res c.args_of.ensures c.result_of.ensures) (c.in-Ok.ensures.done (function_of g s)) c.act.ensures.done

pub returns-clause-refused : goal.returns-clause-refused
returns-clause-refused c =
    let g = given_of c.args.given.now in
    let s = c.args.state.now in
    let x = context_of g s in
    let i = c.args.instr.now in
    let a = instr_action x (work_of s) i in
    let args = c.args_of.result.now in
    let res = c.result_of.result in
    performed-refused g s args res a a c.in-Ok.effect (work c.execute-executed.new.world c.execute-executed.new.values) c.act.result refl (of-given x (work_of s) i args res c.args_of.ensures c.result_of.ensures) (c.in-Ok.ensures.done (function_of g s)) c.act.ensures.refused

pub returns-clause-kept : goal.returns-clause-kept
returns-clause-kept c =
    let g = given_of c.args.given.now in
    let s = c.args.state.now in
    let a = instr_action (context_of g s) (work_of s) c.args.instr.now in
    performed-kept s a c.in-Ok.effect (work c.execute-executed.new.world c.execute-executed.new.values) c.act.result c.act.new.state (c.in-Ok.ensures.done (function_of g s)) c.in-Ok.ensures.no_slot c.act.ensures.kept c.act.ensures.undone
