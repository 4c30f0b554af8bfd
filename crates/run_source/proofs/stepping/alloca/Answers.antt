use Rattle.run_memory.specs.Memory.{owner_rights}
use Rattle.ir_model.specs.declared.instr.Instr.{Instr}
use Rattle.run_source_tables.specs.run_step.Step.{instr_action}
use Rattle.run_source.specs.Source.{context_of}
use Rattle.run_source.specs.State.{work_of}
use Rattle.run_source.specs.SourceEffects.{given_of}
use Rattle.run_source.proofs.OwnSlots.{acts-own, own-done, own-refused}
use Rattle.run_source.proofs.stepping.alloca.Goals as goal

pub returns-in-Own-clause-done : goal.returns-in-Own-clause-done
returns-in-Own-clause-done c =
    let g = given_of c.args.given.now in
    let s = c.args.state.now in
    let x = context_of g s in
    own-done g s c.alloca_own.new.state (instr_action x (work_of s) (Instr.Alloca c.args.name c.args.ty.now c.args.align)) c.alloca_own.result (acts-own g s x c.args.name c.args.ty.now c.args.align c.in-Own.ensures) (c.alloca_own.ensures.done owner_rights)

pub returns-in-Own-clause-refused : goal.returns-in-Own-clause-refused
returns-in-Own-clause-refused c =
    let g = given_of c.args.given.now in
    let s = c.args.state.now in
    let x = context_of g s in
    own-refused g s (instr_action x (work_of s) (Instr.Alloca c.args.name c.args.ty.now c.args.align)) c.alloca_own.result (acts-own g s x c.args.name c.args.ty.now c.args.align c.in-Own.ensures) (c.alloca_own.ensures.refused owner_rights)
