use Rattle.run_framed.specs.FramedEffects.{framed_of}
use Rattle.run_framed.specs.Framed.{frame_rights}
use Rattle.run_framed.proofs.AllocaSteps.{alloca-done, alloca-refused}
use Rattle.run_framed.proofs.stepping.instruction.Goals as goal

pub returns-in-Alloca-clause-done : goal.returns-in-Alloca-clause-done
returns-in-Alloca-clause-done c =
    let g = framed_of c.args.program.now in
    let s = c.args.state.now in
    alloca-done g s c.alloca.new.state c.args.instr.now c.in-Alloca.result c.in-Alloca.ty c.in-Alloca.align c.alloca.result c.in-Alloca.is (c.alloca.ensures.done (frame_rights g s.instances))

pub returns-in-Alloca-clause-refused : goal.returns-in-Alloca-clause-refused
returns-in-Alloca-clause-refused c =
    let g = framed_of c.args.program.now in
    let s = c.args.state.now in
    alloca-refused g s c.args.instr.now c.in-Alloca.result c.in-Alloca.ty c.in-Alloca.align c.alloca.result c.in-Alloca.is (c.alloca.ensures.refused (frame_rights g s.instances))
