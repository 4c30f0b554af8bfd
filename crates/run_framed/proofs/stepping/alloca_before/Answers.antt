use Rattle.run_framed.proofs.Entering.{another-follows, slot-refused}
use Rattle.run_framed.proofs.stepping.alloca_before.Goals as goal
use Rattle.run_framed.specs.FramedEffects.{framed_of}

pub returns-in-Ok-clause-done : goal.returns-in-Ok-clause-done
returns-in-Ok-clause-done c = λ rights. another-follows (framed_of c.args.program.now) rights c.args.state.now c.alloca_own.new.state c.args.slot.alloca c.args.ty.now c.args.align c.args.from c.args.label c.args.next c.args.point c.requires.entering c.requires.behind c.requires.follows (c.in-Ok.ensures.done rights)

pub returns-in-Err-clause-refused : goal.returns-in-Err-clause-refused
returns-in-Err-clause-refused c = λ rights. slot-refused (framed_of c.args.program.now) rights c.args.state.now c.args.slot.alloca c.args.ty.now c.args.align c.in-Err.stop (c.in-Err.ensures.refused rights)
