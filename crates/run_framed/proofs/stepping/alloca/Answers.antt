use Rattle.run_framed.proofs.Entering.{not-entering, plainly-done, plainly-refused}
use Rattle.run_framed.proofs.stepping.alloca.Goals as goal
use Rattle.run_framed.specs.FramedEffects.{framed_of}

pub returns-in_default-clause-done : goal.returns-in_default-clause-done
returns-in_default-clause-done c = λ rights. plainly-done (framed_of c.args.program.now) rights c.args.state.now c.alloca_own.new.state c.args.name c.args.ty.now c.args.align c.alloca_own.result (not-entering c.args.state.now.top.mode c.in_default.not-Entering) (c.alloca_own.ensures.done rights)

pub returns-in_default-clause-refused : goal.returns-in_default-clause-refused
returns-in_default-clause-refused c = λ rights. plainly-refused (framed_of c.args.program.now) rights c.args.state.now c.args.name c.args.ty.now c.args.align c.alloca_own.result (not-entering c.args.state.now.top.mode c.in_default.not-Entering) (c.alloca_own.ensures.refused rights)
