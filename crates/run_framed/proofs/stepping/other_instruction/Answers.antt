use Rattle.std.proofs.Common.{sym}
use Rattle.run_framed.proofs.GivenCalls.{no-ramp-done, no-ramp-refused}
use Rattle.run_framed.proofs.stepping.other_instruction.Goals as goal
use Rattle.run_framed.specs.FramedEffects.{framed_of}

pub returns-in-None-clause-done : goal.returns-in-None-clause-done
returns-in-None-clause-done c = no-ramp-done (framed_of c.args.program.now) c.args.state.now c.perform.new.state c.args.instr.now c.perform.result (sym c.in-None.ensures) c.perform.ensures.done

pub returns-in-None-clause-refused : goal.returns-in-None-clause-refused
returns-in-None-clause-refused c = no-ramp-refused (framed_of c.args.program.now) c.args.state.now c.args.instr.now c.perform.result (sym c.in-None.ensures) c.perform.ensures.refused
