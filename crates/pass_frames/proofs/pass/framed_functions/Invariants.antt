use Rattle.std.proofs.Common.{take}
use Rattle.pass_frames.specs.Framed.{AreFramed}
use Rattle.pass_frames.proofs.pass.framed_functions.Given as goal

abbrev pub invariant-loop-function : goal.invariant-loop-function
invariant-loop-function l = AreFramed l.types.sizes.now.names.now.source.now l.layouts l.taken (take l.function-index l.functions) l.all
