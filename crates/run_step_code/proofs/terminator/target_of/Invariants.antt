use Rattle.std.proofs.Common.{◌≡◌, drop}
use Rattle.run_step.specs.Step.{target_of}
use Rattle.run_step_code.proofs.terminator.target_of.Given as goal

abbrev pub invariant-loop-case : goal.invariant-loop-case
invariant-loop-case l = target_of l.program.module l.word l.default l.cases ≡ target_of l.program.module l.word l.default (drop l.case-index l.cases)
