use Rattle.std.proofs.Common.{◌≡◌, map, take, Some}
use Rattle.run_step.specs.Step.{incoming_from}
use Rattle.run_step.specs.Values.{operand_value}
use Rattle.run_step_code.proofs.enter.taken.Given as goal

abbrev pub invariant-loop-phi : goal.invariant-loop-phi
invariant-loop-phi l = l.all.items ≡ map (λ p. Some (operand_value l.program.module l.values p.ty (incoming_from p.incoming l.label))) (take l.phi-index l.phis)
