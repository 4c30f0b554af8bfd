use Rattle.std.proofs.Common.{◌≡◌, ◌++◌, drop}
use Rattle.rule_windows.specs.ir_paths.Slots.{allocas_in}
use Rattle.rule_shape.proofs.promise.push_allocas.Given as goal

abbrev pub invariant-loop-instr : goal.invariant-loop-instr
invariant-loop-instr l = l.all ++ allocas_in (drop l.instr-index l.instrs) ≡ l.initial.all ++ allocas_in l.instrs
