use Rattle.std.proofs.Common.{◌≡◌, ◌++◌, drop, map}
use Rattle.ir_parts.specs.Locals.{locals_in}
use Rattle.ir_parts.specs.Parts.{instr_parts}
use Rattle.ir_parts.proofs.defined.push_instrs.Given as goal

abbrev pub invariant-loop-instr : goal.invariant-loop-instr
invariant-loop-instr l = l.all ++ locals_in (instr_parts l.func l.block l.at (drop l.instr-index l.instrs)) ≡ l.initial.all ++ locals_in (instr_parts l.func l.block l.first l.instrs)
