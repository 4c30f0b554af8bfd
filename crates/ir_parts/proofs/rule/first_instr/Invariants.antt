use Rattle.std.proofs.Common.{◌≡◌, drop}
use Rattle.ir_parts.specs.Parts.{instr_parts, first_part}
use Rattle.ir_parts.proofs.rule.first_instr.Given as goal

abbrev pub invariant-loop-instr : goal.invariant-loop-instr
invariant-loop-instr g l = first_part (g.R.FunctionRule.breaks l.rule) (instr_parts l.func l.block l.first l.instrs) ≡ first_part (g.R.FunctionRule.breaks l.rule) (instr_parts l.func l.block l.at (drop l.instr-index l.instrs))
