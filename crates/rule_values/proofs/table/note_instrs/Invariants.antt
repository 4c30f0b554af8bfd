use Rattle.std.proofs.Common.{◌≡◌, ℕ, drop}
use Rattle.ir_locals.specs.Tables.{first_in, noted, or_first}
use Rattle.rule_values.specs.Kinds.{instr_kind}
use Rattle.rule_values.proofs.table.note_instrs.Given as goal

abbrev pub invariant-loop-instr : goal.invariant-loop-instr
invariant-loop-instr l = (n : ℕ) → or_first (noted l.table n) (first_in instr_kind (drop l.instr-index l.instrs) n) ≡ or_first (noted l.initial.table n) (first_in instr_kind l.instrs n)
