use Rattle.std.proofs.Common.{◌≡◌, ℕ, drop}
use Rattle.ir_locals.specs.Tables.{first_in, noted, or_first}
use Rattle.rule_locals.specs.Slots.{cut_size}
use Rattle.rule_locals.proofs.slots.note_block.Given as goal

abbrev pub invariant-loop-instr : goal.invariant-loop-instr
invariant-loop-instr l =
    (n : ℕ) → or_first (noted l.table n) (first_in (cut_size l.sizes.names.now.source.now) (drop l.instr-index l.instrs) n) ≡ or_first (noted l.initial.table n) (first_in (cut_size l.sizes.names.now.source.now) l.instrs n)
