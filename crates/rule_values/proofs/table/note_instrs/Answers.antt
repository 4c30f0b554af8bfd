use Rattle.std.proofs.Common.{arith, ℕ}
use Rattle.ir_locals.specs.Tables.{first_in, noted, or_first}
use Rattle.ir_locals.proofs.Notes.{one_more, all_noted}
use Rattle.rule_values.specs.Kinds.{instr_kind}
use Rattle.rule_values.proofs.table.note_instrs.Goals as goal

pub loop-instr-preserved : goal.loop-instr-preserved
loop-instr-preserved c =
    one_more instr_kind c.args.instrs.now c.loop-instr.instr-index c.instr-item.result (noted c.loop-instr.table) (noted c.note_instr.new.table) (λ (n : ℕ). or_first (noted c.args.table.now n) (first_in instr_kind c.args.instrs.now n)) c.loop-instr-test.true c.instr-item.is c.in_ok-note_instr.ensures c.loop-instr.invariant

pub returns : goal.returns
returns c =
    all_noted instr_kind c.args.instrs.now c.loop-instr.instr-index (noted c.loop-instr.table) (λ (n : ℕ). or_first (noted c.args.table.now n) (first_in instr_kind c.args.instrs.now n)) (omega arith) c.loop-instr.invariant
