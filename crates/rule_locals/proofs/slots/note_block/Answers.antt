use Rattle.std.proofs.Common.{arith, ℕ}
use Rattle.ir_locals.specs.Tables.{first_in, noted, or_first}
use Rattle.ir_locals.proofs.Notes.{one_more, all_noted}
use Rattle.rule_locals.specs.Slots.{cut_size}
use Rattle.rule_locals.proofs.slots.note_block.Goals as goal

pub loop-instr-preserved : goal.loop-instr-preserved
loop-instr-preserved c =
    let m = c.args.sizes.now.names.now.source.now in
    one_more (cut_size m) c.args.instrs.now c.loop-instr.instr-index c.instr-item.result (noted c.loop-instr.table) (noted c.note_instr.new.table) (λ (n : ℕ). or_first (noted c.args.table.now n) (first_in (cut_size m) c.args.instrs.now n)) c.loop-instr-test.true c.instr-item.is c.in_ok-note_instr.ensures c.loop-instr.invariant

pub returns : goal.returns
returns c =
    let m = c.args.sizes.now.names.now.source.now in
    all_noted (cut_size m) c.args.instrs.now c.loop-instr.instr-index (noted c.loop-instr.table) (λ (n : ℕ). or_first (noted c.args.table.now n) (first_in (cut_size m) c.args.instrs.now n)) (omega arith) c.loop-instr.invariant
