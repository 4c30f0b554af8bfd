use Rattle.std.proofs.Common.{arith, ap}
use Rattle.std.specs.Prelude.{slice_get}
use Rattle.run_source_tables.proofs.Tokens.{NotedFrom, noted-all, noted-next}
use Rattle.run_source_tables.proofs.suspends.note_block.Goals as goal

pub loop-at-preserved : goal.loop-at-preserved
loop-at-preserved c =
    record {
      within = omega arith;
      noted = noted-next c.args.block c.args.instrs.now c.args.table.now c.loop-at.table c.note.new.table c.loop-at.at c.index-instrs-at.result c.token_of-token.result c.loop-at-test.true c.loop-at.invariant.within c.index-instrs-at.is c.token_of-token.ensures c.note.ensures c.loop-at.invariant.noted;
    }

pub returns : goal.returns
returns c = noted-all c.args.block c.args.instrs.now c.args.table.now c.loop-at.table c.loop-at.at (omega arith) c.loop-at.invariant.noted
