use Rattle.std.proofs.Common.{arith, ap, ◌∙◌}
use Rattle.ir_sizes.specs.Levels.{next_table}
use Rattle.ir_sizes.proofs.Tables.{table_turn, table_done, table_steady}
use Rattle.ir_sizes.proofs.level.table_of.Goals as goal

pub loop-depth-preserved : goal.loop-depth-preserved
loop-depth-preserved c =
    (table_turn c.args.names.now.source.now.types c.loop-depth.depth c.loop-depth.table c.in_ok-next.next c.loop-depth.invariant.0 (c.in_ok-next.ensures ∙ ap (next_table c.args.names.now.source.now.types) c.as_slice-in-loop-depth.ensures), omega arith)

pub returns-then-is_same : goal.returns-then-is_same
returns-then-is_same c =
    table_steady c.args.names.now.source.now.types c.loop-depth.depth c.loop-depth.table c.in_ok-next.next c.loop-depth.invariant.0 (c.in_ok-next.ensures ∙ ap (next_table c.args.names.now.source.now.types) c.as_slice-in-loop-depth.ensures) (c.is_same.ensures.0 c.if-is_same.true) (omega arith)

pub returns : goal.returns
returns c = table_done c.args.names.now.source.now.types c.loop-depth.depth c.loop-depth.table (omega arith) c.loop-depth.invariant.0
