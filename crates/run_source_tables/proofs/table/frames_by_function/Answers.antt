use Rattle.std.proofs.Common.{arith}
use Rattle.run_source_tables.proofs.FramePositions.{frames-first, frames-step}
use Rattle.run_source_tables.proofs.table.frames_by_function.Goals as goal

pub loop-at-init : goal.loop-at-init
loop-at-init c = record { within = omega arith; frame = frames-first c.args.frames.now c.args.count c.in_ok-table.table c.in_ok-table.ensures }

pub loop-at-preserved : goal.loop-at-preserved
loop-at-preserved c =
    record {
      within = omega arith;
      frame = frames-step c.args.frames.now c.loop-at.at c.loop-at.table c.set.new.self c.frame_at-frame.result c.loop-at-test.true c.loop-at.invariant.within c.frame_at-frame.ensures c.set.ensures c.loop-at.invariant.frame;
    }
