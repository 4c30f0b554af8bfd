use Rattle.std.proofs.Common.{◌≡◌, arith, subst, sym, length}
use Rattle.flow_points.proofs.LabelPositions.{ArePositions, positions-step, positions-none, positions-first}
use Rattle.flow_points.proofs.labels.positions_of.Goals as goal

pub loop-at-init : goal.loop-at-init
loop-at-init c =
    let blocks = c.as_slice-blocks.result.now in
    record { within = omega arith; positions = subst (ArePositions blocks (length blocks)) (sym c.in_ok-table.ensures) (positions-first blocks _) }

pub loop-at-preserved : goal.loop-at-preserved
loop-at-preserved c =
    record {
      within = omega arith;
      positions = positions-step c.as_slice-blocks.result.now c.loop-at.at c.loop-at.table c.set.new.self c.index-blocks-at.result c.loop-at-test.true c.loop-at.invariant.within c.index-blocks-at.is c.set.ensures c.loop-at.invariant.positions;
    }

pub returns : goal.returns
returns c =
    let e : c.args.function.now.blocks ≡ c.as_slice-blocks.result.now = sym c.as_slice-blocks.ensures in
    record { positions = positions-none c.args.function.now c.loop-at.at c.loop-at.table (omega arith) (subst (λ blocks. ArePositions blocks c.loop-at.at c.loop-at.table) c.as_slice-blocks.ensures c.loop-at.invariant.positions) }
