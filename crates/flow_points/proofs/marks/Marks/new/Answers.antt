use Rattle.flow_points.proofs.Marking.{blank-more, sizes-step}
use Rattle.flow_points.proofs.marks.Marks.new.Goals as goal

pub loop-block-preserved : goal.loop-block-preserved
loop-block-preserved c =
    record {
      sizes = sizes-step c.as_slice-block-items.result.now c.loop-block.block-index c.block-item.result c.len.result c.loop-block.rows.items c.in_ok-blank_row.field-0 c.push.new.self.items c.loop-block-test.true c.block-item.is c.len.ensures c.in_ok-blank_row.ensures c.in_ok-push.ensures.items c.loop-block.invariant.sizes;
      blank = blank-more c.len.result c.loop-block.rows.items c.in_ok-blank_row.field-0 c.push.new.self.items c.in_ok-blank_row.ensures c.in_ok-push.ensures.items c.loop-block.invariant.blank;
    }

pub returns-clause-blank : goal.returns-clause-blank
returns-clause-blank c = blank-more 0 c.loop-block.rows.items c.in_ok-blank_row-2.field-0 c.push-2.new.self.items c.in_ok-blank_row-2.ensures c.in_ok-push-2.ensures.items c.loop-block.invariant.blank
