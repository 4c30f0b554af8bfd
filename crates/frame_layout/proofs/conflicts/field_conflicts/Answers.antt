use Rattle.std.proofs.Common.{◌∙◌}
use Rattle.frame_layout.proofs.Turns.{row_pushed}
use Rattle.frame_layout.proofs.conflicts.field_conflicts.Goals as goal

pub loop-j-preserved : goal.loop-j-preserved
loop-j-preserved c =
    row_pushed c.args.fields.now c.args.crossing.now c.args.alive_at.now c.args.slot_conflicts.now c.in_ok-tables.tables c.loop-j.j c.loop-j.pairs c.push_marked.new.pairs _ c.deref.result.now c.in_ok-tables.ensures c.loop-j-test.true
    (c.deref.ensures.value ∙ c.in_ok-marks.ensures) c.in_ok-push_marked.ensures c.loop-j.invariant
