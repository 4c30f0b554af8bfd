use Rattle.std.proofs.Common.{arith}
use Rattle.ir_model.specs.Ty.{to_tys}
use Rattle.pass_distances.proofs.Offsets.{cut_offset, end_next, offset_here, offset_last, offset_next, whole_offset}
use Rattle.pass_distances.proofs.types.Types.field_offset.Goals as goal

pub returns-then-left-eq0 : goal.returns-then-left-eq0
returns-then-left-eq0 c =
    let m = c.args.self.now.sizes.now.names.now.source.now in
    whole_offset m (to_tys c.args.fields.now) c.args.at c.round_up-start.result
    (offset_here m c.args.fields.now c.loop-field.field-index c.field-item.result c.loop-field.end c.loop-field.left c.align_of.result c.round_up-start.result (cut_offset m 0 (to_tys c.args.fields.now) c.args.at) c.loop-field-test.true c.field-item.is c.if-left-eq0.true c.align_of.ensures c.round_up-start.ensures c.loop-field.invariant)

pub loop-field-preserved : goal.loop-field-preserved
loop-field-preserved c =
    let m = c.args.self.now.sizes.now.names.now.source.now in
    offset_next m c.args.fields.now c.loop-field.field-index c.field-item.result c.loop-field.end c.loop-field.left c.saturating_add-end.result (cut_offset m 0 (to_tys c.args.fields.now) c.args.at) c.loop-field-test.true c.field-item.is c.if-left-eq0.false
    (end_next m c.field-item.result c.loop-field.end c.align_of.result c.size_of.result c.round_up-start.result c.saturating_add-end.result c.align_of.ensures c.size_of.ensures c.round_up-start.ensures c.saturating_add-end.ensures)
    c.loop-field.invariant

pub returns : goal.returns
returns c =
    let m = c.args.self.now.sizes.now.names.now.source.now in
    whole_offset m (to_tys c.args.fields.now) c.args.at c.loop-field.end
    (offset_last m c.args.fields.now c.loop-field.field-index c.loop-field.end c.loop-field.left (cut_offset m 0 (to_tys c.args.fields.now) c.args.at) (omega arith) c.loop-field.invariant)
