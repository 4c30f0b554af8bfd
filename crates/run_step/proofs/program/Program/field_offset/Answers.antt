use Rattle.std.proofs.Common.{refl, arith}
use Rattle.ir_paths.specs.ir_model.Layout.{extent_of, extent_or, field_offset, no_fields, with_field}
use Rattle.ir_paths.specs.ir_model.Ty.{to_tys}
use Rattle.run_step.proofs.Extents.{offset-here, offset-next, offset-last}
use Rattle.run_step.proofs.program.Program.field_offset.Goals as goal

pub loop-field-init : goal.loop-field-init
loop-field-init c = record { e = no_fields; is = refl; rest = refl }

pub returns-then-left-eq0 : goal.returns-then-left-eq0
returns-then-left-eq0 c =
    let m = c.args.self.now.module in
    let v = c.loop-field.invariant in
    offset-here m c.args.fields.now c.loop-field.field-index c.loop-field.left c.field-item.result v.e (field_offset m (to_tys c.args.fields.now) c.args.i) c.round_up.result c.loop-field.extent c.extent_of-next.result c.loop-field-test.true c.field-item.is c.if-left-eq0.true v.rest v.is c.extent_of-next.ensures c.round_up.ensures

pub loop-field-preserved : goal.loop-field-preserved
loop-field-preserved c =
    let m = c.args.self.now.module in
    let v = c.loop-field.invariant in
    record {
      e = with_field v.e (extent_or (extent_of m.types c.field-item.result));
      is = c.add_field-extent.ensures v.e (extent_or (extent_of m.types c.field-item.result)) v.is c.extent_of-next.ensures;
      rest = offset-next m c.args.fields.now c.loop-field.field-index c.loop-field.left c.field-item.result v.e (field_offset m (to_tys c.args.fields.now) c.args.i) c.loop-field-test.true c.field-item.is c.if-left-eq0.false v.rest;
    }

pub returns : goal.returns
returns c =
    let m = c.args.self.now.module in
    let v = c.loop-field.invariant in
    offset-last m c.args.fields.now c.loop-field.field-index c.loop-field.left v.e c.loop-field.extent (field_offset m (to_tys c.args.fields.now) c.args.i) (omega arith) v.is v.rest
