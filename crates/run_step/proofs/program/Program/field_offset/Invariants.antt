use Rattle.std.proofs.Common.{◌≡◌, drop}
use Rattle.ir_paths.specs.ir_model.Layout.{Extent, field_offset}
use Rattle.ir_paths.specs.ir_model.Layout.{field_offset_from}
use Rattle.ir_paths.specs.ir_model.Ty.{to_tys}
use Rattle.run_step.specs.Effects.{capped_extent}
use Rattle.run_step.proofs.program.Program.field_offset.Given as goal

abbrev pub invariant-loop-field : goal.invariant-loop-field
invariant-loop-field l =
    record {
      e : Extent;
      is : l.extent ≡ capped_extent e;
      rest : field_offset l.self.module (to_tys l.fields) l.i ≡ field_offset_from l.self.module e (to_tys (drop l.field-index l.fields)) l.left;
    }
