use Rattle.std.proofs.Common.{◌≡◌, drop}
use Rattle.ir_model.specs.Ty.{to_tys}
use Rattle.pass_distances.proofs.Offsets.{cut_offset}
use Rattle.pass_distances.proofs.types.Types.field_offset.Given as goal

abbrev pub invariant-loop-field : goal.invariant-loop-field
invariant-loop-field l =
    cut_offset l.self.sizes.now.names.now.source.now l.end (to_tys (drop l.field-index l.fields)) l.left ≡ cut_offset l.self.sizes.now.names.now.source.now 0 (to_tys l.fields) l.at
