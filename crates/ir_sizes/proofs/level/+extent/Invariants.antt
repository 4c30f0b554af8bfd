use Rattle.std.proofs.Common.{◌≡◌, ◌+◌, ◌*◌, drop}
use Rattle.ir_model.specs.Ty.{to_tys}
use Rattle.ir_sizes.specs.Cut.{cut_in, cut_fields, cut_start}
use Rattle.ir_sizes.specs.Levels.{known}
use Rattle.ir_sizes.proofs.level.+extent.Given as goal

abbrev pub invariant-fields_extent-loop-field : goal.invariant-fields_extent-loop-field
invariant-fields_extent-loop-field l =
    cut_fields (cut_in (known l.names.source.now.types l.table) l.depth) cut_start (to_tys l.fields) ≡ cut_fields (cut_in (known l.names.source.now.types l.table) l.depth) l.so_far (to_tys (drop l.field-index l.fields))

abbrev pub decreases-extent_in : goal.decreases-extent_in
decreases-extent_in l = 2 * l.depth

abbrev pub decreases-fields_extent : goal.decreases-fields_extent
decreases-fields_extent l = 2 * l.depth + 1
