use Rattle.std.proofs.Common.{◌≡◌, ◌+◌, ◌*◌, drop}
use Rattle.ir_model.specs.Ty.{to_tys}
use Rattle.rule_types.specs.Depth.{fields_pass}
use Rattle.rule_types.specs.Heights.{fits_by, reaches}
use Rattle.rule_types.proofs.heights.+fits.Given as goal

abbrev pub invariant-fields_fit-loop-field : goal.invariant-fields_fit-loop-field
invariant-fields_fit-loop-field l =
    fields_pass (fits_by (reaches l.names.source.now.types l.heights) l.depth) (to_tys l.fields) ≡ fields_pass (fits_by (reaches l.names.source.now.types l.heights) l.depth) (to_tys (drop l.field-index l.fields))

abbrev pub decreases-fits : goal.decreases-fits
decreases-fits l = 2 * l.depth

abbrev pub decreases-fields_fit : goal.decreases-fields_fit
decreases-fields_fit l = 2 * l.depth + 1
