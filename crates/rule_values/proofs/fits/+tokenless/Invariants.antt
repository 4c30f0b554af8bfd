use Rattle.std.proofs.Common.{◌≡◌, drop}
use Rattle.ir_model.specs.Ty.{ty_size, tys_size, to_tys}
use Rattle.rule_values.specs.Fits.{are_tokenless}
use Rattle.rule_values.proofs.fits.+tokenless.Given as goal

abbrev pub invariant-are_tokenless-loop-field : goal.invariant-are_tokenless-loop-field
invariant-are_tokenless-loop-field l = are_tokenless (to_tys l.fields) ≡ are_tokenless (to_tys (drop l.field-index l.fields))

abbrev pub decreases-is_tokenless : goal.decreases-is_tokenless
decreases-is_tokenless l = ty_size l.ty.now

abbrev pub decreases-are_tokenless : goal.decreases-are_tokenless
decreases-are_tokenless l = tys_size (to_tys l.fields.now)
