use Rattle.std.proofs.Common.{◌≡◌, drop}
use Rattle.ir_model.specs.Ty.{ty_size, tys_size, to_tys}
use Rattle.rule_names.specs.Known.{knows_types}
use Rattle.rule_names.proofs.known.+knows.Given as goal

abbrev pub invariant-knows_types-loop-field : goal.invariant-knows_types-loop-field
invariant-knows_types-loop-field l = knows_types l.names.source.now (to_tys l.fields) ≡ knows_types l.names.source.now (to_tys (drop l.field-index l.fields))

abbrev pub decreases-knows_type : goal.decreases-knows_type
decreases-knows_type l = ty_size l.ty.now

abbrev pub decreases-knows_types : goal.decreases-knows_types
decreases-knows_types l = tys_size (to_tys l.fields.now)
