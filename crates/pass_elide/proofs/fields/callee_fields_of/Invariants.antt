use Rattle.std.proofs.Common.{◌≡◌, ◌++◌, drop}
use Rattle.std.specs.Prelude.{filter_map}
use Rattle.pass_elide.specs.Frames.{callee_field}
use Rattle.pass_elide.proofs.fields.callee_fields_of.Given as goal

abbrev pub invariant-loop-field : goal.invariant-loop-field
invariant-loop-field l = l.all ++ filter_map callee_field (drop l.field-index l.fields) ≡ filter_map callee_field l.fields
