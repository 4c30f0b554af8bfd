use Rattle.std.proofs.Common.{◌≡◌, ◌++◌, drop}
use Rattle.frame_contents.specs.Report.{fields_text}
use Rattle.frame_contents.proofs.report.push_fields.Given as goal

abbrev pub invariant-loop-field : goal.invariant-loop-field
invariant-loop-field l = l.out.items ++ fields_text (drop l.field-index l.fields) ≡ l.initial.out.items ++ fields_text l.fields
