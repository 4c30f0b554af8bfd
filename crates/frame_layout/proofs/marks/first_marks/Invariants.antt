use Rattle.std.proofs.Common.{◌≡◌, map, take}
use Rattle.std.specs.Prelude.{◌||◌}
use Rattle.frame_layout.specs.Conflicts.{is_apart}
use Rattle.frame_layout.proofs.marks.first_marks.Given as goal

abbrev pub invariant-loop-field : goal.invariant-loop-field
invariant-loop-field l = l.marks.items ≡ map (λ f. l.all || is_apart f.kind) (take l.field-index l.fields)
