use Rattle.std.proofs.Common.{◌≡◌, ◌++◌, map, take}
use Rattle.frame_contents.specs.Held.{field_of}
use Rattle.frame_contents.proofs.fields.push_fields.Given as goal

abbrev pub invariant-loop-one : goal.invariant-loop-one
invariant-loop-one l = l.fields.items ≡ l.initial.fields.items ++ map (field_of l.function) (take l.one-index l.held)
