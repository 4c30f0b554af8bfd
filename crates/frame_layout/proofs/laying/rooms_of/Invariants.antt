use Rattle.std.proofs.Common.{◌≡◌, map, take}
use Rattle.frame_layout.specs.Layouts.{room_of}
use Rattle.frame_layout.proofs.laying.rooms_of.Given as goal

abbrev pub invariant-loop-field : goal.invariant-loop-field
invariant-loop-field l = l.rooms.items ≡ map room_of (take l.field-index l.fields)
