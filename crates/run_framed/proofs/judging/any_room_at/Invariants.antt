use Rattle.std.proofs.Common.{◌≡◌, drop}
use Rattle.std.specs.List.{list_any}
use Rattle.run_framed.specs.Framed.{is_room_at}
use Rattle.run_framed.proofs.judging.any_room_at.Given as goal

abbrev pub invariant-loop-field : goal.invariant-loop-field
invariant-loop-field l = list_any (λ y. is_room_at l.start l.offset l.size y) l.fields ≡ list_any (λ y. is_room_at l.start l.offset l.size y) (drop l.field-index l.fields)
