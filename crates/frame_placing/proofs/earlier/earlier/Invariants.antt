use Rattle.std.proofs.Common.{map, take}
use Rattle.frame_placing.specs.Placed.{IsPair}
use Rattle.frame_placing.specs.Steps.{AreEarlier}
use Rattle.frame_placing.proofs.earlier.earlier.Given as goal

abbrev pub invariant-loop-pair : goal.invariant-loop-pair
invariant-loop-pair l = AreEarlier l.rooms l.promise (IsPair (take l.pair-index l.conflicts)) (map (λ row. row.items) l.rows.items)
