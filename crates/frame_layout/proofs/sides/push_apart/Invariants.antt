use Rattle.std.proofs.Common.{◌≡◌, ◌++◌, drop}
use Rattle.frame_layout.specs.Sides.{apart_pairs}
use Rattle.frame_layout.proofs.sides.push_apart.Given as goal

abbrev pub invariant-loop-field : goal.invariant-loop-field
invariant-loop-field l = l.pairs.items ++ apart_pairs l.k (drop l.field-index l.fields) ≡ l.initial.pairs.items ++ apart_pairs 0 l.fields
