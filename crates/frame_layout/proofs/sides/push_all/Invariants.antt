use Rattle.std.proofs.Common.{◌≡◌, ◌++◌, drop}
use Rattle.frame_layout.specs.Sides.{all_pairs}
use Rattle.frame_layout.proofs.sides.push_all.Given as goal

abbrev pub invariant-loop-field : goal.invariant-loop-field
invariant-loop-field l = l.pairs.items ++ all_pairs l.k (drop l._field-index l.fields) ≡ l.initial.pairs.items ++ all_pairs 0 l.fields
