use Rattle.std.proofs.Common.{◌≡◌, drop}
use Rattle.ir_alignments.specs.Level.{known_at, agree_on}
use Rattle.ir_alignments.proofs.level.Level.agrees.Given as goal

abbrev pub invariant-loop-item : goal.invariant-loop-item
invariant-loop-item l = agree_on l.types (known_at l.self) (known_at l.other) ≡ agree_on (drop l.item-index l.types) (known_at l.self) (known_at l.other)
