use Rattle.std.proofs.Common.{◌≡◌, ◌≤◌, ◌-◌}
use Rattle.ir_base.specs.declared.name.Name.{Name}
use Rattle.ir_alignments.specs.Alignment.{alignment_at}
use Rattle.ir_alignments.specs.Level.{known_at}
use Rattle.ir_alignments.proofs.named_types.level_of.Given as goal

abbrev pub invariant-loop-names : goal.invariant-loop-names
invariant-loop-names l = ((n : Name) → known_at l.level n ≡ alignment_at l.types l.names n) × (l.names ≤ 64)

abbrev pub decreases-loop-names : goal.decreases-loop-names
decreases-loop-names l = 64 - l.names
