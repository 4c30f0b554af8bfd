use Rattle.frame_conflicts.proofs.Named.{conflict_parted, conflicts_named, parted_conflict}
use Rattle.frame_conflicts.specs.Conflicts.{ConflictAt}
use Rattle.frame_conflicts.proofs.law.parts_stand_for_pairs.Goals as goal

pub returns-clause-told : goal.returns-clause-told
returns-clause-told c = λ f parts i k are. (λ (h : ConflictAt f i k). (h.is_lower, conflict_parted f parts are i k h), λ p. parted_conflict f parts are i k p.0 p.1)

pub returns-clause-pairs : goal.returns-clause-pairs
returns-clause-pairs c = λ f parts are. conflicts_named f parts are
