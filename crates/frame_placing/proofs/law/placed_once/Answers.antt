use Rattle.frame_placing.specs.Placed.{Always, AreKeptApart, IsPair}
use Rattle.frame_placing.proofs.Unique.{placed_once}
use Rattle.frame_placing.proofs.law.placed_once.Goals as goal

pub returns-clause-plain : goal.returns-clause-plain
returns-clause-plain c = λ rooms promise a b p q. placed_once rooms promise Always a b p q

pub returns-clause-shared : goal.returns-clause-shared
returns-clause-shared c = λ rooms promise conflicts a b p q. placed_once rooms promise (IsPair conflicts) a b p q

pub returns-clause-grouped : goal.returns-clause-grouped
returns-clause-grouped c = λ rooms promise conflicts one other a b p q. placed_once rooms promise (AreKeptApart conflicts one other) a b p q
