use Rattle.std.proofs.Common.{refl}
use Rattle.pass_split_proof.proofs.disagreeing.given_frames_may_disagree.Goals as goal

pub returns-clause-index : goal.returns-clause-index
returns-clause-index c = record { framed = refl; plain = refl }

pub returns-clause-start : goal.returns-clause-start
returns-clause-start c = record { framed = refl; plain = refl }

pub returns-clause-free : goal.returns-clause-free
returns-clause-free c = record { framed = refl; plain = refl }

pub returns-clause-count : goal.returns-clause-count
returns-clause-count c = record { framed = refl; returned = refl; plain = refl; over = refl }
