use Rattle.compiler_theorem.proofs.theorem.contents_are_one.Goals as goal
use Rattle.compiler_theorem.proofs.theorem.shown.Contents.{same_crossing, same_held}

pub returns-clause-held : goal.returns-clause-held
returns-clause-held c = same_held

pub returns-clause-crossing : goal.returns-clause-crossing
returns-clause-crossing c = same_crossing
