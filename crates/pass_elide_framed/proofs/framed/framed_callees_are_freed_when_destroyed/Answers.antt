use Rattle.pass_elide_framed.proofs.Freed.{callee_freed, framed_freed}
use Rattle.pass_elide_framed.proofs.framed.framed_callees_are_freed_when_destroyed.Goals as goal

pub returns-clause-freed : goal.returns-clause-freed
returns-clause-freed c = framed_freed

pub returns-clause-callees : goal.returns-clause-callees
returns-clause-callees c = callee_freed
