use Rattle.run_laws.proofs.access.Done.{free_held, other_held, write_away}
use Rattle.run_laws.proofs.access.Ranges.{write_held}
use Rattle.run_laws.proofs.access.ranges_are_kept.Goals as goal

pub returns-clause-written : goal.returns-clause-written
returns-clause-written c = λ rights m b o most bytes new law h. write_held rights m b o most bytes h law new

pub returns-clause-others : goal.returns-clause-others
returns-clause-others c = other_held

pub returns-clause-free : goal.returns-clause-free
returns-clause-free c = free_held

pub returns-clause-source : goal.returns-clause-source
returns-clause-source c = write_away
