use Rattle.run_access_worked.proofs.Machines.{framed_line, plain_line, source_line}
use Rattle.run_access_worked.proofs.machines_execute_lines.Goals as goal

pub returns-clause-plain : goal.returns-clause-plain
returns-clause-plain c = plain_line

pub returns-clause-source : goal.returns-clause-source
returns-clause-source c = source_line

pub returns-clause-framed : goal.returns-clause-framed
returns-clause-framed c = framed_line
