use Rattle.pass_elide_ready.proofs.Modules.{begins, once, own_marks}
use Rattle.pass_elide_ready.proofs.rules.names_are_given_once.Goals as goal

pub returns-clause-once : goal.returns-clause-once
returns-clause-once c = once

pub returns-clause-begins : goal.returns-clause-begins
returns-clause-begins c = begins

pub returns-clause-marks : goal.returns-clause-marks
returns-clause-marks c = own_marks
