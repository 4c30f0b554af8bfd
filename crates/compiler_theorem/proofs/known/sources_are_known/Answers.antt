use Rattle.compiler_theorem.proofs.known.Sources.{source_known, source_marks}
use Rattle.compiler_theorem.proofs.known.sources_are_known.Goals as goal

pub returns-clause-known : goal.returns-clause-known
returns-clause-known c = source_known

pub returns-clause-marks : goal.returns-clause-marks
returns-clause-marks c = source_marks
