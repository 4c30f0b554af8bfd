use Rattle.compiler_theorem.proofs.known.Temporaries.{marked_temporaries, temporary_there}
use Rattle.compiler_theorem.proofs.known.temporaries_of_sources_are_there.Goals as goal

pub returns-clause-there : goal.returns-clause-there
returns-clause-there c = temporary_there

pub returns-clause-marked : goal.returns-clause-marked
returns-clause-marked c = marked_temporaries
