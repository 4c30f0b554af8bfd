use Rattle.pass_elide_framed.proofs.Plain.{names_stay, plain_stays}
use Rattle.pass_elide_framed.proofs.framed.plain_functions_stay.Goals as goal

pub returns-clause-same : goal.returns-clause-same
returns-clause-same c = plain_stays

pub returns-clause-names : goal.returns-clause-names
returns-clause-names c = names_stay
