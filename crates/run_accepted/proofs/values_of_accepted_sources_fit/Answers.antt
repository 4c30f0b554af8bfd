use Rattle.run_accepted.proofs.Accepted.{values_fit}
use Rattle.run_accepted.proofs.values_of_accepted_sources_fit.Goals as goal

pub returns : goal.returns
returns c = λ text m stands accepted sizes entry args answers n fitting.
    values_fit text m stands accepted sizes answers entry args n fitting
