use Rattle.run_accepted.proofs.Accepted.{apart}
use Rattle.run_accepted.proofs.live_slots_of_accepted_sources_are_apart.Goals as goal

pub returns : goal.returns
returns c = λ text m stands accepted sizes entry args answers n. apart text m stands accepted sizes answers entry args n
