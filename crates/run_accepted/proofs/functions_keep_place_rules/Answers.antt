use Rattle.run_accepted.proofs.Places.{places_kept, plain_places_kept}
use Rattle.run_accepted.proofs.functions_keep_place_rules.Goals as goal

pub returns-clause-coroutine : goal.returns-clause-coroutine
returns-clause-coroutine c = places_kept

pub returns-clause-plain : goal.returns-clause-plain
returns-clause-plain c = plain_places_kept
