use Rattle.pass_elide_runs.proofs.ElidedFirst.{elided_begins, elided_first, giving_slots, no_slots}
use Rattle.pass_elide_runs.proofs.slots.giving_activations_have_their_slots.Goals as goal

pub returns-clause-allocas : goal.returns-clause-allocas
returns-clause-allocas c = elided_first

pub returns-clause-begins : goal.returns-clause-begins
returns-clause-begins c = elided_begins

pub returns-clause-runs : goal.returns-clause-runs
returns-clause-runs c e entry args n keeps firsts knows switches fine =
    giving_slots e keeps firsts knows switches entry args n fine

pub returns-clause-first : goal.returns-clause-first
returns-clause-first c = no_slots
