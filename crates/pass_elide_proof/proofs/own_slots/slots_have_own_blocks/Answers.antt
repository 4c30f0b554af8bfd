use Rattle.pass_elide_proof.proofs.OwnSlots.{counted_own, start_counts, step_counts}
use Rattle.pass_elide_proof.proofs.own_slots.slots_have_own_blocks.Goals as goal

pub returns-clause-start : goal.returns-clause-start
returns-clause-start c = start_counts

pub returns-clause-step : goal.returns-clause-step
returns-clause-step c = step_counts

pub returns-clause-means : goal.returns-clause-means
returns-clause-means c = counted_own
