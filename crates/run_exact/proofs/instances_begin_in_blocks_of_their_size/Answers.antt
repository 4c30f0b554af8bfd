use Rattle.run_exact.proofs.Runs.{states_sized}
use Rattle.run_exact.proofs.instances_begin_in_blocks_of_their_size.Goals as goal

pub returns-clause-states : goal.returns-clause-states
returns-clause-states c g keep entry args n switches small = states_sized g keep switches small entry args n

pub returns-clause-blocks : goal.returns-clause-blocks
returns-clause-blocks c g keep entry args n switches small i x e all =
    ((states_sized g keep switches small entry args n).instances i x e).block all
