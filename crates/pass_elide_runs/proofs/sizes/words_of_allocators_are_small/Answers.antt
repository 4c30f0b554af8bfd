use Rattle.pass_elide_runs.proofs.Small.{words_small}
use Rattle.pass_elide_runs.proofs.sizes.words_of_allocators_are_small.Goals as goal

pub returns : goal.returns
returns c g entry args n switches types none fit = words_small g switches types none entry args fit n
