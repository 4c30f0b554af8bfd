use Rattle.compiler_theorem.proofs.theorem.held_values_stand.Goals as goal
use Rattle.compiler_theorem.proofs.theorem.shown.Status.{distance_held, value_held}

pub returns-clause-values : goal.returns-clause-values
returns-clause-values c = value_held

pub returns-clause-distances : goal.returns-clause-distances
returns-clause-distances c = distance_held
