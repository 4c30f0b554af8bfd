use Rattle.compiler_theorem.proofs.theorem.fields_show_values.Goals as goal
use Rattle.compiler_theorem.proofs.theorem.shown.Values.{field_distance, field_value}

pub returns-clause-values : goal.returns-clause-values
returns-clause-values c = field_value

pub returns-clause-distances : goal.returns-clause-distances
returns-clause-distances c = field_distance
