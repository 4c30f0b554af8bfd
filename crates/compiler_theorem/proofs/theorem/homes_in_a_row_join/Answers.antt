use Rattle.compiler_theorem.proofs.theorem.homes_in_a_row_join.Goals as goal
use Rattle.compiler_theorem.proofs.theorem.shown.Homes.{bytes_joined, value_joined}

pub returns-clause-bytes : goal.returns-clause-bytes
returns-clause-bytes c = bytes_joined

pub returns-clause-values : goal.returns-clause-values
returns-clause-values c = value_joined
