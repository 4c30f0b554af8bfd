use Rattle.compiler_theorem.proofs.theorem.loaded_bytes_stand.Goals as goal
use Rattle.compiler_theorem.proofs.theorem.shown.Encoded.{decoded_stand, distance_stands}

pub returns-clause-values : goal.returns-clause-values
returns-clause-values c = decoded_stand

pub returns-clause-distances : goal.returns-clause-distances
returns-clause-distances c = distance_stands
