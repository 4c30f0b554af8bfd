use Rattle.pass_elide_proof.proofs.EdgeBeside.{goes_beside}
use Rattle.pass_elide_proof.proofs.edges.edges_stay_beside.Goals as goal

pub returns : goal.returns
returns c = λ e s t label r at. goes_beside e s t r label at
