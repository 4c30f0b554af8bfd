use Rattle.pass_elide_proof.proofs.EdgeLeaving.{leaves_beside}
use Rattle.pass_elide_proof.proofs.edges.leaving_edges_stay_beside.Goals as goal

pub returns : goal.returns
returns c = λ e s t label r at. leaves_beside e s t r label at
