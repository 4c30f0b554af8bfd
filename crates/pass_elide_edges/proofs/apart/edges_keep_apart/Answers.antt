use Rattle.pass_elide_edges.proofs.EdgesApart.{edge_apart}
use Rattle.pass_elide_edges.proofs.apart.edges_keep_apart.Goals as goal

pub returns : goal.returns
returns c = λ e s t term label block r apart alone runs fine there goes moves.
    edge_apart e s t r.beside r.passed.0 apart alone runs fine term there label goes block moves
