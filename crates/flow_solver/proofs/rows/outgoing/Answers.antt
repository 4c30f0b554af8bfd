use Rattle.std.proofs.Common.{arith, get_or}
use Rattle.std.proofs.lemmas.Option.{slice_get-get_or}
use Rattle.flow_solver.proofs.Filing.{one_filed, all_filed}
use Rattle.flow_solver.proofs.rows.outgoing.Goals as goal

pub file-requires : goal.file-requires
file-requires c =
    let at = slice_get-get_or c.args.edges.now c.loop-edge.edge (0, 0) c.loop-edge-test.true in
    let inside = (c.requires c.loop-edge.edge (get_or c.args.edges.now c.loop-edge.edge (0, 0)).0 (get_or c.args.edges.now c.loop-edge.edge (0, 0)).1 at).0 in
    let len = c.loop-edge.invariant.rows_length in
    omega (arith, inside, len)

pub loop-edge-preserved : goal.loop-edge-preserved
loop-edge-preserved c =
    let at = slice_get-get_or c.args.edges.now c.loop-edge.edge (0, 0) c.loop-edge-test.true in
    let inside = (c.requires c.loop-edge.edge (get_or c.args.edges.now c.loop-edge.edge (0, 0)).0 (get_or c.args.edges.now c.loop-edge.edge (0, 0)).1 at).0 in
    let len = c.loop-edge.invariant.rows_length in
    one_filed c.args.nodes c.args.edges.now c.loop-edge.edge (get_or c.args.edges.now c.loop-edge.edge (0, 0)).0 (get_or c.args.edges.now c.loop-edge.edge (0, 0)).1 _ _ at
    (omega (arith, inside, len)) c.in_ok-file.ensures c.loop-edge.invariant

pub returns : goal.returns
returns c = all_filed c.args.nodes c.args.edges.now c.loop-edge.edge _ c.loop-edge-test.false c.loop-edge.invariant
