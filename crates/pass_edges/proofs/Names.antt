-- The labels of edges one by one.
use Rattle.std.proofs.Common.{◌≡◌, ℕ, suc, ◌+◌, ◌∷◌, ◌++◌, [], ap, arith}
use Rattle.pass_edges.specs.EdgeBlocks.{edge_name, edge_names}

pub edge_names_step : (k : ℕ) → edge_names (k + 1) ≡ edge_names k ++ edge_name k ∷ []
edge_names_step k =
    let e : k + 1 ≡ suc k = omega arith in
    ap edge_names e
