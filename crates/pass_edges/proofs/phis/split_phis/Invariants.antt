use Rattle.std.proofs.Common.{◌≡◌, ◌++◌, drop, map}
use Rattle.pass_edges.specs.EdgeBlocks.{split_phi}
use Rattle.pass_edges.proofs.phis.split_phis.Given as goal

abbrev pub invariant-loop-phi : goal.invariant-loop-phi
invariant-loop-phi l = l.all ++ map (split_phi l.edges) (drop l.phi-index l.phis) ≡ map (split_phi l.edges) l.phis
