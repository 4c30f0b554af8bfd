use Rattle.std.proofs.Common.{◌≡◌, ◌++◌, drop, map}
use Rattle.pass_early.specs.Renaming.{renamed_phi}
use Rattle.pass_early.proofs.renaming.Renaming.phis.Given as goal

abbrev pub invariant-loop-phi : goal.invariant-loop-phi
invariant-loop-phi l = l.all ++ map (renamed_phi l.self) (drop l.phi-index l.phis) ≡ map (renamed_phi l.self) l.phis
