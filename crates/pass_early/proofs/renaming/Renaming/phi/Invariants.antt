use Rattle.std.proofs.Common.{◌≡◌, ◌++◌, drop, map}
use Rattle.pass_early.specs.Renaming.{renamed_incoming}
use Rattle.pass_early.proofs.renaming.Renaming.phi.Given as goal

abbrev pub invariant-loop-incoming : goal.invariant-loop-incoming
invariant-loop-incoming l = l.all ++ map (renamed_incoming l.self) (drop l.incoming-index l.incoming-items) ≡ map (renamed_incoming l.self) l.incoming-items
