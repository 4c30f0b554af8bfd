use Rattle.std.proofs.Common.{◌≡◌, ◌++◌, drop, map}
use Rattle.pass_early.specs.Renaming.{renamed_arg}
use Rattle.pass_early.proofs.renaming.Renaming.args.Given as goal

abbrev pub invariant-loop-arg : goal.invariant-loop-arg
invariant-loop-arg l = l.all ++ map (renamed_arg l.self) (drop l.arg-index l.args) ≡ map (renamed_arg l.self) l.args
