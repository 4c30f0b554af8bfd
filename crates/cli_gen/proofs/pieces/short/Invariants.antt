use Rattle.std.proofs.Common.{◌≡◌}
use Rattle.cli_gen.proofs.pieces.short.Given as goal

abbrev pub invariant-loop-arg : goal.invariant-loop-arg
invariant-loop-arg l = l.all ≡ l.yielded
