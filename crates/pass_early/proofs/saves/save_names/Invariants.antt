use Rattle.std.proofs.Common.{◌≡◌}
use Rattle.pass_early.specs.Early.{save_names}
use Rattle.pass_early.proofs.saves.save_names.Given as goal

abbrev pub invariant-loop-k : goal.invariant-loop-k
invariant-loop-k l = l.names ≡ save_names l.k
