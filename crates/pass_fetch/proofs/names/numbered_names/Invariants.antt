use Rattle.std.proofs.Common.{◌≡◌}
use Rattle.pass_fetch.specs.Blocks.{numbered_names}
use Rattle.pass_fetch.proofs.names.numbered_names.Given as goal

abbrev pub invariant-loop-k : goal.invariant-loop-k
invariant-loop-k l = l.names ≡ numbered_names l.word l.k
