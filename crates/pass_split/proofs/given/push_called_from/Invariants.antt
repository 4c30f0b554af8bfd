use Rattle.std.proofs.Common.{◌≡◌, ◌++◌, drop}
use Rattle.pass_split.specs.Given.{called_from}
use Rattle.pass_split.proofs.given.push_called_from.Given as goal

abbrev pub invariant-loop-block : goal.invariant-loop-block
invariant-loop-block l = l.all ++ called_from (drop l.block-index l.blocks) ≡ l.initial.all ++ called_from l.blocks
