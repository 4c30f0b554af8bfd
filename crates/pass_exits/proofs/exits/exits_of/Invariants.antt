use Rattle.std.proofs.Common.{◌≡◌, ◌++◌, drop}
use Rattle.pass_exits.specs.Exits.{exits_by, exits_of}
use Rattle.pass_exits.proofs.exits.exits_of.Given as goal

abbrev pub invariant-loop-at : goal.invariant-loop-at
invariant-loop-at l = l.all ++ exits_by l.function l.at (drop l.at l.function.blocks) ≡ exits_of l.function
