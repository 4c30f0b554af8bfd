use Rattle.std.proofs.Common.{◌≡◌, ◌++◌, drop}
use Rattle.pass_exits.specs.ExitBlocks.{exit_names}
use Rattle.pass_exits.proofs.names.push_exit_names.Given as goal

abbrev pub invariant-loop-exit : goal.invariant-loop-exit
invariant-loop-exit l = l.names ++ exit_names l.number (drop l.exit-index l.exits) ≡ l.initial.names ++ exit_names 0 l.exits
