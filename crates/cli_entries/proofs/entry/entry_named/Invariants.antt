use Rattle.std.proofs.Common.{◌≡◌, drop}
use Rattle.cli_entries.specs.Entries.{entry_from}
use Rattle.cli_entries.proofs.entry.entry_named.Given as goal

abbrev pub invariant-loop-function : goal.invariant-loop-function
invariant-loop-function l = entry_from 0 l.function-items l.text ≡ entry_from l.at (drop l.function-index l.function-items) l.text
