use Rattle.std.proofs.Common.{◌≡◌, length}
use Rattle.cli_entries.specs.Entries.{words_for}
use Rattle.cli_entries.proofs.Arguments.{with_words}
use Rattle.cli_entries.proofs.entry.words_for.Given as goal

abbrev pub invariant-loop-params : goal.invariant-loop-params
invariant-loop-params l = words_for l.fn.params l.fn.numbers ≡ with_words l.words (words_for l.params l.numbers)

abbrev pub decreases-loop-params : goal.decreases-loop-params
decreases-loop-params l = length l.params
