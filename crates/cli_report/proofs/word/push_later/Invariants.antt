use Rattle.std.proofs.Common.{◌≡◌, ◌++◌, drop}
use Rattle.cli_report.specs.Report.{later_words}
use Rattle.cli_report.proofs.word.push_later.Given as goal

abbrev pub invariant-loop-word : goal.invariant-loop-word
invariant-loop-word l = l.out.items ++ later_words (drop l.word-index l.words) ≡ l.initial.out.items ++ later_words l.words
