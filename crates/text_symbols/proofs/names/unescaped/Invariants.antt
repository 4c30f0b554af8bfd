use Rattle.std.proofs.Common.{◌≡◌, length}
use Rattle.text_lexer.specs.Lists.{all_at}
use Rattle.text_lexer.proofs.ListSteps.{behind}
use Rattle.text_symbols.specs.Names.{byte_at}
use Rattle.text_symbols.proofs.names.unescaped.Given as goal

abbrev pub invariant-loop-b : goal.invariant-loop-b
invariant-loop-b l = all_at byte_at l.text ≡ behind l.bytes.items (all_at byte_at l.rest)

abbrev pub decreases-loop-b : goal.decreases-loop-b
decreases-loop-b l = length l.rest
