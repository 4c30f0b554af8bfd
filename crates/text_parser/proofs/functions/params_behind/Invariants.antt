use Rattle.std.proofs.Common.{◌≡◌, length}
use Rattle.text_lexer.proofs.ListSteps.{behind}
use Rattle.text_lexer.specs.Lists.{all_at, front}
use Rattle.text_parser.specs.Functions.{next_param_at}
use Rattle.text_parser.proofs.functions.params_behind.Given as goal

abbrev pub invariant-loop-param : goal.invariant-loop-param
invariant-loop-param l = front l.fn.first (all_at next_param_at l.symbols) ≡ behind l.all (all_at next_param_at l.rest)

abbrev pub decreases-loop-param : goal.decreases-loop-param
decreases-loop-param l = length l.rest
