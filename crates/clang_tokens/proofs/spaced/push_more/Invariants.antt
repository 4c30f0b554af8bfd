use Rattle.std.proofs.Common.{◌≡◌, ◌++◌, drop}
use Rattle.clang_tokens.specs.Spaced.{spaced_more}
use Rattle.clang_tokens.proofs.spaced.push_more.Given as goal

abbrev pub invariant-loop-token : goal.invariant-loop-token
invariant-loop-token l = l.out.items ++ spaced_more (drop l.token-index l.tokens) ≡ l.initial.out.items ++ spaced_more l.tokens
