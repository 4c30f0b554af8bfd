use Rattle.std.proofs.Common.{◌≡◌, ◌++◌, drop}
use Rattle.clang_tokens.proofs.words.copied.Given as goal

abbrev pub invariant-loop-token : goal.invariant-loop-token
invariant-loop-token l = l.tokens ++ drop l.token-index l.more ≡ l.initial.tokens ++ l.more
