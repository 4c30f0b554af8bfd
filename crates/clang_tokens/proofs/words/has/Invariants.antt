use Rattle.std.proofs.Common.{◌≡◌, drop}
use Rattle.clang_tokens.specs.Words.{has}
use Rattle.clang_tokens.proofs.words.has.Given as goal

abbrev pub invariant-loop-token : goal.invariant-loop-token
invariant-loop-token l = has l.word (drop l.token-index l.tokens) ≡ has l.word l.tokens
