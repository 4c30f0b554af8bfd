use Rattle.std.proofs.Common.{◌≡◌, length}
use Rattle.clang_tokens.specs.Words.{begins}
use Rattle.clang_tokens.proofs.words.begins.Given as goal

abbrev pub invariant-loop-wanted : goal.invariant-loop-wanted
invariant-loop-wanted l = begins l.head l.bytes ≡ begins l.wanted l.given

abbrev pub decreases-loop-wanted : goal.decreases-loop-wanted
decreases-loop-wanted l = length l.wanted
