use Rattle.std.proofs.Common.{◌≡◌, ◌++◌, length}
use Rattle.clang_writer.specs.Dressed.{dressed_from}
use Rattle.clang_writer.proofs.dressed.push_from.Given as goal

abbrev pub invariant-loop-rest : goal.invariant-loop-rest
invariant-loop-rest l = l.out ++ dressed_from l.named l.params l.rest ≡ l.initial.out ++ dressed_from l.named l.params l.tokens

abbrev pub decreases-loop-rest : goal.decreases-loop-rest
decreases-loop-rest l = length l.rest
