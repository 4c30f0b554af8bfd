use Rattle.std.proofs.Common.{◌≡◌, ◌≤◌, ◌+◌, ◌++◌, length}
use Rattle.clang_writer.specs.Dressed.{dressed_params}
use Rattle.clang_writer.proofs.dressed.push_params.Given as goal

abbrev pub invariant-loop-rest : goal.invariant-loop-rest
invariant-loop-rest l = record {
  bound : l.depth + length l.rest ≤ length l.tokens;
  read : l.out ++ dressed_params l.named l.depth l.params l.rest ≡ l.initial.out ++ dressed_params l.named 0 l.fn.params l.tokens;
}

abbrev pub decreases-loop-rest : goal.decreases-loop-rest
decreases-loop-rest l = length l.rest
