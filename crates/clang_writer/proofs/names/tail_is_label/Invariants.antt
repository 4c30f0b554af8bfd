use Rattle.std.proofs.Common.{◌≡◌, length}
use Rattle.clang_writer.specs.Dressed.{tail_is_label}
use Rattle.clang_writer.proofs.names.tail_is_label.Given as goal

abbrev pub invariant-loop-rest : goal.invariant-loop-rest
invariant-loop-rest l = tail_is_label l.rest ≡ tail_is_label l.bytes

abbrev pub decreases-loop-rest : goal.decreases-loop-rest
decreases-loop-rest l = length l.rest
