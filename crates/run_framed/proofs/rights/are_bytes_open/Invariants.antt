use Rattle.std.proofs.Common.{◌≡◌, ◌+◌}
use Rattle.run_framed.specs.Framed.{is_open}
use Rattle.run_framed.specs.FramedEffects.{framed_of}
use Rattle.run_framed.proofs.rights.are_bytes_open.Given as goal

abbrev pub invariant-loop-left : goal.invariant-loop-left
invariant-loop-left l =
    record {
      at : l.byte + l.left ≡ l.offset + l.len;
      rest : is_open (framed_of l.program) l.instances l.block l.offset l.len ≡ is_open (framed_of l.program) l.instances l.block l.byte l.left;
    }

abbrev pub decreases-loop-left : goal.decreases-loop-left
decreases-loop-left l = l.left
