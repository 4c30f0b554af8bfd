use Rattle.std.proofs.Common.{◌≡◌, drop}
use Rattle.pass_frames.specs.Framed.{begin_from}
use Rattle.pass_frames.proofs.before.begin_in.Given as goal

abbrev pub invariant-loop-block : goal.invariant-loop-block
invariant-loop-block l = begin_from l.k (drop l.block-index l.blocks) ≡ begin_from 0 l.blocks
