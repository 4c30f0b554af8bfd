use Rattle.std.proofs.Common.{◌≡◌, drop}
use Rattle.pass_early.specs.Early.{flagged_by}
use Rattle.pass_early.proofs.frames.flag_by.Given as goal

abbrev pub invariant-loop-block : goal.invariant-loop-block
invariant-loop-block l = flagged_by l.flags (drop l.block-index l.blocks) ≡ flagged_by l.initial.flags l.blocks
