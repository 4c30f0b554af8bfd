use Rattle.std.proofs.Common.{◌≡◌, drop}
use Rattle.pass_frames.specs.Tables.{with_labels}
use Rattle.pass_frames.proofs.tables.set_labels.Given as goal

abbrev pub invariant-loop-block : goal.invariant-loop-block
invariant-loop-block l = with_labels l.function (drop l.block-index l.blocks) l.flags ≡ with_labels l.function l.blocks l.initial.flags
