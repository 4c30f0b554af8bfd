use Rattle.std.proofs.Common.{◌≡◌, ◌++◌, drop}
use Rattle.pass_copies.specs.BeginCopies.{after_blocks, copied_blocks}
use Rattle.pass_copies.proofs.blocks.copied_blocks.Given as goal

abbrev pub invariant-loop-block : goal.invariant-loop-block
invariant-loop-block l = record {
  blocks : l.all ++ copied_blocks l.copying l.before l.front l.next (drop l.block-index l.blocks) ≡ copied_blocks l.copying l.before l.fn.entry_front l.first l.blocks;
  next : after_blocks l.copying l.before l.next (drop l.block-index l.blocks) ≡ after_blocks l.copying l.before l.first l.blocks;
}
