use Rattle.std.proofs.Common.{◌≡◌, ◌++◌, drop}
use Rattle.pass_fetch.specs.Blocks.{fetched_blocks, next_after_blocks}
use Rattle.pass_fetch.proofs.blocks.fetched_blocks.Given as goal

abbrev pub invariant-loop-block : goal.invariant-loop-block
invariant-loop-block l = record {
  blocks : l.all ++ fetched_blocks l.fetches l.ends.lists.items l.phi_next l.next (drop l.block-index l.blocks) ≡ fetched_blocks l.fetches l.ends.lists.items l.first l.second l.blocks;
  next : next_after_blocks l.fetches l.next (drop l.block-index l.blocks) ≡ next_after_blocks l.fetches l.second l.blocks;
}
