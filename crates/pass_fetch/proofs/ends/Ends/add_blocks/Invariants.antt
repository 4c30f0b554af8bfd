use Rattle.std.proofs.Common.{◌≡◌, drop}
use Rattle.pass_fetch.specs.Blocks.{ends_of_blocks, next_after_phis_by}
use Rattle.pass_fetch.proofs.ends.Ends.add_blocks.Given as goal

abbrev pub invariant-loop-block : goal.invariant-loop-block
invariant-loop-block l = record {
  ends : ends_of_blocks l.fetches l.next l.self.lists.items (drop l.block-index l.blocks) ≡ ends_of_blocks l.fetches l.first l.initial.self.lists.items l.blocks;
  next : next_after_phis_by l.fetches l.next (drop l.block-index l.blocks) ≡ next_after_phis_by l.fetches l.first l.blocks;
}
