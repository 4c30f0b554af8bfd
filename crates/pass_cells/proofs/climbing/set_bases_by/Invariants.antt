use Rattle.std.proofs.Common.{◌≡◌, drop}
use Rattle.pass_cells.specs.Links.{with_bases_by}
use Rattle.pass_cells.proofs.climbing.set_bases_by.Given as goal

abbrev pub invariant-loop-block : goal.invariant-loop-block
invariant-loop-block l = with_bases_by l.bases (drop l.block-index l.blocks) ≡ with_bases_by l.initial.bases l.blocks
