use Rattle.std.proofs.Common.{◌≡◌, drop}
use Rattle.elide_sites.specs.Rows.{with_destroys_by}
use Rattle.elide_sites.proofs.rows.Destroys.note_by.Given as goal

abbrev pub invariant-loop-block : goal.invariant-loop-block
invariant-loop-block l = with_destroys_by l.self l.at (drop l.block-index l.blocks) ≡ with_destroys_by l.initial.self 0 l.blocks
