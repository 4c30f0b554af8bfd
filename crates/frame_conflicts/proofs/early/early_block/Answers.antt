use Rattle.std.proofs.Common.{Bool, length, refl, ap, ◌∙◌}
use Rattle.std.specs.Prelude.{bit_or}
use Rattle.flow_points.specs.Rows.{is_marked}
use Rattle.frame_conflicts.proofs.Earliness.{block_made}
use Rattle.frame_conflicts.specs.Early.{word_if}
use Rattle.frame_conflicts.proofs.early.early_block.Goals as goal

pub returns : goal.returns
returns c =
    ap (bit_or c.in_ok-word.word) (c.word_if.ensures ∙ ap (λ (b : Bool). word_if b c.with_term.result) c.has.ensures ∙ ap (word_if (is_marked c.args.before.now (record { block = c.args.block; at = length c.as_slice-instrs.result.now }))) c.with_term.ensures)
    ∙ block_made c.args.before.now c.args.block c.args.first c.args.words.now c.args.text.now c.as_slice-instrs.result.now (length c.as_slice-instrs.result.now) c.in_ok-word.word c.as_slice-instrs.ensures c.in_ok-word.ensures refl
