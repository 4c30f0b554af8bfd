use Rattle.std.proofs.Common.{arith, ℕ}
use Rattle.std.specs.Prelude.{◌||◌}
use Rattle.std.specs.List.{list_any}
use Rattle.rule_phis.specs.Edges.{has}
use Rattle.rule_phis.specs.Mentions.{edges_from, sources_at}
use Rattle.rule_phis.proofs.Members.{one_more, all_noted}
use Rattle.rule_phis.proofs.sources.note_blocks.Goals as goal

pub loop-block-preserved : goal.loop-block-preserved
loop-block-preserved c =
    one_more edges_from c.args.blocks.now c.loop-block.block-index c.block-item.result (λ (k n : ℕ). has (sources_at c.loop-block.sources k) n) (λ (k n : ℕ). has (sources_at c.note_ending.new.sources k) n) (λ (k n : ℕ). list_any (λ b. edges_from b k n) c.args.blocks.now || has (sources_at c.args.sources.now k) n) c.loop-block-test.true c.block-item.is c.in_ok-note_ending.ensures c.loop-block.invariant

pub returns : goal.returns
returns c =
    all_noted edges_from c.args.blocks.now c.loop-block.block-index (λ (k n : ℕ). has (sources_at c.loop-block.sources k) n) (λ (k n : ℕ). list_any (λ b. edges_from b k n) c.args.blocks.now || has (sources_at c.args.sources.now k) n) (omega arith) c.loop-block.invariant
