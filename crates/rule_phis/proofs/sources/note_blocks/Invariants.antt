use Rattle.std.proofs.Common.{◌≡◌, ℕ, drop}
use Rattle.std.specs.Prelude.{◌||◌}
use Rattle.std.specs.List.{list_any}
use Rattle.rule_phis.specs.Edges.{has}
use Rattle.rule_phis.specs.Mentions.{edges_from, sources_at}
use Rattle.rule_phis.proofs.sources.note_blocks.Given as goal

abbrev pub invariant-loop-block : goal.invariant-loop-block
invariant-loop-block l =
    (k n : ℕ) → (list_any (λ b. edges_from b k n) (drop l.block-index l.blocks) || has (sources_at l.sources k) n) ≡ (list_any (λ b. edges_from b k n) l.blocks || has (sources_at l.initial.sources k) n)
