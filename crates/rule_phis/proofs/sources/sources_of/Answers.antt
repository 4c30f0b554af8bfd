use Rattle.std.proofs.Common.{ℕ}
use Rattle.rule_phis.specs.Edges.{has}
use Rattle.rule_phis.specs.Mentions.{sources_at}
use Rattle.rule_phis.proofs.Members.{sources_done}
use Rattle.rule_phis.proofs.sources.sources_of.Goals as goal

pub returns : goal.returns
returns c =
    sources_done c.args.function.now c.as_slice.result.now (sources_at c.in_ok-sources.sources) (λ (k n : ℕ). has (sources_at c.note_blocks.new.sources k) n) c.as_slice.ensures c.in_ok-sources.ensures c.in_ok-note_blocks.ensures
