use Rattle.std.proofs.Common.{ℕ}
use Rattle.rule_phis.specs.Edges.{has}
use Rattle.rule_phis.specs.Mentions.{sources_at}
use Rattle.rule_phis.proofs.Members.{switch_noted}
use Rattle.rule_phis.proofs.sources.note_switch.Goals as goal

pub returns : goal.returns
returns c =
    switch_noted c.args.from c.args.default c.args.cases.now (λ (k n : ℕ). has (sources_at c.args.sources.now k) n) (λ (k n : ℕ). has (sources_at c.note.new.self k) n) (λ (k n : ℕ). has (sources_at c.note_cases.new.sources k) n) c.in_ok-note.ensures c.in_ok-note_cases.ensures
