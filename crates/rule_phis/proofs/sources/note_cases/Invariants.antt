use Rattle.std.proofs.Common.{◌≡◌, ℕ, drop}
use Rattle.std.specs.Prelude.{◌||◌}
use Rattle.std.specs.List.{list_any}
use Rattle.rule_phis.specs.Edges.{has}
use Rattle.rule_phis.specs.Mentions.{case_edge, sources_at}
use Rattle.rule_phis.proofs.sources.note_cases.Given as goal

abbrev pub invariant-loop-case : goal.invariant-loop-case
invariant-loop-case l =
    (k n : ℕ) → (list_any (case_edge l.from k n) (drop l.case-index l.cases) || has (sources_at l.sources k) n) ≡ (list_any (case_edge l.from k n) l.cases || has (sources_at l.initial.sources k) n)
