-- Lemmas on ways, that speak of no pass.
use Rattle.std.specs.Prelude.{ℕ, ◌≡◌}
use Rattle.run_laws.specs.run_step.Step.{AtInstr, AtTerm, Fetched, Nowhere}
use Rattle.ir_laws.specs.facts.branches.Ways.{TermsPaired}

-- what stands at a place, and what stands there then: the same, or terminators whose labels are related
abbrev pub AreFetched : (ℕ → ℕ → Type 0) → Fetched → Fetched → Type 0
AreFetched W Nowhere Nowhere = Unit {0}
AreFetched W (AtInstr i) (AtInstr j) = j ≡ i
AreFetched W (AtTerm t) (AtTerm u) = TermsPaired W t u
AreFetched W _ _ = ⊥
