use Rattle.std.proofs.Common.{◌≡◌, ℕ, drop}
use Rattle.std.specs.Prelude.{false}
use Rattle.rule_names.specs.Numbers.{is_marked}
use Rattle.rule_names.proofs.Marks.{marked}
use Rattle.rule_names.proofs.known.defined.Given as goal

abbrev pub invariant-loop-definition : goal.invariant-loop-definition
invariant-loop-definition l = (n : ℕ) → marked l.label (is_marked l.set) (drop l.definition-index l.definitions) n ≡ marked l.label (λ k. false) l.definitions n
