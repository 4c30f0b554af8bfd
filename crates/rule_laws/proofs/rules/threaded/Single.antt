-- Lemmas on single, that speak of no pass.
use Rattle.std.proofs.Common.{◌≡◌, ℕ, inl, inr, true, List, [], ◌∷◌, ap, ◌∙◌}
use Rattle.std.specs.Prelude.{◌==◌}
use Rattle.rule_phis.specs.Edges.{has, leads}
use Rattle.rule_laws.proofs.rules.known_labels.Rules.{labels_spelt}
use Rattle.ir_laws.specs.flow_solver.Paths.{IsListed}
use Rattle.ir_laws.specs.ir_model.declared.module.Block.{Block}
use Rattle.ir_laws.proofs.ir_paths.Search.{eq_itself, or_left, or_right}
use Rattle.ir_laws.specs.ir_paths.Paths.{targets}

-- ---- phis

listed_has : (labels : List ℕ) (label : ℕ) → IsListed label labels → has labels label ≡ true
listed_has [] label l = absurd l
listed_has (t ∷ labels) label (inl e) = or_left (t == label) (has labels label) (ap (λ (n : ℕ). t == n) e ∙ eq_itself t)
listed_has (t ∷ labels) label (inr l) = or_right (t == label) (has labels label) (listed_has labels label l)

pub listed_leads : (b : Block) (label : ℕ) → IsListed label (targets b.term) → leads label b ≡ true
listed_leads b label l = ap (λ (labels : List ℕ). has labels label) (labels_spelt b.term) ∙ listed_has (targets b.term) label l
