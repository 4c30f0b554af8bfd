-- Lemmas on entered, that speak of no pass.
use Rattle.std.proofs.Common.{Bool, List, [], ap, false, inl, inr, refl, subst, sym, true, ℕ, ◌∙◌, ◌∷◌, ◌≡◌}
use Rattle.std.specs.Prelude.{filter, ◌==◌, ◌||◌}
use Rattle.ir_laws.proofs.facts.Truth.{equal_numbers, itself}
use Rattle.rule_phis.specs.Edges.{has, leads, predecessors}
use Rattle.ir_laws.specs.flow_solver.Paths.{IsListed}
use Rattle.ir_laws.specs.ir_model.declared.module.Block.{Block}
use Rattle.ir_laws.specs.ir_model.declared.module.Function.{Function}
use Rattle.ir_laws.specs.ir_paths.Paths.{targets}
use Rattle.ir_laws.proofs.paths.edges.Lists.{from_filtered, from_mapped}
use Rattle.ir_laws.proofs.facts.Numbers.{label_of}
use Rattle.ir_laws.proofs.paths.edges.Shaped.{any_there}
use Rattle.rule_laws.proofs.rules.known_labels.Rules.{labels_spelt as targets_are}
use Rattle.ir_laws.proofs.paths.edges.Entered.{IsPredecessor}

-- ---- tests as lists

pub has_listed : (ns : List ℕ) (n : ℕ) → IsListed n ns → has ns n ≡ true
has_listed [] n l = absurd l
has_listed (k ∷ ns) n (inl e) = ap (λ (j : ℕ). (k == j) || has ns n) e ∙ ap (λ (b : Bool). b || has ns n) (itself k)
has_listed (k ∷ ns) n (inr l) = on (k == n) (has_listed ns n l)
  where
    on : (b : Bool) → has ns n ≡ true → (b || has ns n) ≡ true
    on true e = refl
    on false e = e

pub listed_has : (ns : List ℕ) (n : ℕ) → has ns n ≡ true → IsListed n ns
listed_has ns n h = let x = any_there (λ (k : ℕ). k == n) ns h in subst (λ (k : ℕ). IsListed k ns) (equal_numbers x.0 n x.1.1) x.1.0

pub led_from : (label : ℕ) (d : Block) → leads label d ≡ true → IsListed label (targets d.term)
led_from label d h = listed_has (targets d.term) label (ap (λ (ns : List ℕ). has ns label) (sym (targets_are d.term)) ∙ h)

pub from_predecessors : (f : Function) (label n : ℕ) → IsListed n (predecessors f label) → IsPredecessor f label n
from_predecessors f label n l =
    let x = from_mapped label_of (filter (leads label) f.blocks) n l in
    let y = from_filtered (leads label) f.blocks x.0 x.1.0 in
    record { block = x.0; listed = y.0; is = x.1.1; leads_there = led_from label x.0 y.1 }
