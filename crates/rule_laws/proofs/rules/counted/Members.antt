-- Elements of lists, and what they make.
use Rattle.std.proofs.Common.{◌⊎◌, inl, inr, ⊎_elim, ℕ, List, [], ◌∷◌, ◌++◌, refl, subst}
use Rattle.rule_laws.proofs.rules.counted.Lists.{AreAmong}
use Rattle.rule_uses.specs.Uses.{made_by_instrs, made_by_phis}
use Rattle.ir_laws.proofs.paths.source_rules.Locals.{listed_either, listed_left, listed_right}
use Rattle.rule_laws.proofs.rules.source_rules.Locals.{made_by}
use Rattle.ir_laws.proofs.facts.Lists.{phi_names, row_of}
use Rattle.ir_laws.specs.flow_solver.Paths.{IsListed}
use Rattle.ir_laws.specs.ir_model.declared.instr.Instr.{Instr}
use Rattle.ir_laws.specs.ir_model.declared.instr.Phi.{Phi}

-- ---- what instructions make

pub row_to : (xs : List Instr) (x : Instr) (n : ℕ) → IsListed x xs → IsListed n (made_by x) → IsListed n (row_of made_by xs)
row_to [] x n l h = absurd l
row_to (y ∷ ys) x n (inl e) h = listed_left n (made_by y) (row_of made_by ys) (subst (λ (z : Instr). IsListed n (made_by z)) e h)
row_to (y ∷ ys) x n (inr l) h = listed_right n (made_by y) (row_of made_by ys) (row_to ys x n l h)

pub row_from : (xs : List Instr) (n : ℕ) → IsListed n (row_of made_by xs) → (x : Instr) × (IsListed x xs × IsListed n (made_by x))
row_from [] n h = absurd h
row_from (y ∷ ys) n h = ⊎_elim (λ a. (y, (inl refl, a))) (λ b. let x = row_from ys n b in (x.0, (inr x.1.0, x.1.1))) (listed_either n (made_by y) (row_of made_by ys) h)

-- where all elements are elements, what they make is made
pub row_among : (xs ys : List Instr) → ((x : Instr) → IsListed x xs → IsListed x ys) → AreAmong (row_of made_by xs) (row_of made_by ys)
row_among xs ys h n l = let x = row_from xs n l in row_to ys x.0 n (h x.0 x.1.0) x.1.1

pub made_either : (is : List Instr) (before : List ℕ) (n : ℕ) → IsListed n (made_by_instrs before is) → IsListed n before ⊎ IsListed n (row_of made_by is)
made_either [] before n h = inl h
made_either (i ∷ is) before n h =
    ⊎_elim (λ a. ⊎_elim (λ b. inr (listed_left n (made_by i) (row_of made_by is) b)) (λ c. inl c) (listed_either n (made_by i) before a)) (λ r. inr (listed_right n (made_by i) (row_of made_by is) r))
    (made_either is (made_by i ++ before) n h)

-- ---- phis

phis_stay_made : (ps : List Phi) (before : List ℕ) → AreAmong before (made_by_phis before ps)
phis_stay_made [] before n h = h
phis_stay_made (p ∷ ps) before n h = phis_stay_made ps (p.result ∷ before) n (inr h)

pub phis_made : (ps : List Phi) (before : List ℕ) → AreAmong (phi_names ps) (made_by_phis before ps)
phis_made [] before n h = absurd h
phis_made (p ∷ ps) before n (inl e) = phis_stay_made ps (p.result ∷ before) n (inl e)
phis_made (p ∷ ps) before n (inr h) = phis_made ps (p.result ∷ before) n h
