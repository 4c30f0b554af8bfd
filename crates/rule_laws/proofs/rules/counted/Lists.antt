-- What lists of instructions make.
use Rattle.std.proofs.Common.{◌≡◌, ⊎_elim, ℕ, List, [], ◌∷◌, ◌++◌, refl, ap, ◌∙◌, sym, append_assoc}
use Rattle.rule_uses.specs.Uses.{made_by_instrs}
use Rattle.ir_laws.proofs.paths.source_rules.Locals.{listed_either, listed_left, listed_right}
use Rattle.rule_laws.proofs.rules.source_rules.Locals.{made_by}
use Rattle.ir_laws.proofs.facts.Lists.{row_of}
use Rattle.ir_laws.specs.flow_solver.Paths.{IsListed}
use Rattle.ir_laws.specs.ir_model.declared.instr.Instr.{Instr}

-- what one list has the other has
abbrev pub AreAmong : List ℕ → List ℕ → Type 0
AreAmong xs ys = (n : ℕ) → IsListed n xs → IsListed n ys

pub among_behind : (more xs : List ℕ) → AreAmong xs (more ++ xs)
among_behind more xs n h = listed_right n more xs h

pub among_both : (more xs ys : List ℕ) → AreAmong xs ys → AreAmong (more ++ xs) (more ++ ys)
among_both more xs ys h n l = ⊎_elim (λ a. listed_left n more ys a) (λ b. listed_right n more ys (h n b)) (listed_either n more xs l)

-- ---- what has been made stays made

pub made_joined : (before : List ℕ) (xs ys : List Instr) → made_by_instrs before (xs ++ ys) ≡ made_by_instrs (made_by_instrs before xs) ys
made_joined before [] ys = refl
made_joined before (x ∷ xs) ys = made_joined (made_by x ++ before) xs ys

pub made_grows : (is : List Instr) (before : List ℕ) → AreAmong before (made_by_instrs before is)
made_grows [] before n h = h
made_grows (i ∷ is) before n h = made_grows is (made_by i ++ before) n (listed_right n (made_by i) before h)

pub made_listed : (is : List Instr) (before : List ℕ) (n : ℕ) → IsListed n (row_of made_by is) → IsListed n (made_by_instrs before is)
made_listed [] before n h = absurd h
made_listed (i ∷ is) before n h =
    ⊎_elim (λ a. made_grows is (made_by i ++ before) n (listed_left n (made_by i) before a)) (λ b. made_listed is (made_by i ++ before) n b) (listed_either n (made_by i) (row_of made_by is) h)

pub row_joined : {A : Type 0} (g : A → List ℕ) (xs ys : List A) → row_of g (xs ++ ys) ≡ row_of g xs ++ row_of g ys
row_joined g [] ys = refl
row_joined g (x ∷ xs) ys = ap (λ l. g x ++ l) (row_joined g xs ys) ∙ sym (append_assoc (g x) (row_of g xs) (row_of g ys))
