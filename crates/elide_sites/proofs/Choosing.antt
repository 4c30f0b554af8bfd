-- One element more of a list from which some are chosen.
use Rattle.std.proofs.Common.{◌≡◌, ℕ, suc, ◌+◌, ◌<◌, ◌≤◌, Bool, true, false, List, [], ◌∷◌, ◌++◌, length, take, get_or, refl, sym, ap, ◌∙◌, subst, arith, add-one}
use Rattle.std.proofs.lemmas.Bool.{false≢true}
use Rattle.std.proofs.lemmas.List.{take_more}
use Rattle.std.specs.Prelude.{IsTrue, ◌↔◌, if◌then◌else◌}
use Rattle.elide_sites.specs.Chosen.{AreChosen, up_to}
use Rattle.elide_sites.specs.Chosen.AreChosen.{Nothing, Taken, LeftOut}
use Rattle.flow_points.proofs.Tests.{take-all}

nothing_more : {T : Type 0} (xs : List T) → xs ++ [] ≡ xs
nothing_more [] = refl
nothing_more (x ∷ xs) = ap (λ l. x ∷ l) (nothing_more xs)

-- one element more, with a test that tells whether the fact holds
pub chosen_step : {T : Type 0} (Holds : T → Type 0) (xs : List T) (i : ℕ) (d : T) (all next : List T) (b : Bool) → i < length xs → IsTrue b ↔ Holds (get_or xs i d) → next ≡ all ++ (if b then get_or xs i d ∷ [] else []) →
    AreChosen Holds (take i xs) all → AreChosen Holds (take (i + 1) xs) next
chosen_step Holds xs i d all next true lt right put before =
    subst (AreChosen Holds (take (i + 1) xs)) (sym put)
    (subst (λ l. AreChosen Holds l (all ++ get_or xs i d ∷ [])) (sym (take_more xs i d lt)) (Taken (get_or xs i d) (take i xs) all before (right.0 refl)))
chosen_step Holds xs i d all next false lt right put before =
    subst (AreChosen Holds (take (i + 1) xs)) (sym (put ∙ nothing_more all))
    (subst (λ l. AreChosen Holds l all) (sym (take_more xs i d lt)) (LeftOut (get_or xs i d) (take i xs) all before (λ h. false≢true (right.1 h))))

pub chosen_all : {T : Type 0} (Holds : T → Type 0) (xs : List T) (i : ℕ) (all : List T) → length xs ≤ i → AreChosen Holds (take i xs) all → AreChosen Holds xs all
chosen_all Holds xs i all le before = subst (λ l. AreChosen Holds l all) (take-all xs i le) before

-- ---- the first numbers

pub number_step : (Holds : ℕ → Type 0) (n : ℕ) (all next : List ℕ) (b : Bool) → IsTrue b ↔ Holds n → next ≡ all ++ (if b then n ∷ [] else []) → AreChosen Holds (up_to n) all → AreChosen Holds (up_to (n + 1)) next
number_step Holds n all next true right put before =
    subst (AreChosen Holds (up_to (n + 1))) (sym put)
    (subst (λ m. AreChosen Holds (up_to m) (all ++ n ∷ [])) (sym (add-one n)) (Taken n (up_to n) all before (right.0 refl)))
number_step Holds n all next false right put before =
    subst (AreChosen Holds (up_to (n + 1))) (sym (put ∙ nothing_more all))
    (subst (λ m. AreChosen Holds (up_to m) all) (sym (add-one n)) (LeftOut n (up_to n) all before (λ h. false≢true (right.1 h))))

pub numbers_all : (Holds : ℕ → Type 0) (n m : ℕ) (all : List ℕ) → n ≡ m → AreChosen Holds (up_to n) all → AreChosen Holds (up_to m) all
numbers_all Holds n m all is before = subst (λ k. AreChosen Holds (up_to k) all) is before
