-- Marks of names, one instruction after another.
use Rattle.std.proofs.Common.{◌≡◌, ℕ, zero, suc, ◌+◌, ◌<◌, ◌≤◌, Bool, true, false, ◌||◌, List, [], ◌∷◌, length, take, get_or, refl, ap, sym, ◌∙◌, arith, Option, Some, None}
use Rattle.std.specs.Prelude.{option_map, replicate, slice_get, slice_set, ◌==◌}
use Rattle.std.specs.List.{list_any}
use Rattle.std.proofs.lemmas.List.Folds.{list_any_more}
use Rattle.std.proofs.Math.Dec.{eqb-suc-suc, eqb-suc-zero, eqb-zero-suc}
use Rattle.run_step.specs.Tables.{IsMarked}
use Rattle.run_step.proofs.LabelPositions.{slice_get-replicate}

or-none : (a : Bool) → a || false ≡ a
or-none true = refl
or-none false = refl

or-true : (a : Bool) → true ≡ a || true
or-true true = refl
or-true false = refl

or-or : (a b c : Bool) → (a || b) || c ≡ a || (b || c)
or-or true b c = refl
or-or false b c = refl

or-test : (o : Option Bool) (t : Bool) → t ≡ false → o ≡ option_map (λ m. m || t) o
or-test None t e = refl
or-test (Some a) t e = ap Some (sym (or-none a)) ∙ ap (λ u. Some (a || u)) (sym e)

-- no name passes the test
pub none-marked : (table : List Bool) (test : ℕ → Bool) → ((name : ℕ) → test name ≡ false) → IsMarked table table test
none-marked table test h = record { marks = λ name. or-test (slice_get table name) (test name) (h name) }

set-at : (xs : List Bool) (v name : ℕ) → slice_get (slice_set xs v true) name ≡ option_map (λ m. m || (name == v)) (slice_get xs name)
set-at [] v name = refl
set-at (x ∷ xs) zero zero = ap Some (or-true x)
set-at (x ∷ xs) zero (suc name) = or-test (slice_get xs name) (suc name == zero) (eqb-suc-zero name)
set-at (x ∷ xs) (suc v) zero = ap Some (sym (or-none x)) ∙ ap (λ t. Some (x || t)) (sym (eqb-zero-suc v))
set-at (x ∷ xs) (suc v) (suc name) = set-at xs v name ∙ ap (λ t. option_map (λ m. m || t) (slice_get xs name)) (sym (eqb-suc-suc name v))

-- one name passes the test
pub one-marked : (xs next : List Bool) (v : ℕ) → next ≡ slice_set xs v true → IsMarked xs next (λ name. name == v)
one-marked xs next v e = record { marks = λ name. ap (λ (l : List Bool). slice_get l name) e ∙ set-at xs v name }

twice : (o : Option Bool) (a b : Bool) → option_map (λ m. m || b) (option_map (λ m. m || a) o) ≡ option_map (λ m. m || (a || b)) o
twice None a b = refl
twice (Some m) a b = ap Some (or-or m a b)

-- one element more is marked
pub marked-more : {A : Type 0} (test : ℕ → A → Bool) (xs : List A) (i : ℕ) (x : A) (first old new : List Bool) → i < length xs → x ≡ get_or xs i x → IsMarked first old (λ name. list_any (test name) (take i xs)) → IsMarked old new (λ name. test name x) → IsMarked first new (λ name. list_any (test name) (take (i + 1) xs))
marked-more test xs i x first old new lt e h k =
    record {
      marks = λ name.
          let so_far = list_any (test name) (take i xs) in
          let more : list_any (test name) (take (i + 1) xs) ≡ (so_far || test name x) = list_any_more (test name) xs i x lt ∙ ap (λ y. so_far || test name y) (sym e) in
          k.marks name
          ∙ ap (λ o. option_map (λ m. m || test name x) o) (h.marks name)
          ∙ twice (slice_get first name) so_far (test name x)
          ∙ ap (λ b. option_map (λ m. m || b) (slice_get first name)) (sym more);
    }

mapped : (o p : Option Bool) (t mark : Bool) → o ≡ option_map (λ m. m || t) p → ((m : Bool) → p ≡ Some m → m ≡ false) → o ≡ Some mark → mark ≡ t
mapped o None t mark e none is = absurd cc
mapped o (Some true) t mark e none is = absurd (let z = none true refl in cc)
mapped o (Some false) t mark e none is = cc

-- where no name was marked before, just those are marked that pass the test
pub marked-alone : (count : ℕ) (first table : List Bool) (test : ℕ → Bool) → first ≡ replicate count false → IsMarked first table test → (name : ℕ) (mark : Bool) → slice_get table name ≡ Some mark → mark ≡ test name
marked-alone count first table test e h name mark get =
    mapped (slice_get table name) (slice_get first name) (test name) mark (h.marks name)
    (λ m is. slice_get-replicate count name false m (ap (λ (l : List Bool). slice_get l name) (sym e) ∙ is)) get

none-left : {A : Type 0} (xs : List A) (i : ℕ) → length xs ≤ i → take i xs ≡ xs
none-left [] zero le = refl
none-left [] (suc i) le = refl
none-left (x ∷ xs) zero le = absurd (omega arith)
none-left (x ∷ xs) (suc i) le = ap (λ (l : List _). x ∷ l) (none-left xs i (omega arith))

-- every element is marked
pub marked-all : {A : Type 0} (test : ℕ → A → Bool) (xs : List A) (i : ℕ) (first table : List Bool) → length xs ≤ i → IsMarked first table (λ name. list_any (test name) (take i xs)) → IsMarked first table (λ name. list_any (test name) xs)
marked-all test xs i first table le h =
    record { marks = λ name. h.marks name ∙ ap (λ l. option_map (λ m. m || list_any (test name) l) (slice_get first name)) (none-left xs i le) }
