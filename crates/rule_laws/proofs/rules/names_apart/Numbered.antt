-- Names of words and numbers, row by row, are all different.
use Rattle.std.proofs.Common.{◌≡◌, ℕ, zero, suc, ◌+◌, ◌%◌, ◌<◌, ◌≤◌, ◌^◌, Bool, true, false, List, [], ◌∷◌, ◌++◌, refl, sym, ap, subst, arith, decimal}
use Rattle.std.specs.Prelude.{codes, ◌==◌, ◌&&◌, ◌||◌}
use Rattle.std.specs.List.{list_all}
use Rattle.std.proofs.lemmas.Bool.{and_parts, eq-eqb}
use Rattle.std.proofs.lemmas.Fmt.{decimal_by_steps, decimal_injective}
use Rattle.std.proofs.lemmas.List.{append_cancel_left}
use Rattle.ir_laws.specs.ir_base.declared.name.Name.{Name}
use Rattle.ir_laws.specs.ir_model.Names.{numbered, same_text}
use Rattle.ir_laws.proofs.ir_tables.Tables.{same_text-same}
use Rattle.rule_names.specs.Reserved.{begins_with, name_begins}
use Rattle.ir_laws.proofs.facts.Members.{each_behind, each_all, each_turns, different_behind}
use Rattle.ir_laws.specs.run_laws.changed.Changed.{Each}
use Rattle.ir_laws.proofs.facts.Lists.{AreDifferent, IsNone, row, rows}
use Rattle.rule_laws.proofs.rules.names_apart.Words.{AreNew, are_unlike, last_words, name_never_both}
use Rattle.rule_laws.specs.rules.names_apart.Words.{begins_with_one}

-- ---- words

abbrev is_pair : List ℕ → List ℕ → Bool
is_pair v w = same_text v w || are_unlike v w

abbrev are_pairs : List (List ℕ) → List (List ℕ) → Bool
are_pairs vs ws = list_all (λ v. list_all (is_pair v) ws) vs

-- each is unlike those behind it
abbrev are_apart : List (List ℕ) → Bool
are_apart [] = true
are_apart (v ∷ vs) = list_all (are_unlike v) vs && are_apart vs

-- so that names of these words and numbers are all different
abbrev pub are_right : List (List ℕ) → Bool
are_right ws = are_apart ws && are_pairs ws ws

-- ---- two names

begins_itself : (w t : List ℕ) → begins_with w (w ++ t) ≡ true
begins_itself [] t = refl
begins_itself (x ∷ w) t = both (x == x) (begins_with w (w ++ t)) (eq-eqb x x refl) (begins_itself w t)
  where
    both : (a b : Bool) → a ≡ true → b ≡ true → (a && b) ≡ true
    both true b e f = f
    both false b e f = e

abbrev pub text_in : Name → List ℕ
text_in (Name.Number n) = []
text_in (Name.Text t) = t

unlike_differ : (v w : List ℕ) (i j : ℕ) → are_unlike v w ≡ true → numbered v i ≡ numbered w j → ⊥
unlike_differ v w i j unlike same =
    name_never_both v w (numbered w j)
    (subst (λ (n : Name). name_begins v n ≡ true) same (begins_itself v (decimal i)))
    (begins_itself w (decimal j)) unlike

numbers_differ : (w : List ℕ) (i j : ℕ) → i < j → j < 2 ^ 64 → numbered w i ≡ numbered w j → ⊥
numbers_differ w i j less small same =
    let equal : i ≡ j = decimal_injective i j (omega arith) small (append_cancel_left w (decimal i) (decimal j) (ap text_in same)) in
    omega (arith, equal)

pair_differs : (v w : List ℕ) (i j : ℕ) → i < j → j < 2 ^ 64 → is_pair v w ≡ true → numbered v i ≡ numbered w j → ⊥
pair_differs v w i j less small pair = on (same_text v w) refl pair
  where
    on : (b : Bool) → same_text v w ≡ b → (b || are_unlike v w) ≡ true → numbered v i ≡ numbered w j → ⊥
    on true e p same = numbers_differ w i j less small (subst (λ (t : List ℕ). numbered t i ≡ numbered w j) (same_text-same v w e) same)
    on false e p same = unlike_differ v w i j p same

-- ---- a row, and two rows

row_begins : (ws : List (List ℕ)) (k : ℕ) → Each (λ n. begins_with_one ws n ≡ true) (row ws k)
row_begins [] k = tt
row_begins (w ∷ ws) k = (
  subst (λ (b : Bool). (b || begins_with_one ws (numbered w k)) ≡ true) (sym (begins_itself w (decimal k))) refl,
  each_turns (λ n. begins_with_one ws n ≡ true) (λ n. begins_with_one (w ∷ ws) n ≡ true) (λ n e. last_words (w ∷ []) ws n e) (row ws k) (row_begins ws k),
)

one_in_row : (v : List ℕ) (ws : List (List ℕ)) (k : ℕ) → list_all (are_unlike v) ws ≡ true → IsNone (numbered v k) (row ws k)
one_in_row v [] k e = tt
one_in_row v (w ∷ ws) k e = let both = and_parts (are_unlike v w) (list_all (are_unlike v) ws) e in (unlike_differ v w k k both.0, one_in_row v ws k both.1)

row_different : (ws : List (List ℕ)) (k : ℕ) → are_apart ws ≡ true → AreDifferent (row ws k)
row_different [] k e = tt
row_different (w ∷ ws) k e = let both = and_parts (list_all (are_unlike w) ws) (are_apart ws) e in (one_in_row w ws k both.0, row_different ws k both.1)

one_other_row : (v : List ℕ) (ws : List (List ℕ)) (i j : ℕ) → i < j → j < 2 ^ 64 → list_all (is_pair v) ws ≡ true → Each (λ y. numbered v i ≡ y → ⊥) (row ws j)
one_other_row v [] i j less small e = tt
one_other_row v (w ∷ ws) i j less small e = let both = and_parts (is_pair v w) (list_all (is_pair v) ws) e in (pair_differs v w i j less small both.0, one_other_row v ws i j less small both.1)

other_row : (vs ws : List (List ℕ)) (i j : ℕ) → i < j → j < 2 ^ 64 → are_pairs vs ws ≡ true → Each (λ y. Each (λ x. x ≡ y → ⊥) (row vs i)) (row ws j)
other_row [] ws i j less small e = each_all (λ y. Unit {0}) (λ y. tt) (row ws j)
other_row (v ∷ vs) ws i j less small e =
    let both = and_parts (list_all (is_pair v) ws) (are_pairs vs ws) e in
    paired (row ws j) (one_other_row v ws i j less small both.0) (other_row vs ws i j less small both.1)
  where
    paired : (ys : List Name) → Each (λ y. numbered v i ≡ y → ⊥) ys → Each (λ y. Each (λ x. x ≡ y → ⊥) (row vs i)) ys → Each (λ y. Each (λ x. x ≡ y → ⊥) (row (v ∷ vs) i)) ys
    paired [] h k = tt
    paired (y ∷ ys) h k = ((h.0, k.0), paired ys h.1 k.1)

-- ---- all rows

other_rows : (ws : List (List ℕ)) (n k : ℕ) → n ≤ k → k < 2 ^ 64 → are_pairs ws ws ≡ true → Each (λ y. Each (λ x. x ≡ y → ⊥) (rows ws n)) (row ws k)
other_rows ws zero k below small e = each_all (λ y. Unit {0}) (λ y. tt) (row ws k)
other_rows ws (suc n) k below small e = joined (row ws k) (other_rows ws n k (omega arith) small e) (other_row ws ws n k (omega arith) small e)
  where
    joined : (ys : List Name) → Each (λ y. Each (λ x. x ≡ y → ⊥) (rows ws n)) ys → Each (λ y. Each (λ x. x ≡ y → ⊥) (row ws n)) ys → Each (λ y. Each (λ x. x ≡ y → ⊥) (rows ws n ++ row ws n)) ys
    joined [] h k = tt
    joined (y ∷ ys) h k = (each_behind (λ x. x ≡ y → ⊥) (rows ws n) (row ws n) h.0 k.0, joined ys h.1 k.1)

rows_different : (ws : List (List ℕ)) (n : ℕ) → n ≤ 2 ^ 64 → are_apart ws ≡ true → are_pairs ws ws ≡ true → AreDifferent (rows ws n)
rows_different ws zero small e f = tt
rows_different ws (suc n) small e f =
    different_behind (rows ws n) (row ws n) (rows_different ws n (omega arith) e f) (row_different ws n e) (other_rows ws n n (omega arith) (omega arith) f)

rows_begin : (ws : List (List ℕ)) (n : ℕ) → Each (λ m. begins_with_one ws m ≡ true) (rows ws n)
rows_begin ws zero = tt
rows_begin ws (suc n) = each_behind (λ m. begins_with_one ws m ≡ true) (rows ws n) (row ws n) (rows_begin ws n) (row_begins ws n)

pub rows_new : (ws : List (List ℕ)) (n : ℕ) → are_right ws ≡ true → n ≤ 2 ^ 64 → AreNew ws (rows ws n)
rows_new ws n right small =
    let both = and_parts (are_apart ws) (are_pairs ws ws) right in
    record { different = rows_different ws n small both.0 both.1; words = rows_begin ws n }

-- ---- numbers behind `$c.`

-- `$c.` and a digit
abbrev pub digit_words : List (List ℕ)
digit_words =
    codes "$c.0" ∷ codes "$c.1" ∷ codes "$c.2" ∷ codes "$c.3" ∷ codes "$c.4"
    ∷ codes "$c.5" ∷ codes "$c.6" ∷ codes "$c.7" ∷ codes "$c.8" ∷ codes "$c.9" ∷ []

abbrev IsMarked : List ℕ → Type 0
IsMarked ds = begins_with_one digit_words (Name.Text (codes "$c." ++ ds)) ≡ true

one_digit : (n : ℕ) → n < 10 → IsMarked ((48 + n) ∷ [])
one_digit zero h = refl
one_digit (suc zero) h = refl
one_digit (suc (suc zero)) h = refl
one_digit (suc (suc (suc zero))) h = refl
one_digit (suc (suc (suc (suc zero)))) h = refl
one_digit (suc (suc (suc (suc (suc zero))))) h = refl
one_digit (suc (suc (suc (suc (suc (suc zero)))))) h = refl
one_digit (suc (suc (suc (suc (suc (suc (suc zero))))))) h = refl
one_digit (suc (suc (suc (suc (suc (suc (suc (suc zero)))))))) h = refl
one_digit (suc (suc (suc (suc (suc (suc (suc (suc (suc zero))))))))) h = refl
one_digit (suc (suc (suc (suc (suc (suc (suc (suc (suc (suc n)))))))))) h = absurd (omega arith)

begins_longer : (w s t : List ℕ) → begins_with w s ≡ true → begins_with w (s ++ t) ≡ true
begins_longer [] s t e = refl
begins_longer (x ∷ w) [] t e = absurd (cc)
begins_longer (x ∷ w) (y ∷ s) t e = let both = and_parts (x == y) (begins_with w s) e in with_first (x == y) both.0 (begins_longer w s t both.1)
  where
    with_first : (b : Bool) → b ≡ true → begins_with w (s ++ t) ≡ true → (b && begins_with w (s ++ t)) ≡ true
    with_first true e f = f
    with_first false e f = e

one_longer : (ws : List (List ℕ)) (s t : List ℕ) → begins_with_one ws (Name.Text s) ≡ true → begins_with_one ws (Name.Text (s ++ t)) ≡ true
one_longer [] s t e = e
one_longer (w ∷ ws) s t e = on (begins_with w s) refl e (one_longer ws s t)
  where
    on : (b : Bool) → begins_with w s ≡ b → (b || begins_with_one ws (Name.Text s)) ≡ true → (begins_with_one ws (Name.Text s) ≡ true → begins_with_one ws (Name.Text (s ++ t)) ≡ true) → (begins_with w (s ++ t) || begins_with_one ws (Name.Text (s ++ t))) ≡ true
    on true f g rest = subst (λ (b : Bool). (b || begins_with_one ws (Name.Text (s ++ t))) ≡ true) (sym (begins_longer w s t f)) refl
    on false f g rest = last_words (w ∷ []) ws (Name.Text (s ++ t)) (rest g)

more_digits : (n : ℕ) (ds : List ℕ) → 10 ≤ n → IsMarked ds → IsMarked (ds ++ (48 + n % 10) ∷ [])
more_digits n ds h e = one_longer digit_words (codes "$c." ++ ds) ((48 + n % 10) ∷ []) e

pub digits_begin : (n : ℕ) → n < 2 ^ 64 → begins_with_one digit_words (numbered (codes "$c.") n) ≡ true
digits_begin n small = decimal_by_steps (λ m ds. IsMarked ds) one_digit more_digits n small

digit_rows : (n : ℕ) → n ≤ 2 ^ 64 → Each (λ m. begins_with_one digit_words m ≡ true) (rows (codes "$c." ∷ []) n)
digit_rows zero small = tt
digit_rows (suc n) small = each_behind (λ m. begins_with_one digit_words m ≡ true) (rows (codes "$c." ∷ []) n) (row (codes "$c." ∷ []) n) (digit_rows n (omega arith)) (digits_begin n (omega arith), tt)

pub numbers_new : (n : ℕ) → n ≤ 2 ^ 64 → AreNew digit_words (rows (codes "$c." ∷ []) n)
numbers_new n small = record { different = rows_different (codes "$c." ∷ []) n small refl refl; words = digit_rows n small }
