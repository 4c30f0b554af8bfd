-- Marks of positions, and the pairs that come of them.
use Rattle.std.proofs.Common.{◌≡◌, ℕ, zero, suc, ◌+◌, ◌<◌, List, [], ◌∷◌, ◌++◌, length, get_or, map, Bool, true, false, refl, sym, ap, ◌∙◌, ⊎_elim, arith}
use Rattle.std.specs.Prelude.{nat_lt, slice_set, ◌&&◌, ◌||◌, ◌==◌, if◌then◌else◌}
use Rattle.std.specs.List.{list_any}
use Rattle.std.proofs.lemmas.Bool.{cases_eq, eq-eqb, ne_eqb}
use Rattle.std.proofs.lemmas.List.{get_or-set_other, get_or-set_same, length-set}
use Rattle.std.proofs.lemmas.List.Folds.{list_any-append}
use Rattle.frame_layout.specs.Conflicts.{conflict, has_pair, is_apart, is_apart_at, pairs_of, share}
use Rattle.frame_layout.specs.Rows.{AreTables, firsts_of, marked_pairs, marks_by, seconds_of, with_marks, with_rows}
use Rattle.frame_layout.specs.declared.conflicts.Tables.{Tables}
use Rattle.frame_layout.specs.declared.layout.Field.{Field}

-- ---- tests

or_false : (a : Bool) → (a || false) ≡ a
or_false true = refl
or_false false = refl

or_true : (a : Bool) → (a || true) ≡ true
or_true true = refl
or_true false = refl

or_assoc : (a b c : Bool) → ((a || b) || c) ≡ (a || (b || c))
or_assoc true b c = refl
or_assoc false b c = refl

and_swap : (a b : Bool) → (a && b) ≡ (b && a)
and_swap true true = refl
and_swap true false = refl
and_swap false true = refl
and_swap false false = refl

any_same : {A : Type 0} (f g : A → Bool) (xs : List A) → ((x : A) → f x ≡ g x) → list_any f xs ≡ list_any g xs
any_same f g [] h = refl
any_same f g (x ∷ xs) h = ap (λ (b : Bool). b || list_any f xs) (h x) ∙ ap (λ (b : Bool). g x || b) (any_same f g xs h)

-- ---- halves of pairs

any_one : (t : Bool) (f : ℕ → Bool) (x : ℕ) → list_any f (if t then x ∷ [] else []) ≡ (t && f x)
any_one true f x = or_false (f x)
any_one false f x = refl

pub any_seconds : (f : ℕ → Bool) (ps : List (ℕ × ℕ)) (j : ℕ) → list_any f (seconds_of ps j) ≡ list_any (λ p. (p.0 == j) && f p.1) ps
any_seconds f [] j = refl
any_seconds f (p ∷ ps) j =
    list_any-append f (if p.0 == j then p.1 ∷ [] else []) (seconds_of ps j)
    ∙ ap (λ (b : Bool). b || list_any f (seconds_of ps j)) (any_one (p.0 == j) f p.1)
    ∙ ap (λ (b : Bool). ((p.0 == j) && f p.1) || b) (any_seconds f ps j)

pub any_firsts : (f : ℕ → Bool) (ps : List (ℕ × ℕ)) (s : ℕ) → list_any f (firsts_of ps s) ≡ list_any (λ p. (p.1 == s) && f p.0) ps
any_firsts f [] s = refl
any_firsts f (p ∷ ps) s =
    list_any-append f (if p.1 == s then p.0 ∷ [] else []) (firsts_of ps s)
    ∙ ap (λ (b : Bool). b || list_any f (firsts_of ps s)) (any_one (p.1 == s) f p.0)
    ∙ ap (λ (b : Bool). ((p.1 == s) && f p.0) || b) (any_firsts f ps s)

-- ---- marks

abbrev has : ℕ → List ℕ → Bool
has k xs = list_any (λ x. x == k) xs

one_mark : (ms : List Bool) (x k : ℕ) → k < length ms → get_or (slice_set ms x true) k false ≡ (get_or ms k false || (x == k))
one_mark ms x k lt = ⊎_elim here there (cases_eq x k)
  where
    here : x ≡ k → get_or (slice_set ms x true) k false ≡ (get_or ms k false || (x == k))
    here e =
        ap (λ (z : ℕ). get_or (slice_set ms z true) k false) e
        ∙ get_or-set_same ms k true false lt
        ∙ sym (ap (λ (b : Bool). get_or ms k false || b) (eq-eqb x k e) ∙ or_true (get_or ms k false))

    there : (x ≡ k → ⊥) → get_or (slice_set ms x true) k false ≡ (get_or ms k false || (x == k))
    there ne =
        get_or-set_other ms x k true false (λ e. ne (sym e))
        ∙ sym (ap (λ (b : Bool). get_or ms k false || b) (ne_eqb x k ne) ∙ or_false (get_or ms k false))

marks_count : (ms : List Bool) (ks : List ℕ) → length (with_marks ms ks) ≡ length ms
marks_count ms [] = refl
marks_count ms (k ∷ ks) = marks_count (slice_set ms k true) ks ∙ length-set ms k true

rows_count : (ms : List Bool) (rows : List (List ℕ)) (ss : List ℕ) → length (with_rows ms rows ss) ≡ length ms
rows_count ms rows [] = refl
rows_count ms rows (s ∷ ss) = rows_count (with_marks ms (get_or rows s [])) rows ss ∙ marks_count ms (get_or rows s [])

at_marks : (ms : List Bool) (ks : List ℕ) (k : ℕ) → k < length ms → get_or (with_marks ms ks) k false ≡ (get_or ms k false || has k ks)
at_marks ms [] k lt = sym (or_false (get_or ms k false))
at_marks ms (x ∷ ks) k lt =
    let same = length-set ms x true in
    at_marks (slice_set ms x true) ks k (omega (arith, lt, same))
    ∙ ap (λ (b : Bool). b || has k ks) (one_mark ms x k lt)
    ∙ or_assoc (get_or ms k false) (x == k) (has k ks)

at_rows : (ms : List Bool) (rows : List (List ℕ)) (ss : List ℕ) (k : ℕ) → k < length ms → get_or (with_rows ms rows ss) k false ≡ (get_or ms k false || list_any (λ s. has k (get_or rows s [])) ss)
at_rows ms rows [] k lt = sym (or_false (get_or ms k false))
at_rows ms rows (s ∷ ss) k lt =
    let same = marks_count ms (get_or rows s []) in
    at_rows (with_marks ms (get_or rows s [])) rows ss k (omega (arith, lt, same))
    ∙ ap (λ (b : Bool). b || list_any (λ x. has k (get_or rows x [])) ss) (at_marks ms (get_or rows s []) k lt)
    ∙ or_assoc (get_or ms k false) (has k (get_or rows s [])) (list_any (λ x. has k (get_or rows x [])) ss)

-- what the rows of the suspends of j have
shared : (one other : List (ℕ × ℕ)) (rows : List (List ℕ)) (row : List ℕ) (j k : ℕ) → row ≡ seconds_of one j → ((s : ℕ) → get_or rows s [] ≡ firsts_of other s) →
    list_any (λ s. has k (get_or rows s [])) row ≡ share one other j k
shared one other rows row j k is each =
    ap (λ (l : List ℕ). list_any (λ s. has k (get_or rows s [])) l) is
    ∙ any_same (λ s. has k (get_or rows s [])) (λ s. has_pair other k s) (seconds_of one j) (λ s. ap (has k) (each s) ∙ any_firsts (λ x. x == k) other s)
    ∙ any_seconds (λ s. has_pair other k s) one j

named : (pairs : List (ℕ × ℕ)) (row : List ℕ) (j k : ℕ) → row ≡ seconds_of pairs j → has k row ≡ has_pair pairs j k
named pairs row j k is =
    ap (has k) is
    ∙ any_seconds (λ x. x == k) pairs j
    ∙ any_same (λ p. (p.0 == j) && (p.1 == k)) (λ p. (p.1 == k) && (p.0 == j)) pairs (λ p. and_swap (p.0 == j) (p.1 == k))

named_back : (pairs : List (ℕ × ℕ)) (row : List ℕ) (j k : ℕ) → row ≡ firsts_of pairs j → has k row ≡ has_pair pairs k j
named_back pairs row j k is = ap (has k) is ∙ any_firsts (λ x. x == k) pairs j

first_at : (t : Bool) (fields : List Field) (k : ℕ) → k < length fields → get_or (map (λ f. t || is_apart f.kind) fields) k false ≡ (t || is_apart_at fields k)
first_at t [] k lt = absurd (omega arith)
first_at t (f ∷ fs) zero lt = refl
first_at t (f ∷ fs) (suc k) lt = first_at t fs k (omega arith)

-- ---- the marks of a field

six : (ms ns os ps qs rs : List Bool) (k : ℕ) (a b c d e : Bool) → get_or ns k false ≡ (get_or ms k false || a) → get_or os k false ≡ (get_or ns k false || b) → get_or ps k false ≡ (get_or os k false || c) →
    get_or qs k false ≡ (get_or ps k false || d) → get_or rs k false ≡ (get_or qs k false || e) → get_or rs k false ≡ (((((get_or ms k false || a) || b) || c) || d) || e)
six ms ns os ps qs rs k a b c d e p q r s t =
    t ∙ ap (λ (x : Bool). x || e) (s ∙ ap (λ (x : Bool). x || d) (r ∙ ap (λ (x : Bool). x || c) (q ∙ ap (λ (x : Bool). x || b) p)))

five : (a b c d e v w x y z m n : Bool) → m ≡ n → a ≡ v → b ≡ w → c ≡ x → d ≡ y → e ≡ z → (((((m || a) || b) || c) || d) || e) ≡ (((((n || v) || w) || x) || y) || z)
five a b c d e v w x y z m n p q r s t u = cc

count_starts : (t : Bool) (fields : List Field) → length (map (λ f. t || is_apart f.kind) fields) ≡ length fields
count_starts t [] = refl
count_starts t (f ∷ fs) = ap suc (count_starts t fs)

abbrev two_steps : List Bool → List (List ℕ) → List (List ℕ) → List ℕ → List Bool
two_steps ms c a crossed = with_rows (with_rows ms c crossed) a crossed

abbrev three_steps : List Bool → List (List ℕ) → List (List ℕ) → List ℕ → List ℕ → List Bool
three_steps ms c a crossed alive = with_rows (two_steps ms c a crossed) c alive

abbrev four_steps : List Bool → List (List ℕ) → List (List ℕ) → List ℕ → List ℕ → List ℕ → List Bool
four_steps ms c a crossed alive later = with_marks (three_steps ms c a crossed alive) later

two_count : (ms : List Bool) (c a : List (List ℕ)) (crossed : List ℕ) → length (two_steps ms c a crossed) ≡ length ms
two_count ms c a crossed = rows_count (with_rows ms c crossed) a crossed ∙ rows_count ms c crossed

three_count : (ms : List Bool) (c a : List (List ℕ)) (crossed alive : List ℕ) → length (three_steps ms c a crossed alive) ≡ length ms
three_count ms c a crossed alive = rows_count (two_steps ms c a crossed) c alive ∙ two_count ms c a crossed

four_count : (ms : List Bool) (c a : List (List ℕ)) (crossed alive later : List ℕ) → length (four_steps ms c a crossed alive later) ≡ length ms
four_count ms c a crossed alive later = marks_count (three_steps ms c a crossed alive) later ∙ three_count ms c a crossed alive

all_steps : (ms : List Bool) (c a : List (List ℕ)) (crossed alive later earlier : List ℕ) (k : ℕ) → k < length ms →
    get_or (with_marks (four_steps ms c a crossed alive later) earlier) k false
    ≡ (((((get_or ms k false || list_any (λ s. has k (get_or c s [])) crossed) || list_any (λ s. has k (get_or a s [])) crossed) || list_any (λ s. has k (get_or c s [])) alive) || has k later) || has k earlier)
all_steps ms c a crossed alive later earlier k lt =
    let one_kept = rows_count ms c crossed in
    let two_kept = two_count ms c a crossed in
    let three_kept = three_count ms c a crossed alive in
    let four_kept = four_count ms c a crossed alive later in
    six ms (with_rows ms c crossed) (two_steps ms c a crossed) (three_steps ms c a crossed alive) (four_steps ms c a crossed alive later) (with_marks (four_steps ms c a crossed alive later) earlier) k _ _ _ _ _
    (at_rows ms c crossed k lt)
    (at_rows (with_rows ms c crossed) a crossed k (omega (arith, lt, one_kept)))
    (at_rows (two_steps ms c a crossed) c alive k (omega (arith, lt, two_kept)))
    (at_marks (three_steps ms c a crossed alive) later k (omega (arith, lt, three_kept)))
    (at_marks (four_steps ms c a crossed alive later) earlier k (omega (arith, lt, four_kept)))

pub marks_tell : (fields : List Field) (crossing alive slots : List (ℕ × ℕ)) (t : Tables) (j k : ℕ) → AreTables crossing alive slots t → k < length fields →
    get_or (marks_by fields t j) k false ≡ conflict fields crossing alive slots j k
unfolding conflict
marks_tell fields crossing alive slots t j k h lt =
    let n = count_starts (is_apart_at fields j) fields in
    all_steps (map (λ f. is_apart_at fields j || is_apart f.kind) fields) t.crossing_at.items t.alive_at.items (get_or t.crossed_by.items j []) (get_or t.alive_of.items j []) (get_or t.later.items j []) (get_or t.earlier.items j []) k (omega (arith, lt, n))
    ∙ five _ _ _ _ _
    (share crossing crossing j k)
    (share crossing alive j k)
    (share alive crossing j k)
    (has_pair slots j k)
    (has_pair slots k j)
    _
    (is_apart_at fields j || is_apart_at fields k)
    (first_at (is_apart_at fields j) fields k lt)
    (shared crossing crossing t.crossing_at.items (get_or t.crossed_by.items j []) j k (h.crossed_by j) h.crossing_at)
    (shared crossing alive t.alive_at.items (get_or t.crossed_by.items j []) j k (h.crossed_by j) h.alive_at)
    (shared alive crossing t.crossing_at.items (get_or t.alive_of.items j []) j k (h.alive_of j) h.crossing_at)
    (named slots (get_or t.later.items j []) j k (h.later j))
    (named_back slots (get_or t.earlier.items j []) j k (h.earlier j))

marks_by_count : (fields : List Field) (t : Tables) (j : ℕ) → length (marks_by fields t j) ≡ length fields
marks_by_count fields t j =
    marks_count _ (get_or t.earlier.items j [])
    ∙ four_count (map (λ f. is_apart_at fields j || is_apart f.kind) fields) t.crossing_at.items t.alive_at.items (get_or t.crossed_by.items j []) (get_or t.alive_of.items j []) (get_or t.later.items j [])
    ∙ count_starts (is_apart_at fields j) fields

-- ---- pairs by marks

same_pairs : (test : ℕ → Bool) (j k : ℕ) (ms : List Bool) (fs : List Field) → length ms ≡ length fs → ((i : ℕ) → i < length fs → get_or ms i false ≡ test (k + i)) → marked_pairs j k ms ≡ pairs_of test j k fs
same_pairs test j k [] [] n h = refl
same_pairs test j k [] (f ∷ fs) n h = absurd (omega (arith, n))
same_pairs test j k (m ∷ ms) [] n h = absurd (omega (arith, n))
same_pairs test j k (m ∷ ms) (f ∷ fs) n h =
    let here : m ≡ test k = h 0 (omega arith) ∙ ap test (omega arith) in
    ap (λ (b : Bool). (if nat_lt j k && b then (j, k) ∷ [] else []) ++ marked_pairs j (k + 1) ms) here
    ∙ ap (λ (l : List (ℕ × ℕ)). (if nat_lt j k && test k then (j, k) ∷ [] else []) ++ l)
    (same_pairs test j (k + 1) ms fs (omega (arith, n)) (λ i lt. h (suc i) (omega (arith, lt)) ∙ ap test (omega arith)))

pub pairs_tell : (fields : List Field) (crossing alive slots : List (ℕ × ℕ)) (t : Tables) (j : ℕ) → AreTables crossing alive slots t → marked_pairs j 0 (marks_by fields t j) ≡ pairs_of (conflict fields crossing alive slots j) j 0 fields
pairs_tell fields crossing alive slots t j h =
    same_pairs (conflict fields crossing alive slots j) j 0 (marks_by fields t j) fields (marks_by_count fields t j)
    (λ i lt. marks_tell fields crossing alive slots t j i h lt ∙ ap (conflict fields crossing alive slots j) (omega arith))
