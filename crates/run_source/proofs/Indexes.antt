-- The tables by which an instance is found.
use Rattle.std.proofs.Common.{◌≡◌, ◌≢◌, ℕ, zero, suc, ◌+◌, ◌<◌, ◌≤◌, Bool, true, false, List, [], ◌∷◌, ◌++◌, length, take, set, get_or, refl, ap, sym, subst, ◌∙◌, arith, Option, Some, None, inl, inr}
use Rattle.std.specs.Prelude.{IfSome, slice_get, slice_set, if◌then◌else◌, ◌==◌, ◌&&◌, ◌⊎◌}
use Rattle.std.proofs.lemmas.Bool.{eqb-true}
use Rattle.std.proofs.lemmas.Bool.Decides.{nat_tests}
use Rattle.std.proofs.lemmas.List.{get_or_append_left, get_or_push, get_or-set_same, get_or-set_other, length-set, length_push, take-append-le, take_all}
use Rattle.std.proofs.lemmas.Option.{slice_get_within, slice_get-get_or, unwrap_or-slice_get, same_Some}
use Rattle.run_source.specs.Indexes.{AreIndexed, is_in, last_from, last_of, number_at, or_else}
use Rattle.run_source.specs.State.{began_at}
use Rattle.run_source.specs.declared.state.Instance.{Instance}
use Rattle.run_source.proofs.Walks.{last-next, last-snoc}

-- ---- an instance that changes stays in its block

at-zero : {A : Type 0} (z x : A) → Some z ≡ Some x → z ≡ x
at-zero z x e = cc

last-set : (test : Instance → Bool) (k n : ℕ) (xs : List Instance) (j : ℕ) (x y : Instance) → slice_get xs j ≡ Some x → test y ≡ test x → last_from test k (take n (slice_set xs j y)) ≡ last_from test k (take n xs)
last-set test k zero xs j x y e t = refl
last-set test k (suc n) [] j x y e t = absurd cc
last-set test k (suc n) (z ∷ xs) zero x y e t = ap (λ b. or_else (last_from test (suc k) (take n xs)) (if b then Some k else None)) (t ∙ ap test (sym (at-zero z x e)))
last-set test k (suc n) (z ∷ xs) (suc j) x y e t = ap (λ o. or_else o (if test z then Some k else None)) (last-set test (suc k) n xs j x y e t)

get-changed : (xs : List Instance) (j i : ℕ) (y z : Instance) → slice_get (slice_set xs j y) i ≡ Some z → ((i ≡ j) × (y ≡ z)) ⊎ (slice_get xs i ≡ Some z)
get-changed [] j i y z e = absurd cc
get-changed (x ∷ xs) zero zero y z e = inl (refl, at-zero y z e)
get-changed (x ∷ xs) zero (suc i) y z e = inr e
get-changed (x ∷ xs) (suc j) zero y z e = inr e
get-changed (x ∷ xs) (suc j) (suc i) y z e =
    elim (get-changed xs j i y z e) [ inl h ↦ inl (ap suc (h.0), h.1) | inr h ↦ inr h ]

earlier-set : (xs : List Instance) (earlier : List (Option ℕ)) (j i : ℕ) (x y z : Instance) → ((k : ℕ) (w : Instance) → slice_get xs k ≡ Some w → number_at earlier k ≡ last_of w.block k xs) → slice_get xs j ≡ Some x → y.block ≡ x.block → slice_get (slice_set xs j y) i ≡ Some z → number_at earlier i ≡ last_of z.block i xs
earlier-set xs earlier j i x y z h e b g =
    elim (get-changed xs j i y z g) [ inl p ↦ ap (number_at earlier) (p.0) ∙ h j x e ∙ ap (λ n. last_of n j xs) (sym b) ∙ ap (λ (w : Instance). last_of w.block j xs) (p.1) ∙ ap (λ n. last_of z.block n xs) (sym (p.0)) | inr p ↦ h i z p ]

pub set-indexed : (xs : List Instance) (last earlier : List (Option ℕ)) (j : ℕ) (x y : Instance) → AreIndexed xs last earlier → slice_get xs j ≡ Some x → y.block ≡ x.block → AreIndexed (slice_set xs j y) last earlier
set-indexed xs last earlier j x y h e b =
    let alike : (block n : ℕ) → last_of block n (slice_set xs j y) ≡ last_of block n xs = λ block n. last-set (is_in block) 0 n xs j x y e (ap (λ m. m == block) b) in
    record {
      last = λ block. h.last block ∙ sym (alike block (length xs)) ∙ ap (λ n. last_of block n (slice_set xs j y)) (sym (length-set xs j y));
      count = h.count ∙ sym (length-set xs j y);
      earlier = λ i z g. earlier-set xs earlier j i x y z h.earlier e b g ∙ sym (alike z.block i);
    }

-- ---- an instance begins

get-pushed : (xs : List Instance) (x z : Instance) (i : ℕ) → slice_get (xs ++ x ∷ []) i ≡ Some z → ((i ≡ length xs) × (x ≡ z)) ⊎ (slice_get xs i ≡ Some z)
get-pushed [] x z zero e = inl (refl, at-zero x z e)
get-pushed [] x z (suc i) e = absurd cc
get-pushed (y ∷ xs) x z zero e = inr e
get-pushed (y ∷ xs) x z (suc i) e = elim (get-pushed xs x z i e) [ inl h ↦ inl (ap suc (h.0), h.1) | inr h ↦ inr h ]

number-or : (table : List (Option ℕ)) (i : ℕ) → number_at table i ≡ get_or table i None
number-or table i = unwrap_or-slice_get table i None

number-same : (table : List (Option ℕ)) (i : ℕ) (o : Option ℕ) → i < length table → number_at (set table i o) i ≡ o
number-same table i o lt = number-or (set table i o) i ∙ get_or-set_same table i o None lt

number-other : (table : List (Option ℕ)) (i j : ℕ) (o : Option ℕ) → j ≢ i → number_at (set table i o) j ≡ number_at table j
number-other table i j o ne = number-or (set table i o) j ∙ get_or-set_other table i j o None ne ∙ sym (number-or table j)

number-left : (table : List (Option ℕ)) (i : ℕ) (o : Option ℕ) → i < length table → number_at (table ++ o ∷ []) i ≡ number_at table i
number-left table i o lt = number-or (table ++ o ∷ []) i ∙ get_or_append_left table (o ∷ []) None i lt ∙ sym (number-or table i)

number-last : (table : List (Option ℕ)) (i : ℕ) (o : Option ℕ) → length table ≡ i → number_at (table ++ o ∷ []) i ≡ o
number-last table i o e = number-or (table ++ o ∷ []) i ∙ get_or_push table o None i e

-- nothing more behind the end
pub number-more : (table : List (Option ℕ)) (i : ℕ) → number_at (table ++ None ∷ []) i ≡ number_at table i
number-more [] zero = refl
number-more [] (suc i) = refl
number-more (o ∷ table) zero = refl
number-more (o ∷ table) (suc i) = number-more table i

last-pushed : (xs : List Instance) (x : Instance) (block : ℕ) → last_of block (length (xs ++ x ∷ [])) (xs ++ x ∷ []) ≡ (if x.block == block then Some (length xs) else last_of block (length xs) xs)
last-pushed xs x block =
    let le : length (xs ++ x ∷ []) ≤ length (xs ++ x ∷ []) = omega arith in
    let le' : length xs ≤ length xs = omega arith in
    let n : 0 + length xs ≡ length xs = omega arith in
    ap (last_from (is_in block) 0) (take_all (length (xs ++ x ∷ [])) (xs ++ x ∷ []) le)
    ∙ last-snoc (is_in block) 0 xs x
    ∙ ap (λ m. if x.block == block then Some m else last_from (is_in block) 0 xs) n
    ∙ ap (λ (l : List Instance). if x.block == block then Some (length xs) else last_from (is_in block) 0 l) (sym (take_all (length xs) xs le'))

last-before : (xs : List Instance) (x : Instance) (block n : ℕ) → n ≤ length xs → last_of block n (xs ++ x ∷ []) ≡ last_of block n xs
last-before xs x block n le = ap (last_from (is_in block) 0) (take-append-le n xs (x ∷ []) le)

same-number : (m n : ℕ) → (m == n) ≡ true → m ≡ n
same-number m n e = grind (arith, nat_tests)

entry-by : (table : List (Option ℕ)) (b block n : ℕ) (o : Option ℕ) (is : Bool) → is ≡ (b == block) → b < length table → number_at table block ≡ o → number_at (set table b (Some n)) block ≡ (if is then Some n else o)
entry-by table b block n o true is lt h = let same : b ≡ block = same-number b block (sym is) in ap (number_at (set table b (Some n))) (sym same) ∙ number-same table b (Some n) lt
entry-by table b block n o false is lt h = let ne : block ≢ b = grind (arith, nat_tests) in number-other table b block (Some n) ne ∙ h

earlier-pushed : (xs : List Instance) (earlier : List (Option ℕ)) (x z : Instance) (i : ℕ) (o : Option ℕ) → length earlier ≡ length xs → ((k : ℕ) (w : Instance) → slice_get xs k ≡ Some w → number_at earlier k ≡ last_of w.block k xs) → o ≡ last_of x.block (length xs) xs → ((i ≡ length xs) × (x ≡ z)) ⊎ (slice_get xs i ≡ Some z) → number_at (earlier ++ o ∷ []) i ≡ last_of z.block i (xs ++ x ∷ [])
earlier-pushed xs earlier x z i o count h is (inl p) =
    let e : i ≡ length xs = p.0 in
    let le : i ≤ length xs = omega arith in
    number-last earlier i o (count ∙ sym e) ∙ is ∙ ap (λ (w : Instance). last_of w.block (length xs) xs) (p.1) ∙ ap (λ n. last_of z.block n xs) (sym e) ∙ sym (last-before xs x z.block i le)
earlier-pushed xs earlier x z i o count h is (inr p) =
    let lt : i < length xs = slice_get_within xs i z p in
    let lt' : i < length earlier = omega arith in
    let le : i ≤ length xs = omega arith in
    number-left earlier i o lt' ∙ h i z p ∙ sym (last-before xs x z.block i le)

pub begun-indexed : (xs : List Instance) (last table earlier : List (Option ℕ)) (x : Instance) (o : Option ℕ) → AreIndexed xs last earlier → ((i : ℕ) → number_at table i ≡ number_at last i) → x.block < length table → o ≡ number_at table x.block → AreIndexed (xs ++ x ∷ []) (set table x.block (Some (length xs))) (earlier ++ o ∷ [])
begun-indexed xs last table earlier x o h same lt is =
    record {
      last = λ block. entry-by table x.block block (length xs) (last_of block (length xs) xs) (x.block == block) refl lt (same block ∙ h.last block) ∙ sym (last-pushed xs x block);
      count = length_push earlier o ∙ ap (λ n. n + 1) h.count ∙ sym (length_push xs x);
      earlier = λ i z g. earlier-pushed xs earlier x z i o h.count h.earlier (is ∙ same x.block ∙ h.last x.block) (get-pushed xs x z i g);
    }

-- ---- what is found passes the test

pub record Found (test : Instance → Bool) (xs : List Instance) (n i : ℕ) : Type 0 where
  pub instance : Instance
  pub got : slice_get xs i ≡ Some instance
  pub passes : test instance ≡ true
  pub below : i < n

found-by : (test : Instance → Bool) (xs : List Instance) (n i : ℕ) (y : Instance) (b : Bool) → slice_get xs n ≡ Some y → test y ≡ b → (if b then Some n else last_from test 0 (take n xs)) ≡ Some i → (last_from test 0 (take n xs) ≡ Some i → Found test xs n i) → Found test xs (suc n) i
found-by test xs n i y true g is e h =
    let same : n ≡ i = same_Some n i e in
    record { instance = y; got = ap (slice_get xs) (sym same) ∙ g; passes = is; below = omega arith }
found-by test xs n i y false g is e h =
    let f : Found test xs n i = h e in record { instance = f.instance; got = f.got; passes = f.passes; below = omega (arith, f.below) }

pub last-step : (test : Instance → Bool) (xs : List Instance) (n : ℕ) (y : Instance) → slice_get xs n ≡ Some y → last_from test 0 (take (suc n) xs) ≡ (if test y then Some n else last_from test 0 (take n xs))
last-step test xs n y g =
    let lt : n < length xs = slice_get_within xs n y g in
    let is : y ≡ get_or xs n y = same_Some y (get_or xs n y) (sym g ∙ slice_get-get_or xs n y lt) in
    let one : suc n ≡ n + 1 = omega arith in
    ap (λ m. last_from test 0 (take m xs)) one ∙ last-next test xs n y lt is

pub record There (xs : List Instance) (n : ℕ) : Type 0 where
  pub instance : Instance
  pub got : slice_get xs n ≡ Some instance

pub is-there : (xs : List Instance) (n : ℕ) → n < length xs → There xs n
is-there [] n lt = absurd (omega arith)
is-there (x ∷ xs) zero lt = record { instance = x; got = refl }
is-there (x ∷ xs) (suc n) lt = let t : There xs n = is-there xs n (omega arith) in record { instance = t.instance; got = t.got }

found-at : (test : Instance → Bool) (xs : List Instance) (n i : ℕ) → There xs n → last_from test 0 (take (suc n) xs) ≡ Some i → (last_from test 0 (take n xs) ≡ Some i → Found test xs n i) → Found test xs (suc n) i
found-at test xs n i t e h = found-by test xs n i t.instance (test t.instance) t.got refl (sym (last-step test xs n t.instance t.got) ∙ e) h

pub last-found : (test : Instance → Bool) (xs : List Instance) (n i : ℕ) → n ≤ length xs → last_from test 0 (take n xs) ≡ Some i → Found test xs n i
last-found test xs zero i le e = absurd cc
last-found test xs (suc n) i le e = found-at test xs n i (is-there xs n (omega arith)) e (λ f. last-found test xs n i (omega arith) f)

passes-at : (test : Instance → Bool) (xs : List Instance) (i : ℕ) (x : Instance) → last_from test 0 xs ≡ Some i → slice_get xs i ≡ Some x → test x ≡ true
passes-at test xs i x e g =
    let le : length xs ≤ length xs = omega arith in
    let f : Found test xs (length xs) i = last-found test xs (length xs) i le (ap (last_from test 0) (take_all (length xs) xs le) ∙ e) in
    ap test (same_Some x f.instance (sym g ∙ f.got)) ∙ f.passes

pub last-passes : (test : Instance → Bool) (xs : List Instance) (o : Option ℕ) → o ≡ last_from test 0 xs → IfSome o (λ i. (x : Instance) → slice_get xs i ≡ Some x → test x ≡ true)
last-passes test xs None e = tt
last-passes test xs (Some i) e = λ x g. passes-at test xs i x (sym e) g

-- a table that grew has nothing more
pub same-more : (first table next : List (Option ℕ)) (o : Option ℕ) → o ≡ None → next ≡ table ++ o ∷ [] → ((i : ℕ) → number_at table i ≡ number_at first i) → (i : ℕ) → number_at next i ≡ number_at first i
same-more first table next o none e h i = ap (λ (l : List (Option ℕ)). number_at l i) e ∙ ap (λ (p : Option ℕ). number_at (table ++ p ∷ []) i) none ∙ number-more table i ∙ h i

-- ---- the same, as the code has it

pub put-indexed : (xs : List Instance) (last earlier : List (Option ℕ)) (j : ℕ) (w y : Instance) → AreIndexed xs last earlier → j < length xs → w ≡ get_or xs j w → y.block ≡ w.block → AreIndexed (slice_set xs j y) last earlier
put-indexed xs last earlier j w y h lt e b = set-indexed xs last earlier j w y h (slice_get-get_or xs j w lt ∙ ap Some (sym e)) b

pub put-is : (xs old : List Instance) (j : ℕ) (w x : Instance) (f : Instance → Instance) → xs ≡ old → j < length xs → w ≡ get_or xs j w → slice_get old j ≡ Some x → slice_set xs j (f w) ≡ slice_set old j (f x)
put-is xs old j w x f is lt e g =
    let there : slice_get xs j ≡ Some w = slice_get-get_or xs j w lt ∙ ap Some (sym e) in
    let same : w ≡ x = same_Some w x (sym there ∙ ap (λ (l : List Instance). slice_get l j) is ∙ g) in
    ap (λ (y : Instance). slice_set xs j (f y)) same ∙ ap (λ (l : List Instance). slice_set l j (f x)) is

pub same-there : (xs old : List Instance) (j : ℕ) (w x : Instance) → xs ≡ old → j < length xs → w ≡ get_or xs j w → slice_get old j ≡ Some x → w ≡ x
same-there xs old j w x is lt e g = same_Some w x (sym (slice_get-get_or xs j w lt ∙ ap Some (sym e)) ∙ ap (λ (l : List Instance). slice_get l j) is ∙ g)

pub not-there : (xs old : List Instance) (j : ℕ) (x : Instance) → xs ≡ old → length xs ≤ j → slice_get old j ≡ Some x → ⊥
not-there xs old j x is le g =
    let lt : j < length xs = slice_get_within xs j x (ap (λ (l : List Instance). slice_get l j) is ∙ g) in
    omega arith

pub begun-put : (xs new : List Instance) (last table earlier before : List (Option ℕ)) (x : Instance) (o : Option ℕ) (n : ℕ) → AreIndexed xs last earlier → new ≡ xs ++ x ∷ [] → before ≡ earlier ++ o ∷ [] → n ≡ length xs → ((i : ℕ) → number_at table i ≡ number_at last i) → x.block < length table → o ≡ number_at table x.block → AreIndexed new (slice_set table x.block (Some n)) before
begun-put xs new last table earlier before x o n h ns bs ls same lt is =
    subst (λ (l : List Instance). AreIndexed l (slice_set table x.block (Some n)) before) (sym ns)
    (subst (λ (l : List (Option ℕ)). AreIndexed (xs ++ x ∷ []) (slice_set table x.block (Some n)) l) (sym bs)
    (subst (λ m. AreIndexed (xs ++ x ∷ []) (slice_set table x.block (Some m)) (earlier ++ o ∷ [])) (sym ls)
    (begun-indexed xs last table earlier x o h same lt is)))
