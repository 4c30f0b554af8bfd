-- Lists: what is mapped, appended, counted, or stands at a place.
use Rattle.std.proofs.Common.{List, [], ◌∷◌, ◌≡◌, Bool, refl, ℕ, zero, suc, ◌<◌, ◌++◌, length, ap, arith, ◌≤◌, ◌+◌, ◌∙◌, length-append, ⊎_elim, cond, sym, true, false, Some, ◌||◌, map, ◌&&◌, ◌⊎◌, inl, inr, None, subst, append-nil, ◌/◌, ◌%◌, not}
use Rattle.run_laws.specs.changed.Changed.{Each as EachOf, Each}
use Rattle.std.specs.List.{list_any, list_all}
use Rattle.std.specs.Prelude.{map, ◌||◌, Some, slice_get, slice_set, option_map, if◌then◌else◌, None, count_by, flat_map, find, ◌&&◌, replicate, Option, filter, unwrap_or, ◌==◌, not, Bool, false, decimal}
use Rattle.run_laws.specs.ir_model.Names.{first_where, position_of, same_name, numbered, spelling}
use Rattle.std.proofs.lemmas.Bool.{cases_lt, and_parts, and_from}
use Rattle.ir_laws.specs.facts.expanded.Expansion.{expanded, number_at, place_of}
use Rattle.run_laws.specs.ir_model.declared.instr.Instr.{Instr}
use Rattle.std.proofs.lemmas.List.Sums.{sum_by-cons, sum_by-append}
use Rattle.ir_laws.specs.facts.renamed.Regular.{passes}
use Rattle.ir_laws.proofs.facts.Numbers.{phi_name, First, IsSource, Same}
use Rattle.run_laws.specs.ir_model.declared.instr.Phi.{Phi}
use Rattle.run_laws.specs.ir_model.declared.module.Param.{Param}
use Rattle.run_laws.specs.ir_model.declared.instr.Incoming.{Incoming}
use Rattle.run_laws.specs.ir_model.declared.operand.Operand.{Operand}
use Rattle.ir_laws.proofs.facts.Options.{not_first}
use Rattle.run_laws.specs.ir_base.declared.name.Name.{Name}
use Rattle.ir_laws.specs.facts.woven_rules.Pairs.{times}
use Rattle.pass_front.specs.Front.{is_alloca, is_no_alloca, allocas_first, with_allocas_first}
use Rattle.run_laws.specs.ir_model.declared.module.Block.{Block}
use Rattle.ir_laws.proofs.facts.Truth.{equal_numbers, same_name-itself as itself, glyph_byte, nothing_no_name}
use Rattle.run_laws.specs.ir_model.declared.module.Function.{Function}
use Rattle.ir_laws.specs.facts.counted.Widths.{has_width}
use Rattle.run_laws.specs.ir_model.Ty.{Ty}
use Rattle.std.proofs.lemmas.List.{length-append}
use Rattle.std.specs.Fmt.{digit_glyph, digits_onto, digits}
use Rattle.text_names.specs.Spelling.{is_name_byte, is_name_text, IsName}
use Rattle.std.proofs.lemmas.List.Folds.{list_all-append}
use Rattle.std.proofs.Math.Dec.{eqb-suc-zero}

pub each_of_each : {A : Type 0} (P Q : A → Type 0) → ((x : A) → P x → Q x) → (xs : List A) → EachOf P xs → EachOf Q xs
each_of_each P Q go [] h = tt
each_of_each P Q go (x ∷ xs) h = (go x h.0, each_of_each P Q go xs h.1)

pub any_same : {A B : Type 0} (g : A → B) (t : B → Bool) (u : A → Bool) → ((x : A) → t (g x) ≡ u x) → (xs : List A) → list_any t (map g xs) ≡ list_any u xs
any_same g t u h [] = refl
any_same g t u h (x ∷ xs) = λ k. h x k || any_same g t u h xs k

module _ {A : Type 0} where
  pub set_here : (xs : List A) (n : ℕ) (x : A) → n < length xs → slice_get (slice_set xs n x) n ≡ Some x
  set_here [] n x lt = absurd (omega arith)
  set_here (y ∷ xs) zero x lt = refl
  set_here (y ∷ xs) (suc n) x lt = set_here xs n x (omega arith)

  pub set_other : (xs : List A) (n k : ℕ) (x : A) → (n ≡ k → ⊥) → slice_get (slice_set xs n x) k ≡ slice_get xs k
  set_other [] n k x h = refl
  set_other (y ∷ xs) zero zero x h = absurd (h refl)
  set_other (y ∷ xs) zero (suc k) x h = refl
  set_other (y ∷ xs) (suc n) zero x h = refl
  set_other (y ∷ xs) (suc n) (suc k) x h = set_other xs n k x (λ e. h (ap suc e))

  pub set_length : (xs : List A) (n : ℕ) (x : A) → length (slice_set xs n x) ≡ length xs
  set_length [] n x = refl
  set_length (y ∷ xs) zero x = refl
  set_length (y ∷ xs) (suc n) x = ap suc (set_length xs n x)

  pub get_within : (xs : List A) (n : ℕ) (x : A) → slice_get xs n ≡ Some x → n < length xs
  get_within [] n x e = absurd (cc)
  get_within (y ∷ xs) zero x e = omega arith
  get_within (y ∷ xs) (suc n) x e = let lt = get_within xs n x e in omega arith

  pub get_before : (xs ys : List A) (n : ℕ) (x : A) → slice_get xs n ≡ Some x → slice_get (xs ++ ys) n ≡ Some x
  get_before [] ys n x e = absurd (cc)
  get_before (y ∷ xs) ys zero x e = e
  get_before (y ∷ xs) ys (suc n) x e = get_before xs ys n x e

  pub get_last : (xs : List A) (x : A) → slice_get (xs ++ x ∷ []) (length xs) ≡ Some x
  get_last [] x = refl
  get_last (y ∷ xs) x = get_last xs x

pub first_same : {A B : Type 0} (f : A → B) (t : B → Bool) (u : A → Bool) → ((x : A) → t (f x) ≡ u x) → (xs : List A) → first_where t (map f xs) ≡ first_where u xs
first_same f t u h [] = refl
first_same f t u h (x ∷ xs) = λ i. if h x i then Some 0 else option_map suc (first_same f t u h xs i)

pub map_same : {A B : Type 0} (f g : A → B) → ((x : A) → f x ≡ g x) → (xs : List A) → map f xs ≡ map g xs
map_same f g h [] = refl
map_same f g h (x ∷ xs) = λ i. h x i ∷ map_same f g h xs i

-- ---- lists put together

pub none_past : {A : Type 0} (xs : List A) (k : ℕ) → slice_get xs k ≡ None → length xs ≤ k
none_past [] k e = omega arith
none_past (x ∷ xs) zero e = absurd (cc)
none_past (x ∷ xs) (suc k) e = let again = none_past xs k e in omega (arith, again)

pub get_front : {A : Type 0} (xs ys : List A) (j : ℕ) → j < length xs → slice_get (xs ++ ys) j ≡ slice_get xs j
get_front [] ys j lt = absurd (omega arith)
get_front (x ∷ xs) ys zero lt = refl
get_front (x ∷ xs) ys (suc j) lt = get_front xs ys j (omega arith)

pub get_behind : {A : Type 0} (xs ys : List A) (j : ℕ) → slice_get (xs ++ ys) (length xs + j) ≡ slice_get ys j
get_behind [] ys j = ap (slice_get ys) (omega arith)
get_behind (x ∷ xs) ys j =
    let e : suc (length xs) + j ≡ suc (length xs + j) = omega arith in
    ap (slice_get (x ∷ xs ++ ys)) e ∙ get_behind xs ys j

module _ {A : Type 0} (grow : ℕ → A → List A) (after : ℕ → A → ℕ) where
  -- what an element becomes stands at its place
  pub get_expanded : (k n : ℕ) (xs : List A) (x : A) (j : ℕ) → slice_get xs k ≡ Some x → j < length (grow (number_at grow after k n xs) x) → slice_get (expanded grow after n xs) (place_of grow after k n xs + j) ≡ slice_get (grow (number_at grow after k n xs) x) j
  get_expanded k n [] x j e lt = absurd (cc)
  get_expanded zero n (y ∷ xs) x j e lt = on (cc)
    where
      on : y ≡ x → slice_get (grow n y ++ expanded grow after (after n y) xs) (0 + j) ≡ slice_get (grow n x) j
      on s =
          let z : 0 + j ≡ j = omega arith in
          let len : length (grow n y) ≡ length (grow n x) = ap (λ (u : A). length (grow n u)) s in
          ap (slice_get (grow n y ++ expanded grow after (after n y) xs)) z
          ∙ get_front (grow n y) (expanded grow after (after n y) xs) j (omega (arith, len, lt))
          ∙ ap (λ (u : A). slice_get (grow n u) j) s
  get_expanded (suc k) n (y ∷ xs) x j e lt =
      let z : (length (grow n y) + place_of grow after k (after n y) xs) + j ≡ length (grow n y) + (place_of grow after k (after n y) xs + j) = omega arith in
      ap (slice_get (grow n y ++ expanded grow after (after n y) xs)) z
      ∙ get_behind (grow n y) (expanded grow after (after n y) xs) (place_of grow after k (after n y) xs + j)
      ∙ get_expanded k (after n y) xs x j e lt

  -- the place behind an element is behind all that it becomes
  pub place_next : (k n : ℕ) (xs : List A) (x : A) → slice_get xs k ≡ Some x → place_of grow after (suc k) n xs ≡ place_of grow after k n xs + length (grow (number_at grow after k n xs) x)
  place_next k n [] x e = absurd (cc)
  place_next zero n (y ∷ xs) x e = on (cc)
    where
      on : y ≡ x → length (grow n y) + 0 ≡ 0 + length (grow n x)
      on s = let len : length (grow n y) ≡ length (grow n x) = ap (λ (u : A). length (grow n u)) s in omega (arith, len)
  place_next (suc k) n (y ∷ xs) x e =
      let again = place_next k (after n y) xs x e in
      omega (arith, again)

  pub place_past : (k n : ℕ) (xs : List A) → length xs ≤ k → place_of grow after (suc k) n xs ≡ suc (place_of grow after k n xs)
  place_past zero n [] le = refl
  place_past (suc k) n [] le = refl
  place_past zero n (y ∷ xs) le = absurd (omega arith)
  place_past (suc k) n (y ∷ xs) le =
      let again = place_past k (after n y) xs (omega arith) in
      omega (arith, again)

  pub place_end : (n : ℕ) (xs : List A) → place_of grow after (length xs) n xs ≡ length (expanded grow after n xs)
  place_end n [] = refl
  place_end n (x ∷ xs) =
      let again = place_end (after n x) xs in
      let len = length-append (grow n x) (expanded grow after (after n x) xs) in
      omega (arith, again, len)

  -- ---- places in order

  pub place_order : (k l n : ℕ) (xs : List A) → k < l → place_of grow after (suc k) n xs ≤ place_of grow after l n xs
  place_order k zero n xs lt = absurd (omega arith)
  place_order zero (suc l) n [] lt = omega arith
  place_order (suc k) (suc l) n [] lt = omega arith
  place_order zero (suc l) n (y ∷ xs) lt = omega arith
  place_order (suc k) (suc l) n (y ∷ xs) lt =
      let again = place_order k l (after n y) xs (omega arith) in
      omega (arith, again)

  -- only one element's place begins at a number or before it, with the next one's behind it
  pub place_unique : (k l n x : ℕ) (xs : List A) → place_of grow after k n xs ≤ x → x < place_of grow after (suc k) n xs → place_of grow after l n xs ≤ x → x < place_of grow after (suc l) n xs → k ≡ l
  place_unique k l n x xs a b c d = ⊎_elim
      (λ (lt : k < l). let o = place_order k l n xs lt in absurd (omega (arith, o, b, c)))
      (λ (ge : l ≤ k). ⊎_elim
      (λ (lt : l < k). let o = place_order l k n xs lt in absurd (omega (arith, o, a, d)))
      (λ (le : k ≤ l). omega arith)
      (cases_lt l k))
      (cases_lt k l)

  -- behind the last element
  pub place_beyond : (k n : ℕ) (xs : List A) → length xs ≤ k → length (expanded grow after n xs) ≤ place_of grow after k n xs
  place_beyond k n [] le = omega arith
  place_beyond zero n (y ∷ xs) le = absurd (omega arith)
  place_beyond (suc k) n (y ∷ xs) le =
      let again = place_beyond k (after n y) xs (omega arith) in
      let len = length-append (grow n y) (expanded grow after (after n y) xs) in
      omega (arith, again, len)

  pub place_far : (k n : ℕ) (xs : List A) → length xs < k → length (expanded grow after n xs) < place_of grow after k n xs
  place_far zero n xs lt = absurd (omega arith)
  place_far (suc k) n [] lt = omega arith
  place_far (suc k) n (y ∷ xs) lt =
      let again = place_far k (after n y) xs (omega arith) in
      let len = length-append (grow n y) (expanded grow after (after n y) xs) in
      omega (arith, again, len)

-- ---- the positions of the instructions that pass a test

abbrev pub places : (Instr → Bool) → List Instr → List ℕ
places test [] = []
places test (i ∷ is) = if test i then 0 ∷ map suc (places test is) else map suc (places test is)

pub map_map : {A B C : Type 0} (f : B → C) (g : A → B) (xs : List A) → map f (map g xs) ≡ map (λ x. f (g x)) xs
map_map f g [] = refl
map_map f g (x ∷ xs) = let rest = map_map f g xs in λ i. f (g x) ∷ rest i

pub count_cons : {X : Type 0} (t : X → Bool) (x : X) (xs : List X) → count_by t (x ∷ xs) ≡ cond (t x) 1 0 + count_by t xs
count_cons t x xs = sum_by-cons (λ y. cond (t y) 1 0) x xs

pub count_both : {X : Type 0} (t : X → Bool) (xs ys : List X) → count_by t (xs ++ ys) ≡ count_by t xs + count_by t ys
count_both t xs ys = sum_by-append (λ y. cond (t y) 1 0) xs ys

-- as many pass of the changed ones as of the others
pub count_changed : {X Y : Type 0} (t : Y → Bool) (u : X → Bool) (h : X → Y) → ((x : X) → t (h x) ≡ u x) → (xs : List X) → count_by t (map h xs) ≡ count_by u xs
count_changed t u h same [] = refl
count_changed t u h same (x ∷ xs) =
    count_cons t (h x) (map h xs)
    ∙ (λ i. cond (same x i) 1 0 + count_changed t u h same xs i)
    ∙ sym (count_cons u x xs)

-- as many pass of what changed elements give as of what the others give
pub count_given : {X Y A : Type 0} (t : A → Bool) (give : X → List A) (gives : Y → List A) (h : X → Y) → ((x : X) → count_by t (gives (h x)) ≡ count_by t (give x)) → (xs : List X) → count_by t (flat_map gives (map h xs)) ≡ count_by t (flat_map give xs)
count_given t give gives h same [] = refl
count_given t give gives h same (x ∷ xs) =
    count_both t (gives (h x)) (flat_map gives (map h xs))
    ∙ (λ i. same x i + count_given t give gives h same xs i)
    ∙ sym (count_both t (give x) (flat_map give xs))

pub map_none : {X : Type 0} (xs : List X) → map (λ x. x) xs ≡ xs
map_none [] = refl
map_none (x ∷ xs) = ap (λ ys. x ∷ ys) (map_none xs)

pub find_changed : {X Y : Type 0} (t : Y → Bool) (u : X → Bool) (h : X → Y) → ((x : X) → t (h x) ≡ u x) → (xs : List X) → find t (map h xs) ≡ option_map h (find u xs)
find_changed t u h same [] = refl
find_changed t u h same (x ∷ xs) = (λ i. cond (same x i) (Some (h x)) (find_changed t u h same xs i)) ∙ on (u x)
  where
    on : (b : Bool) → cond b (Some (h x)) (option_map h (find u xs)) ≡ option_map h (cond b (Some x) (find u xs))
    on true = refl
    on false = refl

pub all_changed : {X Y : Type 0} (t : Y → Bool) (u : X → Bool) (h : X → Y) → ((x : X) → t (h x) ≡ u x) → (xs : List X) → list_all t (map h xs) ≡ list_all u xs
all_changed t u h same [] = refl
all_changed t u h same (x ∷ xs) = λ i. same x i && all_changed t u h same xs i

-- where the first one stands that passes
pub record IsFound {X : Type 0} (t : X → Bool) (xs : List X) (x : X) : Type 0 where
  pub at : ℕ
  pub is : slice_get xs at ≡ Some x
  pub passes_it : t x ≡ true

pub found : {X : Type 0} (t : X → Bool) (xs : List X) (x : X) → find t xs ≡ Some x → IsFound t xs x
found t [] x e = absurd (cc)
found t (y ∷ xs) x e = on (t y) refl e (found t xs x)
  where
    on : (b : Bool) → t y ≡ b → cond b (Some y) (find t xs) ≡ Some x → (find t xs ≡ Some x → IsFound t xs x) → IsFound t (y ∷ xs) x
    on true h e again = let same : y ≡ x = cc in record { at = 0; is = e; passes_it = ap t (sym same) ∙ h }
    on false h e again = let there = again e in record { at = suc there.at; is = there.is; passes_it = there.passes_it }

-- ---- what the elements of a list have, in a row

abbrev pub row_of : {A : Type 0} → (A → List ℕ) → List A → List ℕ
row_of g [] = []
row_of g (x ∷ xs) = g x ++ row_of g xs

abbrev pub phi_names : List Phi → List ℕ
phi_names ps = map phi_name ps

-- ---- lists

pub below : {A : Type 0} (xs : List A) (n : ℕ) (x : A) → slice_get xs n ≡ Some x → n < length xs
below [] n x e = absurd (cc)
below (y ∷ xs) zero x e = omega arith
below (y ∷ xs) (suc n) x e = let rest = below xs n x e in omega (arith, rest)

-- ---- where a value is defined

pub record FoundParam (ps : List Param) (v : ℕ) : Type 0 where
  pub at : ℕ
  pub param : Param
  pub there : slice_get ps at ≡ Some param
  pub same : param.name ≡ v

pub record FoundPhi (ps : List Phi) (v : ℕ) : Type 0 where
  pub at : ℕ
  pub phi : Phi
  pub there : slice_get ps at ≡ Some phi
  pub same : phi.result ≡ v

pub record IsAt {A : Type 0} (t : A → Bool) (xs : List A) : Type 0 where
  pub index : ℕ
  pub element : A
  pub got : slice_get xs index ≡ Some element
  pub passes : t element ≡ true

pub at_any : {A : Type 0} (t : A → Bool) (xs : List A) → list_any t xs ≡ true → IsAt t xs
at_any t [] h = absurd (cc)
at_any t (x ∷ xs) h = on (t x) refl h (at_any t xs)
  where
    on : (b : Bool) → t x ≡ b → (b || list_any t xs) ≡ true → (list_any t xs ≡ true → IsAt t xs) → IsAt t (x ∷ xs)
    on true e k again = record { index = 0; element = x; got = refl; passes = e }
    on false e k again = let y = again k in record { index = suc y.index; element = y.element; got = y.got; passes = y.passes }

-- a test of operands, of their values
pub by_value : (u : Operand → Bool) (is : List Incoming) → list_all (λ i. u i.value) is ≡ list_all u (map (λ i. i.value) is)
by_value u [] = refl
by_value u (i ∷ is) = ap (λ (b : Bool). u i.value && b) (by_value u is)

-- ---- lists that are mapped

pub map_set : {A B : Type 0} (f : A → B) (xs : List A) (i : ℕ) (x : A) → slice_set (map f xs) i (f x) ≡ map f (slice_set xs i x)
map_set f [] i x = refl
map_set f (y ∷ xs) zero x = refl
map_set f (y ∷ xs) (suc i) x = let rest = map_set f xs i x in λ j. f y ∷ rest j

-- ---- what stands in a list

pub record StandsIn {A : Type 0} (xs : List A) (x : A) : Type 0 where
  pub at : ℕ
  pub is : slice_get xs at ≡ Some x

pub of_none : {A : Type 0} {x : A} → StandsIn [] x → ⊥
of_none h = let e = h.is in absurd (cc)

pub of_more : {A : Type 0} (a : A) (xs : List A) (x : A) → StandsIn (a ∷ xs) x → (a ≡ x) ⊎ StandsIn xs x
of_more a xs x h = on h.at h.is
  where
    on : (k : ℕ) → slice_get (a ∷ xs) k ≡ Some x → (a ≡ x) ⊎ StandsIn xs x
    on zero e = let is_one : a ≡ x = cc in inl is_one
    on (suc k) e = inr (record { at = k; is = e })

-- an element of two lists in a row is one of the first or one of the second
pub of_both : {A : Type 0} (xs ys : List A) (k : ℕ) (x : A) → slice_get (xs ++ ys) k ≡ Some x → StandsIn xs x ⊎ StandsIn ys x
of_both [] ys k x e = inr (record { at = k; is = e })
of_both (a ∷ xs) ys zero x e = inl (record { at = 0; is = e })
of_both (a ∷ xs) ys (suc k) x e = ⊎_elim (λ h. inl (record { at = suc h.at; is = h.is })) (λ h. inr h) (of_both xs ys k x e)

pub of_first : {A : Type 0} (xs ys : List A) (k : ℕ) (x : A) → slice_get xs k ≡ Some x → slice_get (xs ++ ys) k ≡ Some x
of_first [] ys k x e = absurd (cc)
of_first (a ∷ xs) ys zero x e = e
of_first (a ∷ xs) ys (suc k) x e = of_first xs ys k x e

pub of_second : {A : Type 0} (xs ys : List A) (x : A) → StandsIn ys x → StandsIn (xs ++ ys) x
of_second [] ys x h = h
of_second (a ∷ xs) ys x h = let more = of_second xs ys x h in record { at = suc more.at; is = more.is }

-- ---- distinct names

abbrev pub AreDistinct : List Name → Type 0
AreDistinct [] = Unit {0}
AreDistinct (x ∷ xs) = (StandsIn xs x → ⊥) × AreDistinct xs

pub distinct_joined : (xs ys : List Name) → AreDistinct xs → AreDistinct ys → ((x : Name) → StandsIn xs x → StandsIn ys x → ⊥) → AreDistinct (xs ++ ys)
distinct_joined [] ys h k apart = k
distinct_joined (x ∷ xs) ys h k apart = (
  (λ there. ⊎_elim h.0 (apart x (record { at = 0; is = refl })) (of_both xs ys there.at x there.is)),
  distinct_joined xs ys h.1 k (λ y here there. apart y (record { at = suc here.at; is = here.is }) there),
)

pub none_found : {A : Type 0} (test : A → Bool) (xs : List A) → first_where test xs ≡ None → (k : ℕ) (x : A) → slice_get xs k ≡ Some x → test x ≡ false
none_found test [] e k x there = absurd (cc)
none_found test (y ∷ xs) e zero x there = let is_one : y ≡ x = cc in ap test (sym is_one) ∙ (not_first (test y) (first_where test xs) e).0
none_found test (y ∷ xs) e (suc k) x there = none_found test xs (not_first (test y) (first_where test xs) e).1 k x there

pub nothing_found : {A : Type 0} (test : A → Bool) (xs : List A) → ((k : ℕ) (x : A) → slice_get xs k ≡ Some x → test x ≡ false) → first_where test xs ≡ None
nothing_found test [] h = refl
nothing_found test (x ∷ xs) h =
    ap (λ (b : Bool). if b then Some 0 else option_map suc (first_where test xs)) (h 0 x refl)
    ∙ ap (option_map suc) (nothing_found test xs (λ k y there. h (suc k) y there))

-- ---- how often a number stands in lists

pub times_joined : (n : ℕ) (xs ys : List ℕ) → times n (xs ++ ys) ≡ times n xs + times n ys
times_joined n [] ys = omega arith
times_joined n (x ∷ xs) ys = let e = times_joined n xs ys in omega (arith, e)

-- a list of false flags
pub flags_length : (n : ℕ) → length (replicate n false) ≡ n
flags_length zero = refl
flags_length (suc n) = ap suc (flags_length n)

pub blank_length : (n : ℕ) → length (replicate {A = Option ℕ} n None) ≡ n
blank_length zero = refl
blank_length (suc n) = ap suc (blank_length n)

pub none_of : {A : Type 0} (xs : List A) → length xs ≡ 0 → xs ≡ []
none_of [] e = refl
none_of (x ∷ xs) e = absurd (cc)

abbrev pub in_front : List Instr → List Instr
in_front is = filter is_alloca is ++ filter is_no_alloca is

pub same_count : (is : List Instr) → length (filter is_alloca is) + length (filter is_no_alloca is) ≡ length is
same_count [] = refl
same_count (i ∷ is) = on (is_alloca i) (same_count is)
  where
    on : (b : Bool) → length (filter is_alloca is) + length (filter is_no_alloca is) ≡ length is → length (if b then i ∷ filter is_alloca is else filter is_alloca is) + length (if (if b then false else true) then i ∷ filter is_no_alloca is else filter is_no_alloca is) ≡ suc (length is)
    on true e = omega (arith, e)
    on false e = omega (arith, e)

pub same_length : (is : List Instr) → length (in_front is) ≡ length is
same_length is = length-append (filter is_alloca is) (filter is_no_alloca is) ∙ same_count is

-- an alloca, or what stands no further back than before
pub record CameFrom (is : List Instr) (j : ℕ) (i : Instr) : Type 0 where
  pub at : ℕ
  pub there : slice_get is at ≡ Some i
  pub passes : is_alloca i ≡ true ⊎ (at ≤ j)

of_allocas : (is : List Instr) (j : ℕ) (i : Instr) → slice_get (filter is_alloca is) j ≡ Some i → (at : ℕ) × ((slice_get is at ≡ Some i) × (is_alloca i ≡ true))
of_allocas [] j i e = absurd (cc)
of_allocas (x ∷ xs) j i e = on (is_alloca x) refl (of_allocas xs) j e
  where
    on : (b : Bool) → is_alloca x ≡ b → ((j : ℕ) (i : Instr) → slice_get (filter is_alloca xs) j ≡ Some i → (at : ℕ) × ((slice_get xs at ≡ Some i) × (is_alloca i ≡ true))) → (j : ℕ) → slice_get (if b then x ∷ filter is_alloca xs else filter is_alloca xs) j ≡ Some i → (at : ℕ) × ((slice_get (x ∷ xs) at ≡ Some i) × (is_alloca i ≡ true))
    on true t more zero d = let same : x ≡ i = cc in (0, (d, ap is_alloca (sym same) ∙ t))
    on true t more (suc j) d = let r = more j i d in (suc r.0, r.1)
    on false t more j d = let r = more j i d in (suc r.0, r.1)

of_others : (is : List Instr) (j : ℕ) (i : Instr) → slice_get (filter is_no_alloca is) j ≡ Some i → (at : ℕ) × ((slice_get is at ≡ Some i) × (at ≤ length (filter is_alloca is) + j))
of_others [] j i e = absurd (cc)
of_others (x ∷ xs) j i e = on (is_alloca x) (of_others xs) j e
  where
    on : (b : Bool) → ((j : ℕ) (i : Instr) → slice_get (filter is_no_alloca xs) j ≡ Some i → (at : ℕ) × ((slice_get xs at ≡ Some i) × (at ≤ length (filter is_alloca xs) + j))) → (j : ℕ) → slice_get (if (if b then false else true) then x ∷ filter is_no_alloca xs else filter is_no_alloca xs) j ≡ Some i → (at : ℕ) × ((slice_get (x ∷ xs) at ≡ Some i) × (at ≤ length (if b then x ∷ filter is_alloca xs else filter is_alloca xs) + j))
    on true more j d = let r = more j i d in (suc r.0, (r.1.0, (let low = r.1.1 in omega (arith, low))))
    on false more zero d = (0, (d, omega arith))
    on false more (suc j) d = let r = more j i d in (suc r.0, (r.1.0, (let low = r.1.1 in omega (arith, low))))

-- an element of two lists in a row
pub of_row : {A : Type 0} (xs ys : List A) (j : ℕ) (x : A) → slice_get (xs ++ ys) j ≡ Some x → (slice_get xs j ≡ Some x) ⊎ ((k : ℕ) × ((slice_get ys k ≡ Some x) × (j ≡ length xs + k)))
of_row [] ys j x e = inr (j, (e, omega arith))
of_row (y ∷ xs) ys zero x e = inl e
of_row (y ∷ xs) ys (suc j) x e = ⊎_elim (λ a. inl a) (λ b. inr (b.0, (b.1.0, (let at = b.1.1 in omega (arith, at))))) (of_row xs ys j x e)

pub came_from : (is : List Instr) (j : ℕ) (i : Instr) → slice_get (in_front is) j ≡ Some i → CameFrom is j i
came_from is j i e = ⊎_elim
    (λ (a : slice_get (filter is_alloca is) j ≡ Some i). let r = of_allocas is j i a in record { at = r.0; there = r.1.0; passes = inl r.1.1 })
    (λ (b : (k : ℕ) × ((slice_get (filter is_no_alloca is) k ≡ Some i) × (j ≡ length (filter is_alloca is) + k))).
    let r = of_others is b.0 i b.1.0 in
    let at = b.1.1 in
    let low = r.1.1 in
    record { at = r.0; there = r.1.0; passes = inr (omega (arith, at, low)) })
    (of_row (filter is_alloca is) (filter is_no_alloca is) j i e)

-- the last stays the last, where it is no alloca
pub last_stays : (is : List Instr) (j : ℕ) (i : Instr) → slice_get (in_front is) j ≡ Some i → is_alloca i ≡ false → j < length (in_front is) → (x : CameFrom is j i) → x.at + 1 ≡ length is → x.at ≡ j
last_stays is j i e other low x last = ⊎_elim
    (λ (t : is_alloca i ≡ true). let no : true ≡ false = sym t ∙ other in absurd (cc))
    (λ (le : x.at ≤ j). let same = same_length is in omega (arith, le, last, low, same))
    x.passes

pub source_of : (bs : List Block) (q : ℕ) (c : Block) → slice_get (with_allocas_first bs) q ≡ Some c → (b : Block) × ((slice_get bs q ≡ Some b) × IsSource b c)
source_of [] q c e = absurd (cc)
source_of (b ∷ bs) zero c e = let same : allocas_first b ≡ c = cc in (b, (refl, subst (IsSource b) same First))
source_of (b ∷ bs) (suc q) c e = (c, (e, Same))

pub to_source : (bs : List Block) (q : ℕ) (b : Block) → slice_get bs q ≡ Some b → (c : Block) × ((slice_get (with_allocas_first bs) q ≡ Some c) × IsSource b c)
to_source [] q b e = absurd (cc)
to_source (d ∷ bs) zero b e = let same : d ≡ b = cc in (allocas_first b, (ap (λ (x : Block). Some (allocas_first x)) same, First))
to_source (d ∷ bs) (suc q) b e = (b, (e, Same))

-- ---- once they stand in front they stay

front_skip : (is rest : List Instr) → filter is_alloca (filter is_alloca is ++ rest) ≡ filter is_alloca is ++ filter is_alloca rest
front_skip [] rest = refl
front_skip (i ∷ is) rest = on (is_alloca i) refl (front_skip is rest)
  where
    on : (t : Bool) → is_alloca i ≡ t → filter is_alloca (filter is_alloca is ++ rest) ≡ filter is_alloca is ++ filter is_alloca rest → filter is_alloca ((if t then i ∷ filter is_alloca is else filter is_alloca is) ++ rest) ≡ (if t then i ∷ filter is_alloca is else filter is_alloca is) ++ filter is_alloca rest
    on true e more = ap (λ (t : Bool). if t then i ∷ filter is_alloca (filter is_alloca is ++ rest) else filter is_alloca (filter is_alloca is ++ rest)) e ∙ ap (λ (js : List Instr). i ∷ js) more
    on false e more = more

front_none : (is : List Instr) → filter is_alloca (filter is_no_alloca is) ≡ []
front_none [] = refl
front_none (i ∷ is) = on (is_alloca i) refl (front_none is)
  where
    on : (t : Bool) → is_alloca i ≡ t → filter is_alloca (filter is_no_alloca is) ≡ [] → filter is_alloca (if (if t then false else true) then i ∷ filter is_no_alloca is else filter is_no_alloca is) ≡ []
    on true e more = more
    on false e more = ap (λ (t : Bool). if t then i ∷ filter is_alloca (filter is_no_alloca is) else filter is_alloca (filter is_no_alloca is)) e ∙ more

others_skip : (is rest : List Instr) → filter is_no_alloca (filter is_alloca is ++ rest) ≡ filter is_no_alloca rest
others_skip [] rest = refl
others_skip (i ∷ is) rest = on (is_alloca i) refl (others_skip is rest)
  where
    on : (t : Bool) → is_alloca i ≡ t → filter is_no_alloca (filter is_alloca is ++ rest) ≡ filter is_no_alloca rest → filter is_no_alloca ((if t then i ∷ filter is_alloca is else filter is_alloca is) ++ rest) ≡ filter is_no_alloca rest
    on true e more = ap (λ (t : Bool). if (if t then false else true) then i ∷ filter is_no_alloca (filter is_alloca is ++ rest) else filter is_no_alloca (filter is_alloca is ++ rest)) e ∙ more
    on false e more = more

others_twice : (is : List Instr) → filter is_no_alloca (filter is_no_alloca is) ≡ filter is_no_alloca is
others_twice [] = refl
others_twice (i ∷ is) = on (is_alloca i) refl (others_twice is)
  where
    on : (t : Bool) → is_alloca i ≡ t → filter is_no_alloca (filter is_no_alloca is) ≡ filter is_no_alloca is → filter is_no_alloca (if (if t then false else true) then i ∷ filter is_no_alloca is else filter is_no_alloca is) ≡ (if (if t then false else true) then i ∷ filter is_no_alloca is else filter is_no_alloca is)
    on true e more = more
    on false e more = ap (λ (t : Bool). if (if t then false else true) then i ∷ filter is_no_alloca (filter is_no_alloca is) else filter is_no_alloca (filter is_no_alloca is)) e ∙ ap (λ (js : List Instr). i ∷ js) more

twice : (is : List Instr) → in_front (in_front is) ≡ in_front is
twice is =
    let a = front_skip is (filter is_no_alloca is) ∙ ap (λ (js : List Instr). filter is_alloca is ++ js) (front_none is) ∙ append-nil (filter is_alloca is) in
    let b = others_skip is (filter is_no_alloca is) ∙ others_twice is in
    λ k. a k ++ b k

pub blocks_twice : (bs : List Block) → with_allocas_first (with_allocas_first bs) ≡ with_allocas_first bs
blocks_twice [] = refl
blocks_twice (b ∷ bs) = ap (λ (is : List Instr). record { label = b.label; phis = b.phis; instrs = is; term = b.term } ∷ bs) (twice b.instrs)

pub one_longer : {A : Type 0} (xs : List A) (x : A) → length (xs ++ x ∷ []) ≡ suc (length xs)
one_longer [] x = refl
one_longer (y ∷ xs) x = ap suc (one_longer xs x)

pub set_at : {A : Type 0} (xs : List A) (n : ℕ) (x : A) (k : ℕ) (y : A) → slice_get (slice_set xs n x) k ≡ Some y → ((k ≡ n) × (y ≡ x)) ⊎ (slice_get xs k ≡ Some y)
set_at [] n x k y e = inr e
set_at (a ∷ xs) zero x zero y e = inl (refl, let t : x ≡ y = cc in sym t)
set_at (a ∷ xs) zero x (suc k) y e = inr e
set_at (a ∷ xs) (suc n) x zero y e = inr e
set_at (a ∷ xs) (suc n) x (suc k) y e = ⊎_elim (λ h. inl (ap suc h.0, h.1)) (λ h. inr h) (set_at xs n x k y e)

-- the block in which a search for a label ends has the label
pub found_label : (bs : List Block) (label out : ℕ) (b : Block) → length bs ≤ out → slice_get bs (unwrap_or (first_where (λ (c : Block). c.label == label) bs) out) ≡ Some b → b.label ≡ label
found_label [] label out b high e = absurd (cc)
found_label (c ∷ bs) label out b high e = on (c.label == label) refl (first_where (λ (d : Block). d.label == label) bs) refl e (λ d. found_label bs label (length bs) b (omega arith) d)
  where
    on : (t : Bool) → (c.label == label) ≡ t → (o : Option ℕ) → first_where (λ (d : Block). d.label == label) bs ≡ o → slice_get (c ∷ bs) (unwrap_or (if t then Some 0 else option_map suc o) out) ≡ Some b → (slice_get bs (unwrap_or (first_where (λ (d : Block). d.label == label) bs) (length bs)) ≡ Some b → b.label ≡ label) → b.label ≡ label
    on true d o h e again = let is_one : c ≡ b = cc in ap (λ (x : Block). x.label) (sym is_one) ∙ equal_numbers c.label label d
    on false d (Some k) h e again = again (ap (λ (o : Option ℕ). slice_get bs (unwrap_or o (length bs))) h ∙ e)
    on false d None h e again = let low : out < length (c ∷ bs) = get_within (c ∷ bs) out b e in absurd (omega (arith, low, high))

pub label_found : (g : Function) (label : ℕ) (b : Block) → slice_get g.blocks (position_of g label) ≡ Some b → b.label ≡ label
label_found g label b e = found_label g.blocks label (length g.blocks) b (omega arith) e

pub same_widths : (ts us : List Ty) → us ≡ ts → not (list_all has_width ts) ≡ false → not (list_all has_width us) ≡ false
same_widths ts us e h = ap (λ (vs : List Ty). not (list_all has_width vs)) e ∙ h

-- ---- lists of different names

-- the name is none of these
abbrev pub IsNone : Name → List Name → Type 0
IsNone x ys = Each (λ y. x ≡ y → ⊥) ys

abbrev pub AreDifferent : List Name → Type 0
AreDifferent [] = Unit {0}
AreDifferent (x ∷ xs) = IsNone x xs × AreDifferent xs

-- ---- a test

abbrev is_none_of : Name → List Name → Bool
is_none_of x ys = list_all (λ y. not (same_name x y)) ys

abbrev pub are_all_different : List Name → Bool
are_all_different [] = true
are_all_different (x ∷ xs) = is_none_of x xs && are_all_different xs

none_tested : (x : Name) (ys : List Name) → is_none_of x ys ≡ true → IsNone x ys
none_tested x [] e = tt
none_tested x (y ∷ ys) e =
    let both = and_parts (not (same_name x y)) (is_none_of x ys) e in (
      (λ same. let alike : same_name x y ≡ true = subst (λ (z : Name). same_name x z ≡ true) same (itself x) in
          let other : false ≡ true = subst (λ (b : Bool). not b ≡ true) alike both.0 in absurd (cc)),
      none_tested x ys both.1,
    )

pub tested : (xs : List Name) → are_all_different xs ≡ true → AreDifferent xs
tested [] e = tt
tested (x ∷ xs) e = let both = and_parts (is_none_of x xs) (are_all_different xs) e in (none_tested x xs both.0, tested xs both.1)

-- ---- the names of a number, and those of the numbers below another

abbrev pub row : List (List ℕ) → ℕ → List Name
row [] k = []
row (w ∷ ws) k = numbered w k ∷ row ws k

abbrev pub rows : List (List ℕ) → ℕ → List Name
rows ws zero = []
rows ws (suc k) = rows ws k ++ row ws k

-- ---- rows

row_length : (ws : List (List ℕ)) (k : ℕ) → length (row ws k) ≡ length ws
row_length [] k = refl
row_length (w ∷ ws) k = ap suc (row_length ws k)

pub rows_longer : (w : List ℕ) (ws : List (List ℕ)) (n : ℕ) → n ≤ length (rows (w ∷ ws) n)
rows_longer w ws zero = omega arith
rows_longer w ws (suc n) =
    let rest = rows_longer w ws n in
    omega (arith, rest, length-append (rows (w ∷ ws) n) (row (w ∷ ws) n), row_length (w ∷ ws) n)

digits_bytes : (k n : ℕ) (acc : List ℕ) → list_all is_name_byte acc ≡ true → list_all is_name_byte (digits_onto k 10 false n acc) ≡ true
digits_bytes zero n acc h = h
digits_bytes (suc k) n acc h = on (n / 10 == 0) more (digits_bytes k (n / 10) (digit_glyph false (n % 10) ∷ acc) more)
  where
    more : list_all is_name_byte (digit_glyph false (n % 10) ∷ acc) ≡ true
    more = and_from (is_name_byte (digit_glyph false (n % 10))) (list_all is_name_byte acc) (glyph_byte (n % 10) (omega arith)) h

    on : (b : Bool) → list_all is_name_byte (digit_glyph false (n % 10) ∷ acc) ≡ true → list_all is_name_byte (digits_onto k 10 false (n / 10) (digit_glyph false (n % 10) ∷ acc)) ≡ true → list_all is_name_byte (if b then digit_glyph false (n % 10) ∷ acc else digits_onto k 10 false (n / 10) (digit_glyph false (n % 10) ∷ acc)) ≡ true
    on true a b = a
    on false a b = b

pub number_bytes : (n : ℕ) → list_all is_name_byte (decimal n) ≡ true
unfolding digits
number_bytes n = digits_bytes 64 n [] refl

joined_bytes : (xs ys : List ℕ) → list_all is_name_byte xs ≡ true → list_all is_name_byte ys ≡ true → list_all is_name_byte (xs ++ ys) ≡ true
joined_bytes xs ys a b = list_all-append is_name_byte xs ys ∙ and_from (list_all is_name_byte xs) (list_all is_name_byte ys) a b

longer : (b : ℕ) (bs : List ℕ) → list_all is_name_byte (b ∷ bs) ≡ true → is_name_text (b ∷ bs) ≡ true
longer b bs h = and_from (not (length (b ∷ bs) == 0)) (list_all is_name_byte (b ∷ bs)) (ap not (eqb-suc-zero (length bs))) h

text_bytes : (xs : List ℕ) → is_name_text xs ≡ true → list_all is_name_byte xs ≡ true
text_bytes xs h = (and_parts (not (length xs == 0)) (list_all is_name_byte xs) h).1

pub word_first : (xs ys : List ℕ) → is_name_text xs ≡ true → list_all is_name_byte ys ≡ true → is_name_text (xs ++ ys) ≡ true
word_first [] ys a b = absurd (nothing_no_name a)
word_first (x ∷ xs) ys a b = longer x (xs ++ ys) (joined_bytes (x ∷ xs) ys (text_bytes (x ∷ xs) a) b)

pub word_last : (xs ys : List ℕ) → list_all is_name_byte xs ≡ true → is_name_text ys ≡ true → is_name_text (xs ++ ys) ≡ true
word_last [] ys a b = b
word_last (x ∷ xs) ys a b = longer x (xs ++ ys) (joined_bytes (x ∷ xs) ys a (text_bytes ys b))

pub numbered_named : (word : List ℕ) (k : ℕ) → is_name_text word ≡ true → IsName (numbered word k)
numbered_named word k h = word_first word (decimal k) h (number_bytes k)

pub spelling_bytes : (n : Name) → IsName n → list_all is_name_byte (spelling n) ≡ true
spelling_bytes (Name.Number n) h = number_bytes n
spelling_bytes (Name.Text t) h = text_bytes t h
