-- Where the positions of a table of names go in another one: no two go to one where names stand once.
use Rattle.std.proofs.Common.{◌≡◌, ℕ, suc, ◌+◌, ◌<◌, Bool, true, false, List, [], ◌∷◌, ◌++◌, length, refl, sym, ap, ◌∙◌, arith, Option, Some, None}
use Rattle.std.proofs.lemmas.Option.{slice_get_within}
use Rattle.std.specs.Prelude.{if◌then◌else◌, option_map, slice_get, unwrap_or}
use Rattle.ir_base.specs.declared.name.Name.{Name}
use Rattle.pass_proofs.proofs.ir_laws.facts.same_names.Lists.{what_is_found}
use Rattle.pass_proofs.proofs.ir_laws.facts.Truth.{same_name-itself}
use Rattle.ir_model.specs.Names.{first_where, same_name}
use Rattle.pass_proofs.proofs.ir_tables.Tables.{same_name-same}
use Rattle.text_canonical.specs.order.Places.{behind, local_order, placed, placed_if}
use Rattle.text_canonical.specs.order.Shape.{IsPlaced}
use Rattle.pass_proofs.specs.ir_laws.facts.names_apart.Apart.{AreApart}
use Rattle.pass_proofs.specs.ir_laws.facts.order_rules.Renumbered.{StaysApart}
use Rattle.text_canonical.proofs.grammar.Again.{Extends}

-- the first position of a name
abbrev pub first_of : List Name → Option Name → Option ℕ
first_of all None = None
first_of all (Some n) = first_where (λ (m : Name). same_name m n) all

-- a position of the first table goes to that of its name in the second, and behind the second where the name isn't there
abbrev pub position_in : List Name → List Name → ℕ → ℕ
position_in names all i = unwrap_or (first_of all (slice_get names i)) (length all + i)

-- ---- no two go to one

-- the name at a position, where it is found
record IsThere (names all : List Name) (i k : ℕ) : Type 0 where
  name : Name
  stands : slice_get names i ≡ Some name
  found : first_where (λ (m : Name). same_name m name) all ≡ Some k

there : (names all : List Name) (i k : ℕ) → first_of all (slice_get names i) ≡ Some k → IsThere names all i k
there names all i k e = on (slice_get names i) refl e
  where
    on : (o : Option Name) → slice_get names i ≡ o → first_of all o ≡ Some k → IsThere names all i k
    on None d h = absurd (cc)
    on (Some n) d h = record { name = n; stands = d; found = h }

found_within : (all : List Name) (n : Name) (k : ℕ) → first_where (λ (m : Name). same_name m n) all ≡ Some k → k < length all
found_within all n k e = let x = what_is_found (λ (m : Name). same_name m n) all k e in slice_get_within all k x.element x.stands

-- two names that are found at one position are the same
found_same : (all : List Name) (a b : Name) (k : ℕ) → first_where (λ (m : Name). same_name m a) all ≡ Some k → first_where (λ (m : Name). same_name m b) all ≡ Some k → same_name a b ≡ true
found_same all a b k e d =
    let x = what_is_found (λ (m : Name). same_name m a) all k e in
    let y = what_is_found (λ (m : Name). same_name m b) all k d in
    let both : Some x.element ≡ Some y.element = sym x.stands ∙ y.stands in
    let same : x.element ≡ y.element = cc in
    let is_a : x.element ≡ a = same_name-same x.element a x.passes in
    let is_b : y.element ≡ b = same_name-same y.element b y.passes in
    ap (same_name a) (sym is_b ∙ sym same ∙ is_a) ∙ same_name-itself a

pub positions_stay_apart : (names all : List Name) → AreApart names → StaysApart (position_in names all)
positions_stay_apart names all apart i j e = on (first_of all (slice_get names i)) (first_of all (slice_get names j)) refl refl e
  where
    on : (p q : Option ℕ) → first_of all (slice_get names i) ≡ p → first_of all (slice_get names j) ≡ q → unwrap_or p (length all + i) ≡ unwrap_or q (length all + j) → i ≡ j
    on None None h k d = let sums : length all + i ≡ length all + j = d in omega arith
    on None (Some b) h k d =
        let y = there names all j b k in
        let low : b < length all = found_within all y.name b y.found in
        let sums : length all + i ≡ b = d in
        absurd (omega arith)
    on (Some a) None h k d =
        let x = there names all i a h in
        let low : a < length all = found_within all x.name a x.found in
        let sums : a ≡ length all + j = d in
        absurd (omega arith)
    on (Some a) (Some b) h k d =
        let x = there names all i a h in
        let y = there names all j b k in
        let same : b ≡ a = sym d in
        apart i j x.name y.name x.stands y.stands (found_same all x.name y.name a x.found (y.found ∙ ap Some same))

-- ---- the order of first occurrence

-- a name is first found where it was placed, whatever follows
placed_found : (n : Name) (ns more : List Name) → first_where (λ (m : Name). same_name m n) ((placed n ns).1 ++ more) ≡ Some (placed n ns).0
placed_found n [] more = ap (λ (b : Bool). if b then Some 0 else option_map suc (first_where (λ (m : Name). same_name m n) more)) (same_name-itself n)
placed_found n (m ∷ ns) more = on (same_name m n) refl (placed_found n ns more)
  where
    on : (b : Bool) → same_name m n ≡ b → first_where (λ (x : Name). same_name x n) ((placed n ns).1 ++ more) ≡ Some (placed n ns).0 → first_where (λ (x : Name). same_name x n) ((if b then (0, m ∷ ns) else behind m (placed n ns)).1 ++ more) ≡ Some (if b then (0, m ∷ ns) else behind m (placed n ns)).0
    on true e h = ap (λ (c : Bool). if c then Some 0 else option_map suc (first_where (λ (x : Name). same_name x n) (ns ++ more))) e
    on false e h =
        ap (λ (c : Bool). if c then Some 0 else option_map suc (first_where (λ (x : Name). same_name x n) ((placed n ns).1 ++ more))) e ∙ ap (option_map suc) h

-- a position goes where the order takes it
pub order_is : (names all : List Name) (i : ℕ) (ns : List Name) → IsPlaced names i → Extends all (local_order names i ns).1 → (local_order names i ns).0 ≡ position_in names all i
order_is names all i ns h x = on (slice_get names i) h x
  where
    on : (o : Option Name) → (n : Name) × (o ≡ Some n) → Extends all (placed_if o i ns).1 → (placed_if o i ns).0 ≡ unwrap_or (first_of all o) (length all + i)
    on None d y = absurd (cc (d.1))
    on (Some n) d y = sym (ap (λ (o : Option ℕ). unwrap_or o (length all + i)) (ap (first_where (λ (m : Name). same_name m n)) y.is ∙ placed_found n ns y.more))
