-- What tables find: the first layout of a coroutine, the first field of a name, and the places of sites.
use Rattle.std.proofs.Common.{◌≡◌, ℕ, zero, suc, ◌+◌, ◌<◌, Bool, true, false, cond, ◌||◌, List, [], ◌∷◌, length}
use Rattle.std.proofs.Common.{take, get_or, refl, ap, sym, ◌∙◌, arith, Option, Some, None}
use Rattle.std.specs.Prelude.{find, option_and_then, option_map, slice_get, if◌then◌else◌, ◌==◌}
use Rattle.std.specs.List.{list_any}
use Rattle.std.proofs.lemmas.List.{get_or_default}
use Rattle.frame_layout.specs.declared.layout.Layout.{Layout}
use Rattle.ir_base.specs.declared.name.Name.{Name}
use Rattle.ir_base.specs.declared.outcome.Place.{Place}
use Rattle.ir_model.specs.Names.{first_where, same_name}
use Rattle.ir_tables.specs.Tables.{or_at}
use Rattle.ir_tables.proofs.Tables.{first_where-suc}
use Rattle.pass_elide.specs.Frames.{field_named, layout_of}
use Rattle.pass_elide.specs.Places.{is_at, is_site}
use Rattle.pass_elide.specs.declared.fields.CalleeField.{CalleeField}
use Rattle.pass_elide.specs.declared.places.CallPlace.{CallPlace}

-- ---- the element at the first position that passes a test

at-first : {A : Type 0} (b : Bool) (x : A) (xs : List A) (o : Option ℕ) (rest : Option A) → option_and_then (slice_get xs) o ≡ rest
    → option_and_then (slice_get (x ∷ xs)) (if b then Some 0 else option_map suc o) ≡ cond b (Some x) rest
at-first true x xs o rest e = refl
at-first false x xs None rest e = e
at-first false x xs (Some i) rest e = e

pub find-first : {A : Type 0} (test : A → Bool) (xs : List A) → option_and_then (slice_get xs) (first_where test xs) ≡ find test xs
find-first test [] = refl
find-first test (x ∷ xs) = at-first (test x) x xs (first_where test xs) (find test xs) (find-first test xs)

-- the layout at the position that the table has
pub layout-found : (ls : List Layout) (func : ℕ) (o : Option ℕ) → o ≡ first_where (λ l. l.coroutine == func) ls
    → option_and_then (slice_get ls) o ≡ layout_of ls func
layout-found ls func o e =
    ap (λ (p : Option ℕ). option_and_then (slice_get ls) p) e ∙ find-first (λ (l : Layout). l.coroutine == func) ls

-- the field at the position that the table has
pub field-found : (fields : List CalleeField) (n : Name) (o : Option ℕ) → o ≡ first_where (λ y. same_name y.name n) fields
    → option_and_then (slice_get fields) o ≡ field_named fields n
field-found fields n o e =
    ap (λ (p : Option ℕ). option_and_then (slice_get fields) p) e ∙ find-first (λ (y : CalleeField). same_name y.name n) fields

-- one layout more in the table
pub layout-next : (n : ℕ) (ls : List Layout) (i : ℕ) (x : Layout) → i < length ls → x ≡ get_or ls i x → (old new : Option ℕ)
    → old ≡ first_where (λ l. l.coroutine == n) (take i ls) → new ≡ or_at old ((get_or ls i x).coroutine == n) i
    → new ≡ first_where (λ l. l.coroutine == n) (take (i + 1) ls)
layout-next n ls i x lt e old new h u =
    let one : suc i ≡ i + 1 = omega arith in
    u
    ∙ ap (λ (z : Layout). or_at old (z.coroutine == n) i) (sym e)
    ∙ ap (λ (o : Option ℕ). or_at o (x.coroutine == n) i) h
    ∙ sym (first_where-suc (λ (l : Layout). l.coroutine == n) ls i x lt e)
    ∙ ap (λ (k : ℕ). first_where (λ l. l.coroutine == n) (take k ls)) one

-- ---- sites

-- what is read from a list, as it is read again
pub read-again : {A : Type 0} (xs : List A) (i : ℕ) (d : A) → i < length xs → get_or xs i d ≡ get_or xs i (get_or xs i d)
read-again xs i d lt = get_or_default xs i d (get_or xs i d) lt

or-turned : (a b c : Bool) → (a || (b || c)) ≡ (b || (a || c))
or-turned true true c = refl
or-turned true false c = refl
or-turned false true c = refl
or-turned false false c = refl

any-suc : {A : Type 0} (test : A → Bool) (xs : List A) (i : ℕ) (x : A) → i < length xs → x ≡ get_or xs i x
    → list_any test (take (suc i) xs) ≡ (test x || list_any test (take i xs))
any-suc test [] i x lt e = absurd (omega arith)
any-suc test (y ∷ xs) zero x lt e = ap (λ z. test z || false) (sym e)
any-suc test (y ∷ xs) (suc i) x lt e =
    ap (λ (b : Bool). test y || b) (any-suc test xs i x (omega arith) e) ∙ or-turned (test y) (test x) (list_any test (take i xs))

-- one site more in the table
pub site-next : (s : CallPlace) (sites : List Place) (i : ℕ) (x : Place) → i < length sites → x ≡ get_or sites i x → (old new : Bool)
    → old ≡ is_site (take i sites) s → new ≡ (is_at s x || old) → new ≡ is_site (take (i + 1) sites) s
site-next s sites i x lt e old new h u =
    let one : suc i ≡ i + 1 = omega arith in
    u
    ∙ ap (λ (b : Bool). is_at s x || b) h
    ∙ sym (any-suc (is_at s) sites i x lt e)
    ∙ ap (λ (k : ℕ). is_site (take k sites) s) one
