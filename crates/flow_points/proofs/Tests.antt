-- Tests of points, and places of lists.
use Rattle.std.proofs.Common.{◌≡◌, ◌≢◌, ℕ, zero, suc, ◌+◌, ◌<◌, ◌≤◌, Bool, true, false, ◌||◌, List, [], ◌∷◌, ◌++◌, length, take, get_or, refl, ap, sym, ◌∙◌, arith, Some, Ok, Err}
use Rattle.std.specs.Prelude.{IfOk, OnOk, Result, map, slice_get, slice_set, unwrap_or, ◌==◌}
use Rattle.std.proofs.lemmas.Bool.{eq-eqb, false≢true, and_from}
use Rattle.std.proofs.lemmas.List.{get_or_default}
use Rattle.std.proofs.lemmas.List.Folds.{list_any-append, list_any_more}
use Rattle.ir_paths.specs.Paths.{has_point, same_point}
use Rattle.ir_paths.specs.declared.point.Point.{Point}

-- two tests that hold together are one
pub same_test : (a b : Bool) → (a ≡ true → b ≡ true) → (b ≡ true → a ≡ true) → a ≡ b
same_test true true f g = refl
same_test true false f g = absurd (false≢true (f refl))
same_test false true f g = absurd (false≢true (g refl))
same_test false false f g = refl

pub or-false : (a : Bool) → (a || false) ≡ a
or-false true = refl
or-false false = refl

pub or_assoc : (a b c : Bool) → ((a || b) || c) ≡ (a || (b || c))
or_assoc true b c = refl
or_assoc false b c = refl

pub or-since : (a b : Bool) → (b ≡ true → a ≡ true) → a ≡ (a || b)
or-since true b f = refl
or-since false true f = absurd (false≢true (f refl))
or-since false false f = refl

pub no_test : {A : Type 0} (b : Bool) → b ≡ true → b ≡ false → A
no_test b e f = absurd (false≢true (sym f ∙ e))

-- points with the same block and position
pub same_point-from : (p q : Point) → p.block ≡ q.block → p.at ≡ q.at → same_point p q ≡ true
same_point-from p q e f = and_from (p.block == q.block) (p.at == q.at) (eq-eqb p.block q.block e) (eq-eqb p.at q.at f)

pub point-is : (p q : Point) → p.block ≡ q.block → p.at ≡ q.at → p ≡ q
point-is p q e f = λ i. record { block = e i; at = f i }

-- one point more at the end
pub has_point-push : (ps : List Point) (p q : Point) → has_point (ps ++ p ∷ []) q ≡ (has_point ps q || same_point q p)
has_point-push ps p q = list_any-append (same_point q) ps (p ∷ []) ∙ ap (λ b. has_point ps q || b) (or-false (same_point q p))

-- one more of the first points
pub has_point-more : (ps : List Point) (i : ℕ) (p q : Point) → i < length ps → p ≡ get_or ps i p → has_point (take (i + 1) ps) q ≡ (has_point (take i ps) q || same_point q p)
has_point-more ps i p q lt e = list_any_more (same_point q) ps i p lt ∙ ap (λ y. has_point (take i ps) q || same_point q y) (sym e)

pub take-all : {A : Type 0} (xs : List A) (i : ℕ) → length xs ≤ i → take i xs ≡ xs
take-all [] zero le = refl
take-all [] (suc i) le = refl
take-all (x ∷ xs) zero le = absurd (omega arith)
take-all (x ∷ xs) (suc i) le = ap (λ (l : List _). x ∷ l) (take-all xs i (omega arith))

-- ---- places

pub place_set : {A : Type 0} (xs : List A) (i : ℕ) (v d : A) → i < length xs → unwrap_or (slice_get (slice_set xs i v) i) d ≡ v
place_set [] i v d lt = absurd (omega arith)
place_set (x ∷ xs) zero v d lt = refl
place_set (x ∷ xs) (suc i) v d lt = place_set xs i v d (omega arith)

pub place_other : {A : Type 0} (xs : List A) (i j : ℕ) (v d : A) → j ≢ i → unwrap_or (slice_get (slice_set xs i v) j) d ≡ unwrap_or (slice_get xs j) d
place_other [] i j v d ne = refl
place_other (x ∷ xs) zero zero v d ne = absurd (ne refl)
place_other (x ∷ xs) zero (suc j) v d ne = refl
place_other (x ∷ xs) (suc i) zero v d ne = refl
place_other (x ∷ xs) (suc i) (suc j) v d ne = place_other xs i j v d (λ e. ne (ap suc e))

pub set_past : {A : Type 0} (xs : List A) (i : ℕ) (v : A) → length xs ≤ i → slice_set xs i v ≡ xs
set_past [] i v le = refl
set_past (x ∷ xs) zero v le = absurd (omega arith)
set_past (x ∷ xs) (suc i) v le = ap (λ (l : List _). x ∷ l) (set_past xs i v (omega arith))

pub get_map : {A B : Type 0} (f : A → B) (xs : List A) (i : ℕ) (x : A) → slice_get xs i ≡ Some x → slice_get (map f xs) i ≡ Some (f x)
get_map f [] i x e = absurd (cc)
get_map f (y ∷ xs) zero x e = let same : y ≡ x = cc in ap (λ z. Some (f z)) same
get_map f (y ∷ xs) (suc i) x e = get_map f xs i x e

pub read_at : {A : Type 0} (xs : List A) (i : ℕ) (x : A) → i < length xs → x ≡ get_or xs i x → slice_get xs i ≡ Some x
read_at [] i x lt e = absurd (omega arith)
read_at (y ∷ xs) zero x lt e = ap (λ z. Some z) (sym e)
read_at (y ∷ xs) (suc i) x lt e = read_at xs i x (omega arith) e

-- what is read from a list, as it is read again
pub read-again : {A : Type 0} (xs : List A) (i : ℕ) (d : A) → i < length xs → get_or xs i d ≡ get_or xs i (get_or xs i d)
read-again xs i d lt = get_or_default xs i d (get_or xs i d) lt

abbrev pub no_point : Point
no_point = record { block = 0; at = 0 }

-- the same result, of which something else is known
pub on-ok : {T E : Type 0} (r : Result T E) (P Q : Type 0) → (P → Q) → OnOk r P → OnOk r Q
on-ok (Ok x) P Q f h = f h
on-ok (Err e) P Q f h = tt

pub if-ok : {T E : Type 0} (r : Result T E) (P Q : T → Type 0) → ((x : T) → P x → Q x) → IfOk r P → IfOk r Q
if-ok (Ok x) P Q f h = f x h
if-ok (Err e) P Q f h = tt

-- a point of a list
pub has_point-at : (ps : List Point) (i : ℕ) (p : Point) → i < length ps → p ≡ get_or ps i p → has_point ps p ≡ true
has_point-at [] i p lt e = absurd (omega arith)
has_point-at (x ∷ ps) zero p lt e = ap (λ b. b || has_point ps p) (same_point-from p x (ap (λ (y : Point). y.block) e) (ap (λ (y : Point). y.at) e))
has_point-at (x ∷ ps) (suc i) p lt e = late (same_point p x) (has_point ps p) (has_point-at ps i p (omega arith) e)
  where
    late : (a b : Bool) → b ≡ true → (a || b) ≡ true
    late true b h = refl
    late false b h = h
