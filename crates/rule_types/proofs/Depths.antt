-- The depths in the table are those of the types.
use Rattle.std.proofs.Common.{◌≡◌, ◌≤◌, ◌<◌, ◌+◌, ℕ, zero, suc, cond, Bool, true, false, ◌&&◌, List, [], ◌∷◌, map, refl, sym, ap, subst, ◌∙◌, add-one, arith}
use Rattle.std.specs.Prelude.{Option, Some, None, option_map, nat_le, slice_get, if◌then◌else◌}
use Rattle.std.proofs.lemmas.Bool.{and_parts, le-leb, leb-true, leb-false, lt-leb}
use Rattle.ir_base.specs.declared.name.Name.{Name}
use Rattle.ir_model.specs.Layout.{type_named, type_or}
use Rattle.ir_model.specs.Names.{first_where, same_name}
use Rattle.ir_model.specs.Ty.{Ty, Tys, array, field, int, named, none, ptr, structure, token}
use Rattle.ir_model.specs.declared.module.TypeItem.{TypeItem}
use Rattle.rule_types.specs.Depth.{fields_pass, fits, is_shallow, meant, parts_pass}
use Rattle.rule_types.specs.Heights.{fits_by, full_height, height_after, height_to, heights_after, is_within, reached, reaches}

-- ---- what is at most d deep is at most d + 1 deep

both : (a b : Bool) → a ≡ true → b ≡ true → (a && b) ≡ true
both true b e f = f
both false b e f = absurd cc

fields_mono : (p q : Ty → Bool) → ((t : Ty) → p t ≡ true → q t ≡ true) → (ts : Tys) → fields_pass p ts ≡ true → fields_pass q ts ≡ true
fields_mono p q h none e = refl
fields_mono p q h (field t ts) e =
    let parts = and_parts (p t) (fields_pass p ts) e in
    both (q t) (fields_pass q ts) (h t parts.0) (fields_mono p q h ts parts.1)

parts_mono : (p q : Ty → Bool) → ((t : Ty) → p t ≡ true → q t ≡ true) → (t : Ty) → parts_pass p t ≡ true → parts_pass q t ≡ true
parts_mono p q h (int w) e = refl
parts_mono p q h ptr e = refl
parts_mono p q h token e = refl
parts_mono p q h (array n t) e = h t e
parts_mono p q h (structure ts) e = fields_mono p q h ts e
parts_mono p q h (named n) e = refl

fits_mono : (types : List TypeItem) (d : ℕ) (t : Ty) → fits types d t ≡ true → fits types (suc d) t ≡ true
fits_mono types zero t e = absurd cc
fits_mono types (suc d) t e = parts_mono (fits types d) (fits types (suc d)) (fits_mono types d) (meant types t) e

abbrev F : List TypeItem → ℕ → Ty → Bool
F types d t = parts_pass (fits types d) t

F_mono : (types : List TypeItem) (d : ℕ) (t : Ty) → F types d t ≡ true → F types (suc d) t ≡ true
F_mono types d t e = parts_mono (fits types d) (fits types (suc d)) (fits_mono types d) t e

-- ---- the depths up to k

-- a depth that is known is at most k
range_by : (h k : ℕ) (b c : Bool) → k < 64 → nat_le h 64 ≡ b → (nat_le h 64 ≡ true → h ≤ k) → nat_le (if b then h else (if c then suc k else 65)) 64 ≡ true → (if b then h else (if c then suc k else 65)) ≤ suc k
range_by h k true c lt e f g = let le : h ≤ k = f e in omega (arith, le)
range_by h k false true lt e f g = omega arith
range_by h k false false lt e f g = absurd cc

range : (types : List TypeItem) (k : ℕ) (t : Ty) → k ≤ 64 → nat_le (height_to types k t) 64 ≡ true → height_to types k t ≤ k
range types zero t le e = absurd cc
range types (suc k) t le e =
    range_by (height_to types k t) k (nat_le (height_to types k t) 64) (F types k t) (omega arith) refl (range types k t (omega arith)) e

-- a depth that isn't known is above 64, and not that of what is at most k deep
old_by : (h k e : ℕ) (b c fe : Bool) → suc e ≤ k → k < 64 → nat_le h 64 ≡ b → nat_le h (suc e) ≡ fe → nat_le (if b then h else (if c then suc k else 65)) (suc e) ≡ fe
old_by h k e true c fe le lt is was = was
old_by h k e false true fe le lt is was =
    let above : 64 < h = leb-false h 64 is in
    lt-leb (suc k) (suc e) (omega arith) ∙ sym (lt-leb h (suc e) (omega (arith, above))) ∙ was
old_by h k e false false fe le lt is was =
    let above : 64 < h = leb-false h 64 is in
    lt-leb 65 (suc e) (omega arith) ∙ sym (lt-leb h (suc e) (omega (arith, above))) ∙ was

new_by : (h k : ℕ) (b c : Bool) → k < 64 → nat_le h 64 ≡ b → (nat_le h 64 ≡ true → h ≤ k) → (nat_le h 64 ≡ true → c ≡ true) → nat_le (if b then h else (if c then suc k else 65)) (suc k) ≡ c
new_by h k true c lt is range known = le-leb h (suc k) (let le : h ≤ k = range is in omega (arith, le)) ∙ sym (known is)
new_by h k false true lt is range known = le-leb (suc k) (suc k) (omega arith)
new_by h k false false lt is range known = lt-leb 65 (suc k) (omega arith)

abbrev Known : List TypeItem → ℕ → Type 0
Known types k = (e : ℕ) (t : Ty) → suc e ≤ k → nat_le (height_to types k t) (suc e) ≡ F types e t

-- what has a known depth fits
settled : (types : List TypeItem) (k : ℕ) (t : Ty) → k ≤ 64 → Known types k → nat_le (height_to types k t) 64 ≡ true → F types k t ≡ true
settled types zero t le known e = absurd cc
settled types (suc j) t le known e =
    F_mono types j t (sym (known j t (omega arith)) ∙ le-leb (height_to types (suc j) t) (suc j) (range types (suc j) t le e))

depth_step : (types : List TypeItem) (k : ℕ) → k < 64 → Known types k → (e : ℕ) (t : Ty) → suc e ≤ suc k → (b : Bool) → nat_le (suc e) k ≡ b → nat_le (height_to types (suc k) t) (suc e) ≡ F types e t
depth_step types k lt known e t le true is =
    old_by (height_to types k t) k e (nat_le (height_to types k t) 64) (F types k t) (F types e t) (leb-true (suc e) k is) lt refl (known e t (leb-true (suc e) k is))
depth_step types k lt known e t le false is =
    let same : e ≡ k = omega (arith, leb-false (suc e) k is) in
    subst (λ (d : ℕ). nat_le (height_to types (suc k) t) (suc d) ≡ F types d t) (sym same)
    (new_by (height_to types k t) k (nat_le (height_to types k t) 64) (F types k t) lt refl (range types k t (omega arith)) (settled types k t (omega arith) known))

depth_known : (types : List TypeItem) (k : ℕ) → k ≤ 64 → Known types k
depth_known types zero top e t le = absurd (omega arith)
depth_known types (suc k) top e t le = depth_step types k (omega arith) (depth_known types k (omega arith)) e t le (nat_le (suc e) k) refl

-- ---- names

abbrev in_named : (Ty → Bool) → Option Ty → Bool
in_named p None = true
in_named p (Some t) = p t

found_by : (h : ℕ) (hs : List ℕ) (d : ℕ) (b : Bool) (o : Option ℕ) → reached (h ∷ hs) d (if b then Some 0 else option_map suc o) ≡ (if b then nat_le h d else reached hs d o)
found_by h hs d true o = refl
found_by h hs d false None = refl
found_by h hs d false (Some i) = refl

named_by : (p : Ty → Bool) (b : Bool) (t : Ty) (o : Option Ty) (x : Bool) (y : Bool) → x ≡ p t → y ≡ in_named p o → (if b then x else y) ≡ in_named p (if b then Some t else o)
named_by p true t o x y ex ey = ex
named_by p false t o x y ex ey = ey

looked_up : (f : Ty → ℕ) (d : ℕ) (p : Ty → Bool) → ((t : Ty) → nat_le (f t) d ≡ p t) → (types : List TypeItem) (n : Name) → reached (map (λ u. f u.ty) types) d (first_where (λ t. same_name t.name n) types) ≡ in_named p (type_named types n)
looked_up f d p h [] n = refl
looked_up f d p h (t ∷ ts) n =
    found_by (f t.ty) (map (λ u. f u.ty) ts) d (same_name t.name n) (first_where (λ t. same_name t.name n) ts)
    ∙ named_by p (same_name t.name n) t.ty (type_named ts n) (nat_le (f t.ty) d) (reached (map (λ u. f u.ty) ts) d (first_where (λ t. same_name t.name n) ts)) (h t.ty) (looked_up f d p h ts n)

meant_by : (p : Ty → Bool) (n : Name) (o : Option Ty) → in_named (parts_pass p) o ≡ parts_pass p (type_or (named n) o)
meant_by p n None = refl
meant_by p n (Some t) = refl

name_known : (types : List TypeItem) (k : ℕ) → k ≤ 64 → (n : Name) (d : ℕ) → suc d ≤ k → reaches types (map (λ u. height_to types k u.ty) types) n (suc d) ≡ fits types (suc d) (named n)
name_known types k top n d le =
    looked_up (height_to types k) (suc d) (F types d) (λ t. depth_known types k top d t le) types n ∙ meant_by (fits types d) n (type_named types n)

-- ---- types

by_table : (types : List TypeItem) (reach : Name → ℕ → Bool) (k : ℕ) → ((n : Name) (d : ℕ) → suc d ≤ k → reach n (suc d) ≡ fits types (suc d) (named n)) → (d : ℕ) → d ≤ k → (t : Ty) → fits_by reach d t ≡ fits types d t
by_table types reach k h zero le t = refl
by_table types reach k h (suc d) le (int w) = refl
by_table types reach k h (suc d) le ptr = refl
by_table types reach k h (suc d) le token = refl
by_table types reach k h (suc d) le (array n t) = by_table types reach k h d (omega arith) t
by_table types reach k h (suc d) le (structure ts) = ap (λ (p : Ty → Bool). fields_pass p ts) (λ i t. by_table types reach k h d (omega arith) t i)
by_table types reach k h (suc d) le (named n) = h n d le

pub table_fits : (types : List TypeItem) (hs : List ℕ) (t : Ty) → hs ≡ map (λ u. full_height types u.ty) types → fits_by (reaches types hs) 64 t ≡ is_shallow types t
unfolding is_shallow full_height
table_fits types hs t e =
    ap (λ (l : List ℕ). fits_by (reaches types l) 64 t) e ∙ by_table types (reaches types (map (λ u. height_to types 64 u.ty) types)) 64 (name_known types 64 (omega arith)) 64 (omega arith) t

-- ---- one round more

after_by : (types : List TypeItem) (reach : Name → ℕ → Bool) (k : ℕ) → ((t : Ty) → fits_by reach k t ≡ fits types k t) → (ts : List TypeItem) → heights_after reach k ts (map (λ u. height_to types k u.ty) ts) ≡ map (λ u. height_to types (suc k) u.ty) ts
after_by types reach k h [] = refl
after_by types reach k h (t ∷ ts) =
    let one : k + 1 ≡ suc k = add-one k in
    let same : fits_by reach k ≡ fits types k = λ i u. h u i in
    let here : height_after reach k t.ty (height_to types k t.ty) ≡ height_to types (suc k) t.ty =
    ap (λ (p : Ty → Bool). if nat_le (height_to types k t.ty) 64 then height_to types k t.ty else (if parts_pass p t.ty then k + 1 else 65)) same
    ∙ ap (λ (n : ℕ). if nat_le (height_to types k t.ty) 64 then height_to types k t.ty else (if parts_pass (fits types k) t.ty then n else 65)) one in
    ap (λ (n : ℕ). n ∷ heights_after reach k ts (map (λ u. height_to types k u.ty) ts)) here
    ∙ ap (λ (l : List ℕ). height_to types (suc k) t.ty ∷ l) (after_by types reach k h ts)

pub heights_turn : (types : List TypeItem) (k : ℕ) (hs next : List ℕ) → k < 64 → hs ≡ map (λ u. height_to types k u.ty) types → next ≡ heights_after (reaches types hs) k types hs → next ≡ map (λ u. height_to types (k + 1) u.ty) types
heights_turn types k hs next lt e is =
    is ∙ ap (λ (l : List ℕ). heights_after (reaches types l) k types l) e
    ∙ after_by types (reaches types (map (λ u. height_to types k u.ty) types)) k (by_table types (reaches types (map (λ u. height_to types k u.ty) types)) k (name_known types k (omega arith)) k (omega arith)) types
    ∙ ap (λ (n : ℕ). map (λ u. height_to types n u.ty) types) (sym (add-one k))

pub heights_done : (types : List TypeItem) (k : ℕ) (hs : List ℕ) → k ≡ 64 → hs ≡ map (λ u. height_to types k u.ty) types → hs ≡ map (λ u. full_height types u.ty) types
unfolding full_height
heights_done types k hs top e = e ∙ ap (λ (n : ℕ). map (λ u. height_to types n u.ty) types) top
