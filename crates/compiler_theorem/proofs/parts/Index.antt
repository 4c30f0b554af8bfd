-- The index of a good layout lies in the frame, apart from the fields that may be touched.
use Rattle.std.proofs.Common.{◌≡◌, ℕ, zero, suc, ◌+◌, ◌<◌, Bool, true, false, List, [], ◌∷◌, ◌++◌, cond, length, refl, sym, ap, ◌∙◌, subst, arith}
use Rattle.std.proofs.lemmas.Bool.{false≢true, lt-ltb}
use Rattle.std.proofs.lemmas.List.Elements.{Contains-append_left, Contains-append_right}
use Rattle.std.specs.List.{Contains, position, position_or_len}
use Rattle.std.specs.Prelude.{None, Some, map, nat_lt, not, option_to_list, slice_get, if◌then◌else◌, ◌||◌, ◌&&◌}
use Rattle.compiler_theorem.proofs.parts.Held.{held_each}
use Rattle.compiler.specs.frame_contents.Held.{field_of, fields_of, held_by, index_field, slot_held}
use Rattle.compiler.specs.frame_contents.declared.held.Holding.{Holding}
use Rattle.compiler.specs.frame_layout.Conflicts.{conflict, field_conflicts, is_apart, is_apart_at, pairs_from, pairs_of}
use Rattle.compiler.specs.frame_layout.Layouts.{is_index}
use Rattle.compiler.specs.frame_layout.declared.layout.Field.{Field}
use Rattle.compiler.specs.frame_layout.declared.layout.FieldKind.{FieldKind}
use Rattle.compiler.specs.ir_model.declared.module.Function.{Function}
use Rattle.compiler.specs.ir_model.declared.module.Module.{Module}
use Rattle.compiler.specs.ir_paths.Slots.{has_name, promise_of}
use Rattle.compiler.specs.ir_model.Ty.{Ty}
use Rattle.compiler.specs.run_laws.changed.Changed.{Each}

-- ---- what is held is no index

abbrev NoIndex : Holding → Type 0
NoIndex h = is_index h.kind ≡ false

pub held_kinds : (m : Module) (f : Function) (values slots : ℕ → Bool) → Each NoIndex (held_by m f values slots)
held_kinds m f values slots = held_each m f values slots NoIndex (λ v size e. refl) of_slot
  where
    of_slot : (r : ℕ) (ty : Ty) (align : ℕ) → NoIndex (slot_held m (promise_of f) r ty align)
    of_slot r ty align = on (has_name (option_to_list (promise_of f)) r)
      where
        on : (b : Bool) → is_index (if b then FieldKind.Promise else FieldKind.Slot) ≡ false
        on true = refl
        on false = refl

-- ---- the index is last

first_index : (f : Function) (hs : List Holding) → Each NoIndex hs
    → position_or_len (λ (x : Field). is_index x.kind) (map (field_of f) hs ++ index_field f ∷ []) ≡ length hs
first_index f [] h = refl
first_index f (x ∷ hs) h =
    ap (λ (b : Bool). cond (not b) (1 + position_or_len (λ (y : Field). is_index y.kind)
    (map (field_of f) hs ++ index_field f ∷ [])) 0) h.0
    ∙ ap (λ (n : ℕ). 1 + n) (first_index f hs h.1)
    ∙ one_more (length hs)
  where
    one_more : (n : ℕ) → 1 + n ≡ suc n
    one_more n = omega arith

pub fields_length : (f : Function) (hs : List Holding) → length (map (field_of f) hs ++ index_field f ∷ []) ≡ suc (length hs)
fields_length f [] = refl
fields_length f (x ∷ hs) = ap suc (fields_length f hs)

below_next : (n : ℕ) → nat_lt n (suc n) ≡ true
below_next n = lt-ltb n (suc n) (omega arith)

pub index_found : (f : Function) (hs : List Holding) → Each NoIndex hs
    → position (λ (x : Field). is_index x.kind) (fields_of f hs) ≡ Some (length hs)
index_found f hs h =
    ap (λ (n : ℕ). cond (nat_lt n (length (fields_of f hs))) (Some n) None) (first_index f hs h)
    ∙ ap (λ (n : ℕ). cond (nat_lt (length hs) n) (Some (length hs)) None) (fields_length f hs)
    ∙ ap (λ (b : Bool). cond b (Some (length hs)) None) (below_next (length hs))

pub index_there : (f : Function) (hs : List Holding) → slice_get (fields_of f hs) (length hs) ≡ Some (index_field f)
index_there f [] = refl
index_there f (x ∷ hs) = index_there f hs

-- a field that isn't the index stands before it
pub stands_before : (f : Function) (hs : List Holding) (k : ℕ) (x : Field) → slice_get (fields_of f hs) k ≡ Some x
    → is_index x.kind ≡ false → k < length hs
stands_before f [] zero x e none = let same : index_field f ≡ x = cc in
    absurd (false≢true (sym none ∙ ap (λ (y : Field). is_index y.kind) (sym same)))
stands_before f [] (suc k) x e none = absurd (cc)
stands_before f (h ∷ hs) zero x e none = omega arith
stands_before f (h ∷ hs) (suc k) x e none = let lt = stands_before f hs k x e none in omega (arith, lt)

-- ---- it conflicts with each other

row_has : (test : ℕ → Bool) (j k : ℕ) (fs : List Field) (i : ℕ) → i < length fs → nat_lt j (k + i) ≡ true
    → test (k + i) ≡ true → Contains {X = ℕ × ℕ} (pairs_of test j k fs) (j, k + i)
row_has test j k [] i lt low e = absurd (omega (arith, lt))
row_has test j k (f ∷ fs) zero lt low e =
    let none : k + 0 ≡ k = omega arith in
    Contains-append_left (if nat_lt j k && test k then (j, k) ∷ [] else []) (pairs_of test j (k + 1) fs) (j, k + 0)
    (here (nat_lt j k) (test k) (ap (nat_lt j) (sym none) ∙ low) (ap test (sym none) ∙ e) none)
  where
    here : (a b : Bool) → a ≡ true → b ≡ true → k + 0 ≡ k → Contains {X = ℕ × ℕ} (if a && b then (j, k) ∷ [] else []) (j, k + 0)
    here true true a b none = (0, omega arith, ap (λ (n : ℕ). (j, n)) (sym none))
    here true false a b none = absurd (false≢true b)
    here false b a c none = absurd (false≢true a)
row_has test j k (f ∷ fs) (suc i) lt low e =
    let one : (k + 1) + i ≡ k + suc i = omega arith in
    Contains-append_right (if nat_lt j k && test k then (j, k) ∷ [] else []) (pairs_of test j (k + 1) fs) (j, k + suc i)
    (subst (λ (n : ℕ). Contains {X = ℕ × ℕ} (pairs_of test j (k + 1) fs) (j, n)) one
    (row_has test j (k + 1) fs i (omega (arith, lt)) (ap (nat_lt j) one ∙ low) (ap test one ∙ e)))

from_has : (test : ℕ → ℕ → Bool) (fields : List Field) (j : ℕ) (fs : List Field) (i : ℕ) (p : ℕ × ℕ) → i < length fs
    → Contains {X = ℕ × ℕ} (pairs_of (test (j + i)) (j + i) 0 fields) p → Contains {X = ℕ × ℕ} (pairs_from test fields j fs) p
from_has test fields j [] i p lt c = absurd (omega (arith, lt))
from_has test fields j (f ∷ fs) zero p lt c =
    let none : j + 0 ≡ j = omega arith in
    Contains-append_left (pairs_of (test j) j 0 fields) (pairs_from test fields (j + 1) fs) p
    (subst (λ (n : ℕ). Contains {X = ℕ × ℕ} (pairs_of (test n) n 0 fields) p) none c)
from_has test fields j (f ∷ fs) (suc i) p lt c =
    let one : j + suc i ≡ (j + 1) + i = omega arith in
    Contains-append_right (pairs_of (test j) j 0 fields) (pairs_from test fields (j + 1) fs) p
    (from_has test fields (j + 1) fs i p (omega (arith, lt))
    (subst (λ (n : ℕ). Contains {X = ℕ × ℕ} (pairs_of (test n) n 0 fields) p) one c))

apart_there : (fields : List Field) (k : ℕ) (x : Field) → slice_get fields k ≡ Some x → is_apart x.kind ≡ true
    → is_apart_at fields k ≡ true
apart_there [] k x e a = absurd (cc)
apart_there (y ∷ ys) zero x e a = let same : y ≡ x = cc in ap (λ (z : Field). is_apart z.kind) same ∙ a
apart_there (y ∷ ys) (suc k) x e a = apart_there ys k x e a

apart_conflicts : (fields : List Field) (crossing alive slots : List (ℕ × ℕ)) (j k : ℕ) → is_apart_at fields k ≡ true
    → conflict fields crossing alive slots j k ≡ true
unfolding conflict
apart_conflicts fields crossing alive slots j k e = on (is_apart_at fields j) (is_apart_at fields k) _ _ _ _ _ e
  where
    on : (a b c d x y z : Bool) → b ≡ true → (a || b || c || d || x || y || z) ≡ true
    on a b c d x y z h = grind (arith, h)

pub conflicts_there : (fields : List Field) (crossing alive slots : List (ℕ × ℕ)) (j k : ℕ) (x : Field)
    → slice_get fields k ≡ Some x → is_apart x.kind ≡ true → nat_lt j k ≡ true → j < length fields → k < length fields
    → Contains {X = ℕ × ℕ} (field_conflicts fields crossing alive slots) (j, k)
conflicts_there fields crossing alive slots j k x e a low first second =
    let test : ℕ → ℕ → Bool = conflict fields crossing alive slots in
    let one : 0 + k ≡ k = omega arith in
    let other : 0 + j ≡ j = omega arith in
    let row : Contains {X = ℕ × ℕ} (pairs_of (test j) j 0 fields) (j, k) =
    subst (λ (n : ℕ). Contains {X = ℕ × ℕ} (pairs_of (test j) j 0 fields) (j, n)) one
    (row_has (test j) j 0 fields k second (ap (nat_lt j) one ∙ low)
    (ap (test j) one ∙ apart_conflicts fields crossing alive slots j k (apart_there fields k x e a))) in
    from_has test fields 0 fields j (j, k) first
    (subst (λ (n : ℕ). Contains {X = ℕ × ℕ} (pairs_of (test n) n 0 fields) (j, k)) (sym other) row)
