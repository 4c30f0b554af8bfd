-- Extents whose size is cut off.
use Rattle.std.proofs.Common.{◌≡◌, ℕ, zero, suc, ◌+◌, ◌-◌, ◌*◌, ◌<◌, ◌≤◌, List, [], ◌∷◌, length, drop, get_or, refl, ap, sym, ◌∙◌, arith, Option, Some, None, inl, inr}
use Rattle.std.specs.Prelude.{option_map, slice_get, ◌^◌, ◌⊎◌}
use Rattle.std.specs.Option.{unwrap_or}
use Rattle.std.proofs.Math.Nat.{suc-mul, zero-mul}
use Rattle.ir_paths.specs.ir_base.declared.name.Name.{Name}
use Rattle.ir_paths.specs.ir_model.Layout.{Extent, array_extent, extent_at, extent_in, extent_or, extent_then, fields_extent, field_offset_from, field_type, no_fields, of_type, padded, rounded_up, type_named, with_field, extent_of, align_of, size_of}
use Rattle.ir_paths.specs.ir_model.Ty.{Ty, Tys, array, field, named, ptr, structure, to_tys}
use Rattle.ir_paths.specs.ir_model.declared.module.TypeItem.{TypeItem}
use Rattle.ir_paths.specs.ir_model.declared.module.Module.{Module}
use Rattle.run_step.specs.Values.{capped, part_at, times}
use Rattle.run_step.specs.Effects.{capped_extent}
use Rattle.run_step.specs.declared.extent.Extent.{Extent as CodeExtent}
use Rattle.run_step.proofs.Lists.{drop-next, drop-end}

big-times : (k s : ℕ) → 2 ^ 64 - 1 ≤ s → capped (suc k * s) ≡ 2 ^ 64 - 1
big-times k s h = let e = suc-mul k s in omega (arith, e)

times-by : (c s : ℕ) → (s ≤ 2 ^ 64 - 1) ⊎ (2 ^ 64 - 1 ≤ s) → capped (c * capped s) ≡ capped (c * s)
times-by zero s h = ap capped (zero-mul (capped s) ∙ sym (zero-mul s))
times-by (suc k) s h =
    elim h [
      | inl le ↦ let e : capped s ≡ s = omega arith in ap (λ (x : ℕ). capped (suc k * x)) e
      | inr ge ↦ let e : 2 ^ 64 - 1 ≤ capped s = omega arith in big-times k (capped s) e ∙ sym (big-times k s ge)
    ]

either : (s m : ℕ) → (s ≤ m) ⊎ (m ≤ s)
either zero m = inl (omega arith)
either (suc s) zero = inr (omega arith)
either (suc s) (suc m) = elim (either s m) [ inl h ↦ inl (omega arith) | inr h ↦ inr (omega arith) ]

pub capped-times : (c s : ℕ) → capped (c * capped s) ≡ capped (c * s)
capped-times c s = times-by c s (either s (2 ^ 64 - 1))

pub repeated-is : (count r : ℕ) (x : CodeExtent) (e : Extent) → r ≡ capped (count * x.size) → x ≡ capped_extent e → (record { size = r; align = x.align }) ≡ capped_extent (array_extent count e)
repeated-is count r x e h is =
    let s : x.size ≡ capped e.size = ap (λ (y : CodeExtent). y.size) is in
    let a : x.align ≡ e.align = ap (λ (y : CodeExtent). y.align) is in
    let t : r ≡ capped (count * e.size) = h ∙ ap (λ n. capped (count * n)) s ∙ capped-times count e.size in
    cc

-- ---- a type at a depth

nonzero : (n : ℕ) → (n ≡ 0 → ⊥) → n ≡ suc (n - 1)
nonzero zero h = absurd (h refl)
nonzero (suc n) h = omega arith

deeper : (E : Name → Option Extent) (depth : ℕ) (t : Ty) → (depth ≡ 0 → ⊥) → extent_in E depth t ≡ extent_in E (suc (depth - 1)) t
deeper E depth t h = let e : depth ≡ suc (depth - 1) = nonzero depth h in ap (λ d. extent_in E d t) e

map-none : (f : Extent → Extent) (o : Option Extent) → None ≡ option_map capped_extent o → None ≡ option_map capped_extent (option_map f o)
map-none f None h = refl
map-none f (Some e) h = absurd cc

map-some : (f : Extent → Extent) (o : Option Extent) (x r : CodeExtent) → Some x ≡ option_map capped_extent o → ((e : Extent) → x ≡ capped_extent e → r ≡ capped_extent (f e)) → Some r ≡ option_map capped_extent (option_map f o)
map-some f None x r h g = absurd cc
map-some f (Some e) x r h g = let s : x ≡ capped_extent e = cc in ap Some (g e s)

pub struct-none : (E : Name → Option Extent) (depth : ℕ) (t : Ty) (ts : Tys) → (depth ≡ 0 → ⊥) → structure ts ≡ t → None ≡ option_map capped_extent (fields_extent (extent_in E (depth - 1)) no_fields ts) → None ≡ option_map capped_extent (extent_in E depth t)
struct-none E depth t ts h is n =
    map-none padded (fields_extent (extent_in E (depth - 1)) no_fields ts) n
    ∙ ap (λ u. option_map capped_extent (extent_in E (suc (depth - 1)) u)) is
    ∙ ap (option_map capped_extent) (sym (deeper E depth t h))

pub struct-some : (E : Name → Option Extent) (depth : ℕ) (t : Ty) (ts : Tys) (x r : CodeExtent) → (depth ≡ 0 → ⊥) → structure ts ≡ t → Some x ≡ option_map capped_extent (fields_extent (extent_in E (depth - 1)) no_fields ts) → ((e : Extent) → x ≡ capped_extent e → r ≡ capped_extent (padded e)) → Some r ≡ option_map capped_extent (extent_in E depth t)
struct-some E depth t ts x r h is s g =
    map-some padded (fields_extent (extent_in E (depth - 1)) no_fields ts) x r s g
    ∙ ap (λ u. option_map capped_extent (extent_in E (suc (depth - 1)) u)) is
    ∙ ap (option_map capped_extent) (sym (deeper E depth t h))

at-name : (types : List TypeItem) (names depth : ℕ) (t : Ty) (n : Name) → (depth ≡ 0 → ⊥) → (names ≡ 0 → ⊥) → named n ≡ t → extent_in (extent_at types names) depth t ≡ of_type (extent_in (extent_at types (names - 1)) 64) (type_named types n)
at-name types names depth t n h g is =
    let e : names ≡ suc (names - 1) = nonzero names g in
    deeper (extent_at types names) depth t h
    ∙ ap (λ u. extent_in (extent_at types names) (suc (depth - 1)) u) (sym is)
    ∙ ap (λ k. extent_at types k n) e

pub named-none : (types : List TypeItem) (names depth : ℕ) (t : Ty) (n : Name) → (depth ≡ 0 → ⊥) → (names ≡ 0 → ⊥) → named n ≡ t → None ≡ type_named types n → None ≡ option_map capped_extent (extent_in (extent_at types names) depth t)
named-none types names depth t n h g is e =
    sym (ap (option_map capped_extent) (at-name types names depth t n h g is ∙ ap (of_type (extent_in (extent_at types (names - 1)) 64)) (sym e)))

pub named-some : (types : List TypeItem) (names depth : ℕ) (t : Ty) (n : Name) (u : Ty) (r : Option CodeExtent) → (depth ≡ 0 → ⊥) → (names ≡ 0 → ⊥) → named n ≡ t → Some u ≡ type_named types n → r ≡ option_map capped_extent (extent_in (extent_at types (names - 1)) 64 u) → r ≡ option_map capped_extent (extent_in (extent_at types names) depth t)
named-some types names depth t n u r h g is e s =
    s ∙ sym (ap (option_map capped_extent) (at-name types names depth t n h g is ∙ ap (of_type (extent_in (extent_at types (names - 1)) 64)) (sym e)))

pub or-none : (o : Option Extent) → None ≡ option_map capped_extent o → (record { size = 0; align = 1 }) ≡ capped_extent (extent_or o)
or-none None h = refl
or-none (Some e) h = absurd cc

pub or-some : (o : Option Extent) (x : CodeExtent) → Some x ≡ option_map capped_extent o → x ≡ capped_extent (extent_or o)
or-some None x h = absurd cc
or-some (Some e) x h = cc

-- ---- the fields of a structure

abbrev then-fields : (Ty → Option Extent) → Extent → Tys → Option Extent → Option Extent
then-fields G e ts o = extent_then o (λ f. fields_extent G (with_field e f) ts)

some-fields : (G : Ty → Option Extent) (o : Option Extent) (t : Ty) (ts : Tys) (e : Extent) (x y : CodeExtent) (r : Option CodeExtent) → G t ≡ o → Some x ≡ option_map capped_extent o → ((f : Extent) → x ≡ capped_extent f → y ≡ capped_extent (with_field e f)) → ((f : Extent) → y ≡ capped_extent f → r ≡ option_map capped_extent (fields_extent G f ts)) → r ≡ option_map capped_extent (fields_extent G e (field t ts))
some-fields G None t ts e x y r is s g h = absurd cc
some-fields G (Some f) t ts e x y r is s g h =
    let same : x ≡ capped_extent f = cc in
    h (with_field e f) (g f same) ∙ sym (ap (λ o. option_map capped_extent (then-fields G e ts o)) is)

pub fields-some : (G : Ty → Option Extent) (types : List Ty) (first : Ty) (e : Extent) (x y : CodeExtent) (r : Option CodeExtent) → 1 ≤ length types → first ≡ get_or types 0 first → Some x ≡ option_map capped_extent (G first) → ((f : Extent) → x ≡ capped_extent f → y ≡ capped_extent (with_field e f)) → ((f : Extent) → y ≡ capped_extent f → r ≡ option_map capped_extent (fields_extent G f (to_tys (drop 1 types)))) → r ≡ option_map capped_extent (fields_extent G e (to_tys types))
fields-some G types first e x y r lt is s g h =
    some-fields G (G first) first (to_tys (drop 1 types)) e x y r refl s g h
    ∙ ap (λ l. option_map capped_extent (fields_extent G e (to_tys l))) (sym (drop-next types 0 first (omega arith) is))

-- ---- the offset of a field

pub offset-here : (m : Module) (types : List Ty) (i left : ℕ) (x : Ty) (e : Extent) (all r : ℕ) (now next : CodeExtent) → i < length types → x ≡ get_or types i x → left ≡ 0 → all ≡ field_offset_from m e (to_tys (drop i types)) left → now ≡ capped_extent e → next ≡ capped_extent (extent_or (extent_of m.types x)) → ((n : ℕ) → now.size ≡ capped n → r ≡ capped (rounded_up n next.align)) → r ≡ capped all
offset-here m types i left x e all r now next lt is z h w n s =
    let a : next.align ≡ align_of m x = ap (λ (y : CodeExtent). y.align) n in
    let b : all ≡ rounded_up e.size (align_of m x) = h ∙ ap (λ k. field_offset_from m e (to_tys (drop i types)) k) z ∙ ap (λ l. field_offset_from m e (to_tys l) 0) (drop-next types i x lt is) in
    s e.size (ap (λ (y : CodeExtent). y.size) w) ∙ ap (λ k. capped (rounded_up e.size k)) a ∙ ap capped (sym b)

pub offset-next : (m : Module) (types : List Ty) (i left : ℕ) (x : Ty) (e : Extent) (all : ℕ) → i < length types → x ≡ get_or types i x → (left ≡ 0 → ⊥) → all ≡ field_offset_from m e (to_tys (drop i types)) left → all ≡ field_offset_from m (with_field e (extent_or (extent_of m.types x))) (to_tys (drop (i + 1) types)) (left - 1)
offset-next m types i left x e all lt is z h =
    let k : left ≡ suc (left - 1) = nonzero left z in
    h ∙ ap (λ n. field_offset_from m e (to_tys (drop i types)) n) k ∙ ap (λ l. field_offset_from m e (to_tys l) (suc (left - 1))) (drop-next types i x lt is)

pub offset-last : (m : Module) (types : List Ty) (i left : ℕ) (e : Extent) (now : CodeExtent) (all : ℕ) → i ≡ length types → now ≡ capped_extent e → all ≡ field_offset_from m e (to_tys (drop i types)) left → now.size ≡ capped all
offset-last m types i left e now all is w h = ap (λ (y : CodeExtent). y.size) w ∙ ap capped (sym (h ∙ ap (λ l. field_offset_from m e (to_tys l) left) (drop-end types i is)))

-- the type of a field
pub field-there : (types : List Ty) (i : ℕ) (t : Ty) → slice_get types i ≡ Some t → t ≡ field_type (to_tys types) i
field-there [] i t h = absurd cc
field-there (x ∷ types) zero t h = cc
field-there (x ∷ types) (suc i) t h = field-there types i t h

pub field-past : (types : List Ty) (i : ℕ) → slice_get types i ≡ None → ptr ≡ field_type (to_tys types) i
field-past [] i h = refl
field-past (x ∷ types) zero h = absurd cc
field-past (x ∷ types) (suc i) h = field-past types i h

-- ---- where an index leads

pub array-part : (m : Module) (t u v : Ty) (n s : ℕ) (i r : Option ℕ) → array n u ≡ t → r ≡ times s i → s ≡ capped (size_of m v) → v ≡ u → r ≡ (part_at m t i).0
array-part m t u v n s i r is e f g =
    e ∙ ap (λ k. times k i) f ∙ ap (λ w. times (capped (size_of m w)) i) g ∙ ap (λ w. (part_at m w i).0) is

pub struct-some-type : (m : Module) (t f : Ty) (types got : List Ty) (i : Option ℕ) (k : ℕ) → structure (to_tys types) ≡ t → k ≡ unwrap_or i 0 → got ≡ types → Some f ≡ slice_get got k → f ≡ (part_at m t i).1
struct-some-type m t f types got i k is e g h =
    field-there types k f (sym (h ∙ ap (λ l. slice_get l k) g)) ∙ ap (λ j. field_type (to_tys types) j) e ∙ ap (λ w. (part_at m w i).1) is

pub struct-none-type : (m : Module) (t f : Ty) (types got : List Ty) (i : Option ℕ) (k : ℕ) → structure (to_tys types) ≡ t → k ≡ unwrap_or i 0 → got ≡ types → f ≡ ptr → None ≡ slice_get got k → f ≡ (part_at m t i).1
struct-none-type m t f types got i k is e g p h =
    p ∙ field-past types k (sym (h ∙ ap (λ l. slice_get l k) g)) ∙ ap (λ j. field_type (to_tys types) j) e ∙ ap (λ w. (part_at m w i).1) is
