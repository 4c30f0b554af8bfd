-- The table has the extents of the named types.
use Rattle.std.proofs.Common.{◌≡◌, ℕ, zero, suc, ◌+◌, ◌-◌, ◌<◌, Bool, true, false, List, [], ◌∷◌, map, refl, ap, sym, ◌∙◌, arith, Option, Some, None, add-one}
use Rattle.std.specs.Prelude.{option_map, if◌then◌else◌}
use Rattle.ir_base.specs.declared.name.Name.{Name}
use Rattle.ir_model.specs.Layout.{Extent as LayoutExtent, extent_at, extent_in, extent_of, extent_or, of_type, size_of, type_named}
use Rattle.ir_model.specs.Names.{first_where, same_name}
use Rattle.ir_model.specs.Ty.{Ty}
use Rattle.ir_model.specs.declared.module.Module.{Module}
use Rattle.ir_model.specs.declared.module.TypeItem.{TypeItem}
use Rattle.ir_sizes.specs.Cut.{capped, cut, cut_whole}
use Rattle.ir_sizes.specs.Levels.{extent_at_position, full_table, known, next_table, table_at}
use Rattle.ir_sizes.specs.declared.extent.Extent.{Extent}
use Rattle.ir_sizes.proofs.Cuts.{cut-in}

-- ---- names

found_by : (h : Option Extent) (hs : List (Option Extent)) (b : Bool) (o : Option ℕ) → extent_at_position (h ∷ hs) (if b then Some 0 else option_map suc o) ≡ (if b then h else extent_at_position hs o)
found_by h hs true o = refl
found_by h hs false None = refl
found_by h hs false (Some i) = refl

named_by : (E : Ty → Option LayoutExtent) (b : Bool) (t : Ty) (o : Option Ty) (x y : Option Extent) → x ≡ option_map cut (E t) → y ≡ option_map cut (of_type E o) → (if b then x else y) ≡ option_map cut (of_type E (if b then Some t else o))
named_by E true t o x y ex ey = ex
named_by E false t o x y ex ey = ey

looked_up : (f : Ty → Option Extent) (E : Ty → Option LayoutExtent) → ((t : Ty) → f t ≡ option_map cut (E t)) → (types : List TypeItem) (n : Name) → known types (map (λ t. f t.ty) types) n ≡ option_map cut (of_type E (type_named types n))
looked_up f E h [] n = refl
looked_up f E h (t ∷ ts) n =
    found_by (f t.ty) (map (λ u. f u.ty) ts) (same_name t.name n) (first_where (λ t. same_name t.name n) ts)
    ∙ named_by E (same_name t.name n) t.ty (type_named ts n) (f t.ty) (known ts (map (λ u. f u.ty) ts) n) (h t.ty) (looked_up f E h ts n)

none_known : (types : List TypeItem) (n : Name) → known types (map (λ t. None) types) n ≡ None
none_known [] n = refl
none_known (t ∷ ts) n = found_by None (map (λ t. None) ts) (same_name t.name n) (first_where (λ t. same_name t.name n) ts) ∙ none_by (same_name t.name n) (known ts (map (λ t. None) ts) n) (none_known ts n)
  where
    none_by : (b : Bool) (o : Option Extent) → o ≡ None → (if b then None else o) ≡ None
    none_by true o e = refl
    none_by false o e = e

pub table_known : (types : List TypeItem) (k : ℕ) (n : Name) → known types (table_at types k) n ≡ option_map cut (extent_at types k n)
unfolding cut_whole
table_known types zero n = none_known types n
table_known types (suc k) n =
    looked_up (cut_whole (known types (table_at types k))) (extent_in (extent_at types k) 64) (cut-in (known types (table_at types k)) (extent_at types k) (table_known types k) 64) types n

-- ---- rounds

steady : (types : List TypeItem) (k j : ℕ) → table_at types (suc k) ≡ table_at types k → table_at types (j + k) ≡ table_at types k
steady types k zero e = ap (table_at types) (omega arith)
steady types k (suc j) e =
    let same : suc j + k ≡ suc (j + k) = omega arith in
    ap (table_at types) same ∙ ap (next_table types) (steady types k j e) ∙ e

pub table_begun : (types : List TypeItem) (table : List (Option Extent)) → table ≡ map (λ t. None) types → table ≡ table_at types 0
table_begun types table e = e

pub table_turn : (types : List TypeItem) (k : ℕ) (table next : List (Option Extent)) → table ≡ table_at types k → next ≡ next_table types table → next ≡ table_at types (k + 1)
table_turn types k table next e is = is ∙ ap (next_table types) e ∙ ap (table_at types) (sym (add-one k))

pub table_done : (types : List TypeItem) (k : ℕ) (table : List (Option Extent)) → k ≡ 64 → table ≡ table_at types k → table ≡ full_table types
unfolding full_table
table_done types k table last e = e ∙ ap (table_at types) last

pub table_steady : (types : List TypeItem) (k : ℕ) (table next : List (Option Extent)) → table ≡ table_at types k → next ≡ next_table types table → next ≡ table → k < 64 → table ≡ full_table types
unfolding full_table
table_steady types k table next e is same lt =
    let up : next ≡ table_at types (k + 1) = table_turn types k table next e is in
    let stays : table_at types (suc k) ≡ table_at types k = ap (table_at types) (sym (add-one k)) ∙ sym up ∙ same ∙ e in
    let whole : 64 - k + k ≡ 64 = omega arith in
    e ∙ sym (steady types k (64 - k) stays) ∙ ap (table_at types) whole

-- ---- the answer

table_cut : (types : List TypeItem) (table : List (Option Extent)) (t : Ty) → table ≡ full_table types → cut_whole (known types table) t ≡ option_map cut (extent_of types t)
unfolding full_table cut_whole
table_cut types table t e =
    ap (λ (l : List (Option Extent)). cut_whole (known types l) t) e ∙ cut-in (known types (table_at types 64)) (extent_at types 64) (table_known types 64) 64 t

or_zero : (o : Option LayoutExtent) → None ≡ option_map cut o → 0 ≡ capped (extent_or o).size
or_zero None e = refl
or_zero (Some x) e = absurd cc

or_some : (o : Option LayoutExtent) (a : Extent) → Some a ≡ option_map cut o → a.size ≡ capped (extent_or o).size
or_some None a e = absurd cc
or_some (Some x) a e = let same : a ≡ cut x = cc in ap (λ (y : Extent). y.size) same

pub size_none : (m : Module) (table : List (Option Extent)) (t : Ty) → table ≡ full_table m.types → None ≡ cut_whole (known m.types table) t → 0 ≡ capped (size_of m t)
size_none m table t e is = or_zero (extent_of m.types t) (is ∙ table_cut m.types table t e)

pub size_some : (m : Module) (table : List (Option Extent)) (t : Ty) (a : Extent) → table ≡ full_table m.types → Some a ≡ cut_whole (known m.types table) t → a.size ≡ capped (size_of m t)
size_some m table t a e is = or_some (extent_of m.types t) a (is ∙ table_cut m.types table t e)
