-- The alignments in the table are those of the types' extents.
use Rattle.std.proofs.Common.{◌≡◌, ◌+◌, ℕ, zero, suc, max, cond, Bool, true, false, List, [], ◌∷◌, ◌++◌, reverse, Option, None, refl, sym, ap, subst, ◌∙◌, add-one}
use Rattle.std.specs.Prelude.{Some, option_map}
use Rattle.std.proofs.lemmas.List.{reverse-append}
use Rattle.ir_base.specs.declared.name.Name.{Name}
use Rattle.ir_model.specs.Names.{same_name}
use Rattle.ir_model.specs.Layout.{Extent, extent_in, extent_at, extent_of, extent_or, fields_extent, extent_then, with_field, padded, array_extent, no_fields, of_type, type_named}
use Rattle.ir_model.specs.Ty.{Ty, Tys, array, field, int, named, none, ptr, structure, token}
use Rattle.ir_model.specs.declared.module.TypeItem.{TypeItem}
use Rattle.ir_alignments.specs.Alignment.{align_in, align_then, fields_alignment, alignment_in, of_named, alignment_at}
use Rattle.ir_alignments.specs.Level.{IsNext}

abbrev align : Option Extent → Option ℕ
align o = option_map (λ (e : Extent). e.align) o

-- what is done to an extent that keeps its alignment
kept : (f : Extent → Extent) → ((e : Extent) → (f e).align ≡ e.align) → (o : Option Extent) → align o ≡ align (option_map f o)
kept f h None = refl
kept f h (Some e) = ap (λ (a : ℕ). Some a) (sym (h e))

fields-align : (A : Ty → Option ℕ) (E : Ty → Option Extent) → ((t : Ty) → A t ≡ align (E t)) → (ts : Tys) (e : Extent) → fields_alignment A e.align ts ≡ align (fields_extent E e ts)
fields-align A E h none e = refl
fields-align A E h (field t ts) e = ap (λ (o : Option ℕ). align_then o (λ b. fields_alignment A (max e.align b) ts)) (h t) ∙ then (E t) (λ f. fields-align A E h ts (with_field e f))
  where
    then : (o : Option Extent) → ((f : Extent) → fields_alignment A (max e.align f.align) ts ≡ align (fields_extent E (with_field e f) ts)) → align_then (align o) (λ b. fields_alignment A (max e.align b) ts) ≡ align (extent_then o (λ f. fields_extent E (with_field e f) ts))
    then None k = refl
    then (Some f) k = k f

alignment-align : (f : Name → Option ℕ) (g : Name → Option Extent) → ((n : Name) → f n ≡ align (g n)) → (d : ℕ) (t : Ty) → alignment_in f d t ≡ align (extent_in g d t)
alignment-align f g h zero t = refl
alignment-align f g h (suc d) (int w) = refl
alignment-align f g h (suc d) ptr = refl
alignment-align f g h (suc d) token = refl
alignment-align f g h (suc d) (array n t) = alignment-align f g h d t ∙ kept (array_extent n) (λ e. refl) (extent_in g d t)
alignment-align f g h (suc d) (structure ts) =
    fields-align (alignment_in f d) (extent_in g d) (alignment-align f g h d) ts no_fields ∙ kept padded (λ e. refl) (fields_extent (extent_in g d) no_fields ts)
alignment-align f g h (suc d) (named n) = h n

named-align : (A : Ty → Option ℕ) (E : Ty → Option Extent) → ((t : Ty) → A t ≡ align (E t)) → (o : Option Ty) → of_named A o ≡ align (of_type E o)
named-align A E h None = refl
named-align A E h (Some t) = h t

alignment_at-align : (types : List TypeItem) (k : ℕ) (n : Name) → alignment_at types k n ≡ align (extent_at types k n)
alignment_at-align types zero n = refl
alignment_at-align types (suc k) n =
    named-align (alignment_in (alignment_at types k) 64) (extent_in (extent_at types k) 64) (alignment-align (alignment_at types k) (extent_at types k) (alignment_at-align types k) 64) (type_named types n)

-- ---- the table

pub level_begun : (types : List TypeItem) (f : Name → Option ℕ) → ((n : Name) → f n ≡ None) → (n : Name) → f n ≡ alignment_at types 0 n
level_begun types f h n = h n

pub level_turn : (types : List TypeItem) (k : ℕ) (f g : Name → Option ℕ) → ((n : Name) → f n ≡ alignment_at types k n) → IsNext types f g → (n : Name) → g n ≡ alignment_at types (k + 1) n
level_turn types k f g h next n =
    let same : f ≡ alignment_at types k = λ i m. h m i in
    next n ∙ ap (λ (a : Name → Option ℕ). of_named (alignment_in a 64) (type_named types n)) same ∙ ap (λ (m : ℕ). alignment_at types m n) (sym (add-one k))

-- the last type of those so far is the first of those looked through
pub item_turn : (A : Ty → Option ℕ) (old new : Name → Option (Option ℕ)) (ts : List TypeItem) (t : TypeItem) (key : Name) (v : Option ℕ) → key ≡ t.name → v ≡ A t.ty → ((n : Name) → old n ≡ option_map A (type_named (reverse ts) n)) → ((n : Name) → new n ≡ cond (same_name key n) (Some v) (old n)) → (n : Name) → new n ≡ option_map A (type_named (reverse (ts ++ t ∷ [])) n)
item_turn A old new ts t key v ek ev inv step n =
    step n ∙ ap (λ (k : Name). cond (same_name k n) (Some v) (old n)) ek ∙ ap (λ (a : Option ℕ). cond (same_name t.name n) (Some a) (old n)) ev
    ∙ split (same_name t.name n) ∙ ap (λ (l : List TypeItem). option_map A (type_named l n)) (sym (reverse-append ts (t ∷ [])))
  where
    split : (b : Bool) → cond b (Some (A t.ty)) (old n) ≡ option_map A (cond b (Some t.ty) (type_named (reverse ts) n))
    split true = refl
    split false = inv n

-- the same for a look-up whose comparison is that of names
pub found_turn : (A : Ty → Option ℕ) (eq : Name → Name → Bool) (old new : (Name → Name → Bool) → Name → Option (Option ℕ)) (ts : List TypeItem) (t : TypeItem) (key : Name) (v : Option ℕ) → eq ≡ same_name → key ≡ t.name → v ≡ A t.ty → ((n : Name) → old same_name n ≡ option_map A (type_named (reverse ts) n)) → ((n : Name) → new eq n ≡ cond (eq key n) (Some v) (old eq n)) → (n : Name) → new same_name n ≡ option_map A (type_named (reverse (ts ++ t ∷ [])) n)
found_turn A eq old new ts t key v same ek ev inv step =
    item_turn A (old same_name) (new same_name) ts t key v ek ev inv (subst (λ (e : Name → Name → Bool). (n : Name) → new e n ≡ cond (e key n) (Some v) (old e n)) same step)

-- ---- the answer

table-align : (types : List TypeItem) (f : Name → Option ℕ) → ((n : Name) → f n ≡ alignment_at types 64 n) → (t : Ty) → alignment_in f 64 t ≡ align (extent_of types t)
table-align types f h t = alignment-align f (extent_at types 64) (λ n. h n ∙ alignment_at-align types 64 n) 64 t

or_one : (o : Option Extent) → None ≡ align o → 1 ≡ (extent_or o).align
or_one None e = refl
or_one (Some x) e = absurd cc

or_some : (o : Option Extent) (a : ℕ) → Some a ≡ align o → a ≡ (extent_or o).align
or_some None a e = absurd cc
or_some (Some x) a e = cc

pub align_none : (types : List TypeItem) (f : Name → Option ℕ) (t : Ty) → ((n : Name) → f n ≡ alignment_at types 64 n) → None ≡ alignment_in f 64 t → 1 ≡ align_in types t
unfolding align_in
align_none types f t h e = or_one (extent_of types t) (e ∙ table-align types f h t)

pub align_some : (types : List TypeItem) (f : Name → Option ℕ) (t : Ty) (a : ℕ) → ((n : Name) → f n ≡ alignment_at types 64 n) → Some a ≡ alignment_in f 64 t → a ≡ align_in types t
unfolding align_in
align_some types f t a h e = or_some (extent_of types t) a (e ∙ table-align types f h t)
