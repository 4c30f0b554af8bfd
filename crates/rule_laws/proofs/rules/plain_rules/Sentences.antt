-- A rule is broken nowhere in a module just where no type, global or declaration breaks it and it has no fault in a function.
use Rattle.std.proofs.Common.{◌≡◌, ℕ, zero, suc, ◌+◌, Bool, false, List, [], ◌∷◌, refl, ap, ◌∙◌, subst, arith}
use Rattle.std.specs.Prelude.{None, Option, Some, slice_get}
use Rattle.ir_laws.specs.ir_base.declared.outcome.Item.{Item}
use Rattle.ir_laws.specs.ir_base.declared.outcome.Place.{Place}
use Rattle.ir_parts.specs.Parts.{item_place, or_place, place_if}
use Rattle.ir_laws.specs.ir_model.declared.module.Function.{Function}
use Rattle.ir_laws.specs.ir_model.declared.module.Module.{Module}
use Rattle.rule_names.specs.Items.{Sentence, first_function, first_item, first_place}
use Rattle.rule_laws.proofs.rules.plain_rules.Places.{first_place_out, no_place_in, not_placed}
use Rattle.rule_laws.proofs.rules.local_rules.Rules.{second_out as second_place_out}
use Rattle.rule_laws.specs.rules.plain_rules.Items.{IsKeptByItems}
use Rattle.rule_laws.proofs.rules.known_labels.Known.{functions_hold as function_out}

-- each function of a module has no fault
abbrev pub IsKeptByFunctions : (ℕ → Function → Option Place) → Module → Type 0
IsKeptByFunctions place m = (k : ℕ) (f : Function) → slice_get m.functions k ≡ Some f → place k f ≡ None

-- ---- from the items to the module

items_out : {A : Type 0} (item : ℕ → Item) (breaks : ℕ → A → Bool) (at : ℕ) (xs : List A) → ((k : ℕ) (x : A) → slice_get xs k ≡ Some x → breaks (at + k) x ≡ false) → first_item item breaks at xs ≡ None
items_out item breaks at [] h = refl
items_out item breaks at (x ∷ xs) h =
    let here : at + 0 ≡ at = omega arith in
    ap (λ (b : Bool). or_place (place_if b (item_place (item at))) (first_item item breaks (at + 1) xs)) (subst (λ (n : ℕ). breaks n x ≡ false) here (h 0 x refl))
    ∙ items_out item breaks (at + 1) xs (λ k y there. let next : at + suc k ≡ at + 1 + k = omega arith in subst (λ (n : ℕ). breaks n y ≡ false) next (h (suc k) y there))

functions_out : (place : ℕ → Function → Option Place) (at : ℕ) (fs : List Function) → ((k : ℕ) (f : Function) → slice_get fs k ≡ Some f → place (at + k) f ≡ None) → first_function place at fs ≡ None
functions_out place at [] h = refl
functions_out place at (f ∷ fs) h =
    let here : at + 0 ≡ at = omega arith in
    no_place_in (place at f) (first_function place (at + 1) fs) (subst (λ (n : ℕ). place n f ≡ None) here (h 0 f refl))
    (functions_out place (at + 1) fs (λ k g there. let next : at + suc k ≡ at + 1 + k = omega arith in subst (λ (n : ℕ). place n g ≡ None) next (h (suc k) g there)))

from_zero : {A : Type 0} (P : ℕ → A → Type 0) (k : ℕ) (x : A) → P k x → P (0 + k) x
from_zero P k x h = let same : k ≡ 0 + k = omega arith in subst (λ (n : ℕ). P n x) same h

pub kept_everywhere : (s : Sentence) (m : Module) → IsKeptByItems s m → IsKeptByFunctions s.in_function m → first_place s m ≡ None
kept_everywhere s m h each =
    let globals : Option Place = first_item Item.Global s.on_global 0 m.globals in
    let declarations : Option Place = first_item Item.Declaration s.on_declaration 0 m.declarations in
    let functions : Option Place = first_function s.in_function 0 m.functions in
    no_place_in (first_item Item.Type s.on_type 0 m.types) (or_place globals (or_place declarations functions))
    (items_out Item.Type s.on_type 0 m.types (λ k t there. from_zero (λ n x. s.on_type n x ≡ false) k t (h.types k t there)))
    (no_place_in globals (or_place declarations functions)
    (items_out Item.Global s.on_global 0 m.globals (λ k g there. from_zero (λ n x. s.on_global n x ≡ false) k g (h.globals k g there)))
    (no_place_in declarations functions
    (items_out Item.Declaration s.on_declaration 0 m.declarations (λ k d there. from_zero (λ n x. s.on_declaration n x ≡ false) k d (h.declarations k d there)))
    (functions_out s.in_function 0 m.functions (λ k f there. from_zero (λ n x. s.in_function n x ≡ None) k f (each k f there)))))

-- ---- and back

item_out : {A : Type 0} (item : ℕ → Item) (breaks : ℕ → A → Bool) (at : ℕ) (xs : List A) → first_item item breaks at xs ≡ None → (k : ℕ) (x : A) → slice_get xs k ≡ Some x → breaks (at + k) x ≡ false
item_out item breaks at [] e k x there = absurd (cc)
item_out item breaks at (y ∷ xs) e zero x there =
    let here : at ≡ at + 0 = omega arith in
    let is_one : y ≡ x = cc in
    subst (λ (n : ℕ). breaks n x ≡ false) here
    (subst (λ z. breaks at z ≡ false) is_one (not_placed (breaks at y) (item_place (item at)) (first_place_out (place_if (breaks at y) (item_place (item at))) (first_item item breaks (at + 1) xs) e)))
item_out item breaks at (y ∷ xs) e (suc k) x there =
    let next : at + 1 + k ≡ at + suc k = omega arith in
    subst (λ (n : ℕ). breaks n x ≡ false) next
    (item_out item breaks (at + 1) xs (second_place_out (place_if (breaks at y) (item_place (item at))) (first_item item breaks (at + 1) xs) e) k x there)

to_zero : {A : Type 0} (P : ℕ → A → Type 0) (k : ℕ) (x : A) → P (0 + k) x → P k x
to_zero P k x h = let same : 0 + k ≡ k = omega arith in subst (λ (n : ℕ). P n x) same h

behind_types : (s : Sentence) (m : Module) → first_place s m ≡ None → or_place (first_item Item.Global s.on_global 0 m.globals) (or_place (first_item Item.Declaration s.on_declaration 0 m.declarations) (first_function s.in_function 0 m.functions)) ≡ None
behind_types s m e =
    second_place_out (first_item Item.Type s.on_type 0 m.types)
    (or_place (first_item Item.Global s.on_global 0 m.globals) (or_place (first_item Item.Declaration s.on_declaration 0 m.declarations) (first_function s.in_function 0 m.functions))) e

behind_globals : (s : Sentence) (m : Module) → first_place s m ≡ None → or_place (first_item Item.Declaration s.on_declaration 0 m.declarations) (first_function s.in_function 0 m.functions) ≡ None
behind_globals s m e =
    second_place_out (first_item Item.Global s.on_global 0 m.globals)
    (or_place (first_item Item.Declaration s.on_declaration 0 m.declarations) (first_function s.in_function 0 m.functions)) (behind_types s m e)

pub kept_by_items : (s : Sentence) (m : Module) → first_place s m ≡ None → IsKeptByItems s m
kept_by_items s m e =
    let globals : Option Place = first_item Item.Global s.on_global 0 m.globals in
    let declarations : Option Place = first_item Item.Declaration s.on_declaration 0 m.declarations in
    let functions : Option Place = first_function s.in_function 0 m.functions in
    record {
      types = λ k t there.
          to_zero (λ n x. s.on_type n x ≡ false) k t
          (item_out Item.Type s.on_type 0 m.types (first_place_out (first_item Item.Type s.on_type 0 m.types) (or_place globals (or_place declarations functions)) e) k t there);
      globals = λ k g there.
          to_zero (λ n x. s.on_global n x ≡ false) k g
          (item_out Item.Global s.on_global 0 m.globals (first_place_out globals (or_place declarations functions) (behind_types s m e)) k g there);
      declarations = λ k d there.
          to_zero (λ n x. s.on_declaration n x ≡ false) k d
          (item_out Item.Declaration s.on_declaration 0 m.declarations (first_place_out declarations functions (behind_globals s m e)) k d there);
    }

pub kept_by_functions : (s : Sentence) (m : Module) → first_place s m ≡ None → IsKeptByFunctions s.in_function m
kept_by_functions s m e k f there =
    to_zero (λ n x. s.in_function n x ≡ None) k f
    (function_out s.in_function 0 m.functions
    (second_place_out (first_item Item.Declaration s.on_declaration 0 m.declarations) (first_function s.in_function 0 m.functions) (behind_globals s m e)) k f there)
