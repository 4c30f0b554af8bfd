-- Where the functions of a module stand once its coroutines are split, and how they are found by their names.
use Rattle.std.proofs.Common.{◌≡◌, ℕ, zero, suc, ◌+◌, Bool, true, false, List, [], ◌∷◌, length, refl, sym, ap, ◌∙◌, subst, arith}
use Rattle.std.specs.Prelude.{None, Some, is_some, map, slice_get, if◌then◌else◌, ◌||◌}
use Rattle.pass_proofs.specs.frame_layout.declared.layout.Layout.{Layout}
use Rattle.pass_proofs.specs.frame_layout.declared.layout.Layouts.{Layouts}
use Rattle.pass_proofs.specs.ir_base.declared.name.Name.{Name}
use Rattle.pass_proofs.proofs.ir_laws.facts.Lists.{first_same, get_behind, of_first}
use Rattle.pass_proofs.proofs.ir_laws.facts.same_names.Lists.{what_is_found}
use Rattle.pass_proofs.specs.ir_laws.facts.same_names.Short.{HaveShortNames}
use Rattle.pass_proofs.specs.rule_laws.rules.plain_rules.Items.{KeepsItemRules}
use Rattle.pass_proofs.specs.ir_model.Names.{declaration_named, first_where, function_named, global_named, same_name}
use Rattle.pass_proofs.specs.ir_model.declared.module.Function.{Function}
use Rattle.pass_proofs.specs.ir_model.declared.module.Module.{Module}
use Rattle.pass_proofs.proofs.ir_tables.Tables.{same_name-same}
use Rattle.pass_proofs.specs.pass_intrinsics.Shapes.{shape_of}
use Rattle.pass_proofs.specs.pass_intrinsics.declared.shape.Part.{Part}
use Rattle.pass_split_proof.proofs.first_exits.Parted.{same_own_name, split_parted}
use Rattle.pass_proofs.proofs.split.names.Parts.{has_parts, stands_named}
use Rattle.pass_proofs.specs.exits.states.Exits.{exit_function, exits_split}
use Rattle.pass_split_proof.specs.code.Positions.{is_given, layout_at, moved, number_of}
use Rattle.pass_split_proof.specs.first_exits.Parted.{parted_function, parted_functions, parted_module}
use Rattle.pass_proofs.specs.split.rules.Parted.{IsCleanup, IsDestroy, IsGivenRamp, IsPartOf, IsRamp, IsResume}
use Rattle.pass_proofs.specs.pass_split.Given.{has_given_call}
use Rattle.pass_proofs.specs.pass_split.Parts.{first_layout, layouts_after, marked_parts, parts_of, plain_of, plain_shape}
use Rattle.pass_proofs.specs.rule_names.declared.stage.Stage.{Stage}

-- what a function becomes stands from its new position on
pub stands_moved : (ls : List Layout) (m : Module) (fs : List Function) (k i : ℕ) (f g : Function) → slice_get fs k ≡ Some f → slice_get (parted_function (layout_at ls fs k) (has_given_call m f) f) i ≡ Some g → slice_get (parted_functions ls m fs) (moved ls m fs k + i) ≡ Some g
stands_moved ls m [] k i f g e there = absurd (cc)
stands_moved ls m (h ∷ fs) zero i f g e there =
    let same : h ≡ f = cc in
    let now : slice_get (parted_function (first_layout ls) (has_given_call m h) h) i ≡ Some g = ap (λ (x : Function). slice_get (parted_function (first_layout ls) (has_given_call m x) x) i) same ∙ there in
    let none : 0 + i ≡ i = omega arith in
    ap (slice_get (parted_functions ls m (h ∷ fs))) none ∙ of_first (parted_function (first_layout ls) (has_given_call m h) h) (parted_functions (layouts_after h ls) m fs) i g now
stands_moved ls m (h ∷ fs) (suc k) i f g e there =
    let more = stands_moved (layouts_after h ls) m fs k i f g e there in
    let here : List Function = parted_function (first_layout ls) (has_given_call m h) h in
    let behind : ℕ = moved (layouts_after h ls) m fs k in
    let same : length here + behind + i ≡ length here + (behind + i) = omega arith in
    ap (slice_get (parted_functions ls m (h ∷ fs))) same ∙ get_behind here (parted_functions (layouts_after h ls) m fs) (behind + i) ∙ more

-- the parts of a coroutine stand in their order, those of instances whose frames are given where there are any
pub part_numbered : (l : Layout) (given : Bool) (f g : Function) (part : Part) → f.coroutine ≡ true → IsPartOf (shape_of f l) f part g → (is_given part ≡ true → given ≡ true) → slice_get (parted_function l given f) (number_of part) ≡ Some g
part_numbered l given f g part c is have = ap (λ (b : Bool). slice_get (if b then marked_parts l given f else plain_of (plain_shape f) f ∷ []) (number_of part)) c ∙ on part g is have
  where
    behind : (n : ℕ) (h : Function) → slice_get (parts_of (shape_of f l) true f) n ≡ Some h → given ≡ true → slice_get (parts_of (shape_of f l) given f) n ≡ Some h
    behind n h e d = ap (λ (b : Bool). slice_get (parts_of (shape_of f l) b f) n) d ∙ e

    on : (part : Part) (h : Function) → IsPartOf (shape_of f l) f part h → (is_given part ≡ true → given ≡ true) → slice_get (parts_of (shape_of f l) given f) (number_of part) ≡ Some h
    on _ _ IsRamp h = refl
    on _ _ IsResume h = refl
    on _ _ IsDestroy h = refl
    on _ _ IsCleanup h = behind 3 _ refl (h refl)
    on _ _ IsGivenRamp h = behind 4 _ refl (h refl)

-- the first of what a function becomes has its name
pub record HasFirst (l : Layout) (given : Bool) (f : Function) : Type 0 where
  pub one : Function
  pub stands : slice_get (parted_function l given f) 0 ≡ Some one
  pub has_name : one.name ≡ f.name

pub first_there : (l : Layout) (given : Bool) (f : Function) → HasFirst l given f
first_there l given f = on f.coroutine refl
  where
    on : (b : Bool) → f.coroutine ≡ b → HasFirst l given f
    on true c = record { one = _; stands = ap (λ (b : Bool). slice_get (if b then marked_parts l given f else plain_of (plain_shape f) f ∷ []) 0) c; has_name = refl }
    on false c = record { one = _; stands = ap (λ (b : Bool). slice_get (if b then marked_parts l given f else plain_of (plain_shape f) f ∷ []) 0) c; has_name = refl }

module _ (ls : Layouts) (m : Module) (rules : KeepsItemRules Stage.Source m) (short : HaveShortNames m) where
  -- a function of the parted module is found by its name
  pub found_by_name : (q : ℕ) (g : Function) → slice_get (parted_module ls (exits_split m)).functions q ≡ Some g → function_named (parted_module ls (exits_split m)) g.name ≡ Some q
  found_by_name q g = subst (λ (n : Module). slice_get n.functions q ≡ Some g → function_named n g.name ≡ Some q) (split_parted ls m) (λ there. stands_named ls m rules short q g there)

  pub name_moves : (x : Name) (k : ℕ) → function_named (exits_split m) x ≡ Some k → function_named (parted_module ls (exits_split m)) x ≡ Some (moved ls.coroutines (exits_split m) (exits_split m).functions k)
  name_moves x k e =
      let h : Module = exits_split m in
      let at : ℕ = moved ls.coroutines h h.functions k in
      let r = what_is_found (λ (f : Function). same_name f.name x) h.functions k e in
      let y = first_there (layout_at ls.coroutines h.functions k) (has_given_call h r.element) r.element in
      let none : at ≡ at + 0 = omega arith in
      let there : slice_get (parted_functions ls.coroutines h h.functions) at ≡ Some y.one = ap (slice_get (parted_functions ls.coroutines h h.functions)) none ∙ stands_moved ls.coroutines h h.functions k 0 r.element y.one r.stands y.stands in
      let called : y.one.name ≡ x = y.has_name ∙ same_name-same r.element.name x r.passes in
      ap (function_named (parted_module ls h)) (sym called) ∙ found_by_name at y.one there

  same_names : (fs : List Function) → map (λ (f : Function). f.name) (map exit_function fs) ≡ map (λ (f : Function). f.name) fs
  same_names [] = refl
  same_names (f ∷ fs) = λ i. same_own_name f i ∷ same_names fs i

  pub named_before : (x : Name) → function_named (exits_split m) x ≡ function_named m x
  named_before x =
      let test : Name → Bool = λ y. same_name y x in
      let named : Function → Bool = λ f. same_name f.name x in
      sym (first_same (λ (f : Function). f.name) test named (λ f. refl) (map exit_function m.functions))
      ∙ ap (first_where test) (same_names m.functions)
      ∙ first_same (λ (f : Function). f.name) test named (λ f. refl) m.functions

  pub others_stay : (x : Name) → function_named (exits_split m) x ≡ None → (is_some (declaration_named m x) || is_some (global_named m x)) ≡ true → function_named (parted_module ls (exits_split m)) x ≡ None
  others_stay x none item = subst (λ (n : Module). function_named n x ≡ None) (split_parted ls m) ((has_parts ls m rules short).others x (sym (named_before x) ∙ none) item)
