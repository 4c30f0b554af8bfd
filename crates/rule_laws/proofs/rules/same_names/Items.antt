-- The rules of items in a module that has the items of another one, and whose functions have names that break no rule.
use Rattle.std.proofs.Common.{◌≡◌, ℕ, Bool, true, false, List, [], ◌∷◌, ◌++◌, refl, sym, ap, ◌∙◌, subst, Option, Some, None}
use Rattle.std.proofs.lemmas.Bool.{and_from, and_parts}
use Rattle.std.proofs.lemmas.Option.{slice_get-map}
use Rattle.std.specs.List.{list_any}
use Rattle.std.specs.Prelude.{is_some, map, not, option_map, option_to_list, slice_get, ◌&&◌, ◌||◌}
use Rattle.ir_laws.specs.ir_base.declared.name.Name.{Name}
use Rattle.ir_laws.proofs.facts.Lists.{first_same}
use Rattle.ir_laws.specs.ir_model.Names.{declaration_named, first_where, function_named, global_named, same_name}
use Rattle.ir_laws.specs.ir_model.Ty.{Ty}
use Rattle.ir_laws.specs.ir_model.declared.module.Function.{Function}
use Rattle.ir_laws.specs.ir_model.declared.module.Module.{Module}
use Rattle.ir_laws.specs.ir_model.declared.operand.Operand.{Operand}
use Rattle.rule_names.specs.Definitions.{is_position, is_second_function}
use Rattle.rule_names.specs.Known.{knows_name, knows_operand, knows_type, unknown_names}
use Rattle.rule_names.specs.Reserved.{is_odd, is_part, is_part_of, is_reserved, part_name, reserved_names, suffixes}
use Rattle.rule_names.specs.Stage.{is_source}
use Rattle.rule_names.specs.declared.stage.Stage.{Stage}
use Rattle.rule_laws.specs.rules.plain_rules.Items.{AreNamesFree, IsKeptByItems, KeepsItemRules}
use Rattle.rule_laws.proofs.rules.same_names.Kept.{address_known, all_types_same, initial_same, knows_type_same}
use Rattle.ir_laws.specs.facts.same_names.Same.{HaveSameNames, naming}
use Rattle.rule_types.specs.Limits.{limits}
use Rattle.rule_values.specs.Initials.{wrong_initials}
use Rattle.ir_laws.proofs.facts.Truth.{holds as was_known}

-- ---- other functions with the same items

abbrev pub with_functions : Module → List Function → Module
with_functions m gs = record { types = m.types; globals = m.globals; declarations = m.declarations; functions = gs }

module _ (m : Module) (gs : List Function) (knows : (x : Name) → knows_name m x ≡ true → knows_name (with_functions m gs) x ≡ true) where
  abbrev n : Module
  n = with_functions m gs

  initial_known : (x : Operand) → knows_operand m (λ v. false) x ≡ true → knows_operand n (λ v. false) x ≡ true
  initial_known (Operand.Local v) e = e
  initial_known (Operand.Global x) e = address_known m n knows x e
  initial_known (Operand.Number z) e = refl
  initial_known Operand.True e = refl
  initial_known Operand.False e = refl
  initial_known Operand.Null e = refl
  initial_known Operand.None e = refl
  initial_known Operand.Poison e = refl

  global_known : (ty : Ty) (init : Operand) → not (knows_type m ty && knows_operand m (λ v. false) init) ≡ false → not (knows_type n ty && knows_operand n (λ v. false) init) ≡ false
  global_known ty init e =
      let parts = and_parts (knows_type m ty) (knows_operand m (λ v. false) init) (was_known (knows_type m ty && knows_operand m (λ v. false) init) e) in
      ap not (and_from (knows_type n ty) (knows_operand n (λ v. false) init) (knows_type_same m n refl ty ∙ parts.0) (initial_known init parts.1))

  names_known : IsKeptByItems (unknown_names m) m → IsKeptByItems (unknown_names n) n
  names_known h =
      record {
        types = λ k t there. ap not (knows_type_same m n refl t.ty) ∙ h.types k t there;
        globals = λ k g there. global_known g.ty g.init (h.globals k g there);
        declarations = λ k d there. ap not (all_types_same m n refl (option_to_list d.result ++ d.params)) ∙ h.declarations k d there;
      }

  initials_kept : IsKeptByItems (wrong_initials m) m → IsKeptByItems (wrong_initials n) n
  initials_kept h = record { types = h.types; globals = λ k g there. ap not (initial_same m n (λ x. refl) g.ty g.init) ∙ h.globals k g there; declarations = h.declarations }

  pub items_kept : (old new : Stage) → KeepsItemRules old m → AreNamesFree new n → IsKeptByItems (reserved_names new n) n → IsKeptByItems (limits new n) n → KeepsItemRules new n
  items_kept old new h names reserved depths =
      record {
        names = names;
        definitions = record { types = h.definitions.types; globals = h.definitions.globals; declarations = h.definitions.declarations };
        known = names_known h.known;
        reserved = reserved;
        depths = depths;
        types = record { types = h.types.types; globals = h.types.globals; declarations = h.types.declarations };
        initials = initials_kept h.initials;
        alignments = record { types = h.alignments.types; globals = h.alignments.globals; declarations = h.alignments.declarations };
      }

-- ---- modules with the same names

any_same : {A B : Type 0} (f : A → B) (t : B → Bool) (u : A → Bool) → ((x : A) → t (f x) ≡ u x) → (xs : List A) → list_any t (map f xs) ≡ list_any u xs
any_same f t u h [] = refl
any_same f t u h (x ∷ xs) = λ i. h x i || any_same f t u h xs i

record StandsAs (fs : List Function) (k : ℕ) (x : Name × Bool) : Type 0 where
  function : Function
  stands : slice_get fs k ≡ Some function
  same : naming function ≡ x

module _ (m : Module) (gs : List Function) (same : map naming gs ≡ map naming m.functions) where
  abbrev pub new : Module
  new = with_functions m gs

  function_same : (x : Name) → function_named new x ≡ function_named m x
  function_same x =
      sym (first_same naming (λ y. same_name y.0 x) (λ f. same_name f.name x) (λ f. refl) gs)
      ∙ ap (first_where (λ y. same_name y.0 x)) same
      ∙ first_same naming (λ y. same_name y.0 x) (λ f. same_name f.name x) (λ f. refl) m.functions

  abbrev is_part_by : Name → Name × Bool → Bool
  is_part_by x y = y.1 && list_any (λ s. same_name (part_name y.0 s) x) suffixes

  part_same : (x : Name) → is_part new x ≡ is_part m x
  part_same x = sym (any_same naming (is_part_by x) (is_part_of x) (λ f. refl) gs) ∙ ap (list_any (is_part_by x)) same ∙ any_same naming (is_part_by x) (is_part_of x) (λ f. refl) m.functions

  stands_as : (k : ℕ) (g : Function) → slice_get gs k ≡ Some g → StandsAs m.functions k (naming g)
  stands_as k g there =
      on (slice_get m.functions k) refl
      (sym (slice_get-map naming m.functions k) ∙ ap (λ (ys : List (Name × Bool)). slice_get ys k) (sym same) ∙ slice_get-map naming gs k ∙ ap (option_map naming) there)
    where
      on : (o : Option Function) → slice_get m.functions k ≡ o → option_map naming o ≡ Some (naming g) → StandsAs m.functions k (naming g)
      on None e d = absurd (cc)
      on (Some f) e d = let is_one : naming f ≡ naming g = cc in record { function = f; stands = e; same = is_one }

  names_kept : (stage : Stage) → AreNamesFree stage m → AreNamesFree stage new
  names_kept stage h =
      record {
        once = λ k g there.
            let r = stands_as k g there in
            ap (λ (o : Option ℕ). is_some (global_named m g.name) || (is_some (declaration_named m g.name) || not (is_position o k))) (function_same g.name)
            ∙ ap (λ (y : Name × Bool). is_second_function m k y.0) (sym r.same) ∙ h.once k r.function r.stands;
        free = λ k g there.
            let r = stands_as k g there in
            ap (λ (b : Bool). is_reserved g.name || (is_source stage && (b || (g.coroutine && is_odd g.name)))) (part_same g.name)
            ∙ ap (λ (y : Name × Bool). is_reserved y.0 || (is_source stage && (is_part m y.0 || (y.1 && is_odd y.0)))) (sym r.same) ∙ h.free k r.function r.stands;
      }

  reserved_kept : (stage : Stage) → IsKeptByItems (reserved_names stage m) m → IsKeptByItems (reserved_names stage new) new
  reserved_kept stage h =
      record {
        types = h.types;
        globals = λ k g there. ap (λ (b : Bool). is_reserved g.name || (is_source stage && b)) (part_same g.name) ∙ h.globals k g there;
        declarations = λ k d there. ap (λ (b : Bool). is_source stage && b) (part_same d.name) ∙ h.declarations k d there;
      }

  still_known : (x : Name) → knows_name m x ≡ true → knows_name new x ≡ true
  still_known x e = ap (λ (o : Option ℕ). is_some o || (is_some (declaration_named m x) || is_some (global_named m x))) (function_same x) ∙ e

  new_keeps_items : (stage : Stage) → KeepsItemRules stage m → KeepsItemRules stage new
  new_keeps_items stage h =
      items_kept m gs still_known stage stage h (names_kept stage h.names) (reserved_kept stage h.reserved)
      (record { types = h.depths.types; globals = h.depths.globals; declarations = h.depths.declarations })

pub same_names_keep_items : (stage : Stage) (m n : Module) → HaveSameNames m n → KeepsItemRules stage m → KeepsItemRules stage n
same_names_keep_items stage m n h kept =
    let same : with_functions m n.functions ≡ n = λ i. record { types = sym h.types i; globals = sym h.globals i; declarations = sym h.declarations i; functions = n.functions } in
    subst (KeepsItemRules stage) same (new_keeps_items m n.functions h.functions stage kept)
