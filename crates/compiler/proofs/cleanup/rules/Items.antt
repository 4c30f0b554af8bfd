-- The rules of items, where the declarations of coro intrinsics go.
use Rattle.std.proofs.Common.{◌≡◌, ℕ, zero, suc, Bool, true, false, List, [], ◌∷◌, ◌++◌, refl, sym, ap, ◌∙◌, cond, subst, Option, Some, None}
use Rattle.std.proofs.lemmas.Bool.{and_from, and_parts, eq-eqb, or_left, or_parts, or_right}
use Rattle.std.proofs.lemmas.Option.{slice_get-map}
use Rattle.std.specs.Prelude.{filter, is_some, not, option_map, option_to_list, slice_get, ◌&&◌, ◌||◌}
use Rattle.ir_base.specs.declared.name.Name.{Name}
use Rattle.pass_cleanup.proofs.Kept.{kept_before}
use Rattle.pass_cleanup.proofs.Parts.{declared_clean, named_clean}
use Rattle.pass_cleanup.specs.Cleanup.{clean_function, clean_module, is_kept_declaration}
use Rattle.ir_model.specs.Names.{declaration_named, function_named, global_named, same_name}
use Rattle.ir_model.specs.Table.{callee_named}
use Rattle.ir_model.specs.Ty.{Ty}
use Rattle.ir_model.specs.declared.module.Declaration.{Declaration}
use Rattle.ir_model.specs.declared.module.Function.{Function}
use Rattle.ir_model.specs.declared.module.Module.{Module}
use Rattle.ir_model.specs.declared.operand.Operand.{Operand}
use Rattle.pass_proofs.specs.rule_names.Definitions.{is_position, is_second_function}
use Rattle.pass_proofs.specs.rule_names.Known.{is_intrinsic, knows_name, knows_operand, knows_type, unknown_names}
use Rattle.pass_proofs.specs.rule_names.Reserved.{is_reserved}
use Rattle.pass_proofs.specs.rule_names.declared.stage.Stage.{Stage}
use Rattle.pass_proofs.proofs.rule_laws.rules.plain_rules.Once.{is_once, once_at, position_is}
use Rattle.pass_proofs.specs.rule_laws.rules.plain_rules.Items.{AreNamesFree, IsKeptByItems, KeepsItemRules}
use Rattle.pass_proofs.proofs.rule_laws.rules.same_names.Kept.{all_types_same, initial_same, knows_type_same}
use Rattle.pass_proofs.proofs.ir_laws.facts.Lists.{none_found, nothing_found}
use Rattle.pass_proofs.specs.rule_types.Wants.{is_ptr}
use Rattle.pass_proofs.specs.rule_values.Initials.{fits_initial}

-- ---- where what is left stood

record WasAt {A : Type 0} (keep : A → Bool) (xs : List A) (k : ℕ) (x : A) : Type 0 where
  at : ℕ
  stands : slice_get xs at ≡ Some x
  stays : keep x ≡ true
  moved : kept_before keep xs at ≡ k

module _ {A : Type 0} (keep : A → Bool) where
  was_behind : (y : A) (xs : List A) (k : ℕ) (x : A) (kept : Bool) → keep y ≡ kept → ((j : ℕ) → slice_get (filter keep xs) j ≡ Some x → WasAt keep xs j x) → slice_get (cond kept (y ∷ filter keep xs) (filter keep xs)) k ≡ Some x → WasAt keep (y ∷ xs) k x
  was_behind y xs zero x true h again e = let is_one : y ≡ x = cc in record { at = 0; stands = ap Some is_one; stays = ap keep (sym is_one) ∙ h; moved = refl }
  was_behind y xs (suc k) x true h again e =
      let r = again k e in
      record { at = suc r.at; stands = r.stands; stays = r.stays; moved = ap (λ (b : Bool). cond b (suc (kept_before keep xs r.at)) (kept_before keep xs r.at)) h ∙ ap suc r.moved }
  was_behind y xs k x false h again e =
      let r = again k e in
      record { at = suc r.at; stands = r.stands; stays = r.stays; moved = ap (λ (b : Bool). cond b (suc (kept_before keep xs r.at)) (kept_before keep xs r.at)) h ∙ r.moved }

  was_at : (xs : List A) (k : ℕ) (x : A) → slice_get (filter keep xs) k ≡ Some x → WasAt keep xs k x
  was_at [] k x e = absurd (cc)
  was_at (y ∷ xs) k x e = was_behind y xs k x (keep y) refl (λ j d. was_at xs j x d) e

module _ (m : Module) (h : KeepsItemRules Stage.Plain m) where
  abbrev n : Module
  n = clean_module m

  -- ---- N1

  still_undeclared : (x : Name) → declaration_named m x ≡ None → declaration_named n x ≡ None
  still_undeclared x none =
      nothing_found (λ (d : Declaration). same_name d.name x) (filter is_kept_declaration m.declarations)
      (λ k d there. let r = was_at is_kept_declaration m.declarations k d there in none_found (λ (e : Declaration). same_name e.name x) m.declarations none r.at d r.stands)

  declared_once : (k : ℕ) (d : Declaration) → slice_get n.declarations k ≡ Some d → (is_some (global_named m d.name) || not (is_position (declaration_named n d.name) k)) ≡ false
  declared_once k d there =
      let r = was_at is_kept_declaration m.declarations k d there in
      let parts = or_parts (is_some (global_named m d.name)) (not (is_position (declaration_named m d.name) r.at)) (h.definitions.declarations r.at d r.stands) in
      let now : declaration_named n d.name ≡ Some k =
      declared_clean m d.name r.stays
      ∙ ap (option_map (kept_before is_kept_declaration m.declarations)) (position_is (declaration_named m d.name) r.at parts.1)
      ∙ ap Some r.moved in
      (λ i. parts.0 i || not (is_position (now i) k)) ∙ ap not (eq-eqb k k refl)

  record WasNamed (g : Function) (k : ℕ) : Type 0 where
    function : Function
    stands : slice_get m.functions k ≡ Some function
    called : function.name ≡ g.name

  was_named : (k : ℕ) (g : Function) → slice_get n.functions k ≡ Some g → WasNamed g k
  was_named k g there = on (slice_get m.functions k) refl (sym (slice_get-map clean_function m.functions k) ∙ there)
    where
      on : (o : Option Function) → slice_get m.functions k ≡ o → option_map clean_function o ≡ Some g → WasNamed g k
      on None e d = absurd (cc)
      on (Some f) e d = let same : clean_function f ≡ g = cc in record { function = f; stands = e; called = ap (λ (x : Function). x.name) same }

  names_free : AreNamesFree Stage.Plain n
  names_free =
      record {
        once = λ k g there.
            let r = was_named k g there in
            let x = once_at m k r.function.name (h.names.once k r.function r.stands) in
            subst (λ (y : Name). is_second_function n k y ≡ false) r.called
            (is_once (global_named m r.function.name) (declaration_named n r.function.name) (function_named n r.function.name) k x.global (still_undeclared r.function.name x.declaration) (named_clean m r.function.name ∙ x.function));
        free = λ k g there. let r = was_named k g there in ap (λ (y : Name). is_reserved y || false) (sym r.called) ∙ h.names.free k r.function r.stands;
      }

  -- ---- N2

  was_known : (b : Bool) → not b ≡ false → b ≡ true
  was_known true e = refl
  was_known false e = absurd (cc)

  -- an initial value names globals alone
  initial_known : (ty : Ty) (x : Operand) → fits_initial m ty x ≡ true → knows_operand n (λ v. false) x ≡ true
  initial_known ty (Operand.Local v) e = absurd (cc)
  initial_known ty (Operand.Global x) e =
      or_left (knows_name n x) (is_intrinsic (callee_named x))
      (or_right (is_some (function_named n x)) (is_some (declaration_named n x) || is_some (global_named n x))
      (or_right (is_some (declaration_named n x)) (is_some (global_named n x)) (and_parts (is_ptr ty) (is_some (global_named m x)) e).1))
  initial_known ty (Operand.Number z) e = refl
  initial_known ty Operand.True e = refl
  initial_known ty Operand.False e = refl
  initial_known ty Operand.Null e = refl
  initial_known ty Operand.None e = refl
  initial_known ty Operand.Poison e = refl

  names_known : IsKeptByItems (unknown_names n) n
  names_known =
      record {
        types = λ k t there. ap not (knows_type_same m n refl t.ty) ∙ h.known.types k t there;
        globals = λ k g there.
            let parts = and_parts (knows_type m g.ty) (knows_operand m (λ v. false) g.init) (was_known (knows_type m g.ty && knows_operand m (λ v. false) g.init) (h.known.globals k g there)) in
            ap not (and_from (knows_type n g.ty) (knows_operand n (λ v. false) g.init) (knows_type_same m n refl g.ty ∙ parts.0) (initial_known g.ty g.init (was_known (fits_initial m g.ty g.init) (h.initials.globals k g there))));
        declarations = λ k d there.
            let r = was_at is_kept_declaration m.declarations k d there in
            ap not (all_types_same m n refl (option_to_list d.result ++ d.params)) ∙ h.known.declarations r.at d r.stands;
      }

  -- ---- all of them

  pub items_clean : KeepsItemRules Stage.Plain n
  items_clean =
      record {
        names = names_free;
        definitions = record { types = h.definitions.types; globals = h.definitions.globals; declarations = declared_once };
        known = names_known;
        reserved = record { types = h.reserved.types; globals = h.reserved.globals; declarations = λ k d there. refl };
        depths = record {
          types = h.depths.types;
          globals = h.depths.globals;
          declarations = λ k d there. let r = was_at is_kept_declaration m.declarations k d there in h.depths.declarations r.at d r.stands;
        };
        types = record {
          types = h.types.types;
          globals = h.types.globals;
          declarations = λ k d there. let r = was_at is_kept_declaration m.declarations k d there in h.types.declarations r.at d r.stands;
        };
        initials = record {
          types = h.initials.types;
          globals = λ k g there. ap not (initial_same m n (λ x. refl) g.ty g.init) ∙ h.initials.globals k g there;
          declarations = λ k d there. refl;
        };
        alignments = record { types = h.alignments.types; globals = h.alignments.globals; declarations = λ k d there. refl };
      }
