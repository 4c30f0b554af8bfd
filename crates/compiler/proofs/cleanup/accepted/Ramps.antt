-- A split module has the functions of the module and the ramps that are given frames, as splitting asks of its parts.
use Rattle.std.proofs.Common.{◌≡◌, ℕ, zero, suc, Bool, true, false, List, [], ◌∷◌, ◌++◌, ◌⊎◌, inl, inr, refl, sym, ap, ◌∙◌, subst, Option, Some, None}
use Rattle.std.proofs.lemmas.List.{map-append}
use Rattle.std.specs.Prelude.{◌+◌, codes, is_some, length, map, option_map, slice_get, if◌then◌else◌, ◌&&◌, ◌||◌}
use Rattle.compiler.specs.cleanup.accepted.Ramps.{called_ramp, given_ramps, with_given_ramps}
use Rattle.ir_base.specs.declared.name.Name.{Name}
use Rattle.frame_layout.specs.declared.layout.Layouts.{Layouts}
use Rattle.ir_model.specs.Names.{declaration_named, first_where, function_named, global_named, noalloc_of, same_name}
use Rattle.ir_model.specs.declared.module.Function.{Function}
use Rattle.ir_model.specs.declared.module.Module.{Module}
use Rattle.ir_model.specs.declared.module.Param.{Param}
use Rattle.pass_split.specs.Given.{has_given_call}
use Rattle.pass_split.specs.Parts.{split_module}
use Rattle.pass_proofs.proofs.ir_laws.facts.Lists.{get_before, none_found, of_row}
use Rattle.pass_proofs.proofs.ir_laws.facts.Truth.{not_both}
use Rattle.pass_proofs.proofs.ir_laws.facts.same_names.Lists.{what_is_found}
use Rattle.pass_proofs.proofs.ir_tables.Tables.{same_name-same}
use Rattle.pass_proofs.proofs.rule_laws.rules.same_names.Made.{Part}
use Rattle.pass_proofs.proofs.rule_laws.rules.same_names.Spellings.{OfNoalloc}
use Rattle.pass_proofs.proofs.split.names.Parts.{has_given_parts, has_parts, made_is_new}
use Rattle.pass_proofs.specs.ir_laws.facts.same_names.Short.{HaveShortNames}
use Rattle.pass_proofs.specs.rule_laws.frames.same_names.Parts.{HasFunctionsOf, HasPartsOf, HasSignature}
use Rattle.pass_proofs.specs.rule_laws.rules.plain_rules.Items.{KeepsItemRules}
use Rattle.pass_proofs.specs.rule_names.declared.stage.Stage.{Stage}
use Rattle.pass_proofs.specs.split.names.Sources.{HasGivenParts}

-- ---- where a ramp comes from

pub record IsRampIn (given : Function → Bool) (fs : List Function) (g : Function) : Type 0 where
  pub position : ℕ
  pub source : Function
  pub stands : slice_get fs position ≡ Some source
  pub coroutine : source.coroutine ≡ true
  pub is_given : given source ≡ true
  pub is : called_ramp source ≡ g

ramp_behind : (given : Function → Bool) (f : Function) (fs : List Function) (g : Function) → IsRampIn given fs g
    → IsRampIn given (f ∷ fs) g
ramp_behind given f fs g r =
    record {
      position = suc r.position;
      source = r.source;
      stands = r.stands;
      coroutine = r.coroutine;
      is_given = r.is_given;
      is = r.is;
    }

pub ramp_at : (given : Function → Bool) (fs : List Function) (k : ℕ) (g : Function)
    → slice_get (given_ramps given fs) k ≡ Some g → IsRampIn given fs g
ramp_at given [] k g e = absurd (cc)
ramp_at given (f ∷ fs) k g e = on f.coroutine (given f) refl refl k (λ j h. ramp_at given fs j g h) e
  where
    on : (c b : Bool) → f.coroutine ≡ c → given f ≡ b → (k : ℕ)
        → ((j : ℕ) → slice_get (given_ramps given fs) j ≡ Some g → IsRampIn given fs g)
        → slice_get ((if c && b then called_ramp f ∷ [] else []) ++ given_ramps given fs) k ≡ Some g
        → IsRampIn given (f ∷ fs) g
    on true true c b zero again e =
        let same : called_ramp f ≡ g = cc in
        record { position = 0; source = f; stands = refl; coroutine = c; is_given = b; is = same }
    on true true c b (suc k) again e = ramp_behind given f fs g (again k e)
    on true false c b k again e = ramp_behind given f fs g (again k e)
    on false given_now c b k again e = ramp_behind given f fs g (again k e)

-- ---- what is found in front is found

found_front : {A : Type 0} (t : A → Bool) (xs ys : List A) (j : ℕ) → first_where t xs ≡ Some j
    → first_where t (xs ++ ys) ≡ Some j
found_front t [] ys j e = absurd (cc)
found_front t (x ∷ xs) ys j e = on (t x) (λ k h. found_front t xs ys k h) e
  where
    later : (o : Option ℕ) → first_where t xs ≡ o
        → ((k : ℕ) → first_where t xs ≡ Some k → first_where t (xs ++ ys) ≡ Some k) → option_map suc o ≡ Some j
        → option_map suc (first_where t (xs ++ ys)) ≡ Some j
    later None h again d = absurd (cc)
    later (Some k) h again d = ap (option_map suc) (again k h) ∙ d

    on : (b : Bool) → ((k : ℕ) → first_where t xs ≡ Some k → first_where t (xs ++ ys) ≡ Some k)
        → (if b then Some 0 else option_map suc (first_where t xs)) ≡ Some j
        → (if b then Some 0 else option_map suc (first_where t (xs ++ ys))) ≡ Some j
    on true again d = d
    on false again d = later (first_where t xs) refl again d

-- ---- the parts

module _ (ls : Layouts) (m : Module) (items : KeepsItemRules Stage.Source m) (short : HaveShortNames m) where
  abbrev n : Module
  n = split_module ls m

  abbrev ramps : List Function
  ramps = given_ramps (has_given_call m) m.functions

  parts : HasPartsOf m n
  parts = has_parts ls m items short

  given_parts : HasGivenParts m n
  given_parts = has_given_parts ls m items short

  abbrev Signed : Name → Function → Type 0
  Signed x f = HasSignature n x f.result (map (λ p. p.ty) f.params)

  abbrev named : Name → Function → Bool
  named x f = same_name f.name x

  -- a ramp is called by its name
  ramp_signed : (f : Function) → IsRampIn (has_given_call m) m.functions f → Signed f.name f
  ramp_signed f r =
      let s = given_parts.ramps r.position r.source r.stands r.coroutine r.is_given in
      subst (λ (g : Function). Signed g.name g) r.is
      (record {
        position = s.position;
        function = s.function;
        is_named = s.is_named;
        stands = s.stands;
        has_result = s.has_result;
        has_params = s.has_params ∙ sym (map-append (λ (p : Param). p.ty) r.source.params _);
      })

  -- what is found is found in front, or is a ramp
  signed : (x : Name) (k : ℕ) (f : Function) → function_named (with_given_ramps m) x ≡ Some k
      → slice_get (with_given_ramps m).functions k ≡ Some f → Signed x f
  signed x k f is_named there = on (function_named m x) refl
    where
      in_front : (j : ℕ) → function_named m x ≡ Some j → Signed x f
      in_front j e =
          let own = what_is_found (named x) m.functions j e in
          let both : Some j ≡ Some k = sym (found_front (named x) m.functions ramps j e) ∙ is_named in
          let same : j ≡ k = cc in
          let twice : Some own.element ≡ Some f =
          sym (get_before m.functions ramps j own.element own.stands)
          ∙ ap (slice_get (with_given_ramps m).functions) same ∙ there in
          parts.functions x j f e (own.stands ∙ twice)

      behind : (f.name ≡ x) → IsRampIn (has_given_call m) m.functions f → Signed x f
      behind same r = subst (λ (y : Name). Signed y f) same (ramp_signed f r)

      name_is : f.name ≡ x
      name_is =
          let w = what_is_found (named x) (with_given_ramps m).functions k is_named in
          let both : Some w.element ≡ Some f = sym w.stands ∙ there in
          let is_one : w.element ≡ f = cc in
          ap (λ (g : Function). g.name) (sym is_one) ∙ same_name-same w.element.name x w.passes

      passes : named x f ≡ true
      passes =
          let w = what_is_found (named x) (with_given_ramps m).functions k is_named in
          let both : Some w.element ≡ Some f = sym w.stands ∙ there in
          let is_one : w.element ≡ f = cc in
          ap (named x) (sym is_one) ∙ w.passes

      nowhere : function_named m x ≡ None
          → (slice_get m.functions k ≡ Some f) ⊎ ((j : ℕ) × ((slice_get ramps j ≡ Some f) × (k ≡ length m.functions + j))) → Signed x f
      nowhere none (inl e) = absurd (not_both (named x f) (none_found (named x) m.functions none k f e) passes)
      nowhere none (inr r) = behind name_is (ramp_at (has_given_call m) m.functions r.0 f r.1.0)

      on : (o : Option ℕ) → function_named m x ≡ o → Signed x f
      on (Some j) e = in_front j e
      on None e = nowhere e (of_row m.functions ramps k f there)

  other : (x : Name) → function_named (with_given_ramps m) x ≡ None
      → (is_some (declaration_named m x) || is_some (global_named m x)) ≡ true → function_named n x ≡ None
  other x none item = parts.others x (on (function_named m x) refl) item
    where
      on : (o : Option ℕ) → function_named m x ≡ o → function_named m x ≡ None
      on None e = e
      on (Some j) e =
          let bad : None ≡ Some j = sym none ∙ found_front (named x) m.functions ramps j e in
          absurd (cc)

  -- a coroutine is no ramp
  own : (k : ℕ) (f : Function) → slice_get (with_given_ramps m).functions k ≡ Some f → f.coroutine ≡ true
      → slice_get m.functions k ≡ Some f
  own k f there c = on (of_row m.functions ramps k f there)
    where
      on : (slice_get m.functions k ≡ Some f) ⊎ ((j : ℕ) × ((slice_get ramps j ≡ Some f) × (k ≡ length m.functions + j)))
          → slice_get m.functions k ≡ Some f
      on (inl e) = e
      on (inr r) =
          let ramp = ramp_at (has_given_call m) m.functions r.0 f r.1.0 in
          let bad : false ≡ true = ap (λ (g : Function). g.coroutine) ramp.is ∙ c in
          absurd (cc)

  pub has_given_ramps : HasPartsOf (with_given_ramps m) n
  has_given_ramps =
      record {
        types = refl;
        globals = refl;
        declarations = refl;
        functions = signed;
        others = other;
        resumes = λ k f there c. parts.resumes k f (own k f there c) c;
        destroys = λ k f there c. parts.destroys k f (own k f there c) c;
      }

-- ---- the module with the ramps has the functions of the module

module _ (ls : Layouts) (m : Module) (items : KeepsItemRules Stage.Source m) (short : HaveShortNames m) where
  abbrev all_ramps : List Function
  all_ramps = given_ramps (has_given_call m) m.functions

  -- the name of a ramp is no global's and no declaration's
  ramp_is_new : (f : Function) → IsRampIn (has_given_call m) m.functions f
      → (global_named m f.name ≡ None) × (declaration_named m f.name ≡ None)
  ramp_is_new f r =
      let part : noalloc_of r.source.name ≡ f.name = ap (λ (g : Function). g.name) r.is in
      let new = made_is_new ls m items short f.name (record {
        position = r.position;
        source = r.source;
        stands = r.stands;
        is = Part (codes ".noalloc") OfNoalloc r.coroutine part;
      }) in
      (new.0, new.1)

  no_item : (x : Name) → (global_named m x ≡ None) × (declaration_named m x ≡ None)
      → (is_some (declaration_named m x) || is_some (global_named m x)) ≡ true → ⊥
  no_item x new item =
      let none : (is_some (declaration_named m x) || is_some (global_named m x)) ≡ false =
      (λ i. is_some (new.1 i) || is_some (new.0 i)) in
      let bad : false ≡ true = sym none ∙ item in
      absurd (cc)

  still_none : (x : Name) → function_named m x ≡ None
      → (is_some (declaration_named m x) || is_some (global_named m x)) ≡ true
      → function_named (with_given_ramps m) x ≡ None
  still_none x none item = on (function_named (with_given_ramps m) x) refl
    where
      ramp : (k : ℕ) (f : Function) → same_name f.name x ≡ true
          → (slice_get m.functions k ≡ Some f)
          ⊎ ((j : ℕ) × ((slice_get all_ramps j ≡ Some f) × (k ≡ length m.functions + j))) → ⊥
      ramp k f passes (inl e) =
          not_both (same_name f.name x) (none_found (λ (g : Function). same_name g.name x) m.functions none k f e) passes
      ramp k f passes (inr r) =
          let is = ramp_at (has_given_call m) m.functions r.0 f r.1.0 in
          let same : f.name ≡ x = same_name-same f.name x passes in
          no_item x (subst (λ (y : Name). (global_named m y ≡ None) × (declaration_named m y ≡ None)) same (ramp_is_new f is)) item

      on : (o : Option ℕ) → function_named (with_given_ramps m) x ≡ o → function_named (with_given_ramps m) x ≡ None
      on None e = e
      on (Some k) e =
          let w = what_is_found (λ (f : Function). same_name f.name x) (with_given_ramps m).functions k e in
          absurd (ramp k w.element w.passes (of_row m.functions all_ramps k w.element w.stands))

  pub has_functions_still : HasFunctionsOf m (with_given_ramps m)
  has_functions_still =
      record {
        types = refl;
        globals = refl;
        declarations = refl;
        functions = λ x k f named there.
            record {
              position = k;
              function = f;
              is_named = found_front (λ (g : Function). same_name g.name x) m.functions all_ramps k named;
              stands = get_before m.functions all_ramps k f there;
              has_result = refl;
              has_params = refl;
            };
        others = still_none;
      }

pub functions_stay : (m : Module) (k : ℕ) (f : Function) → slice_get m.functions k ≡ Some f
    → slice_get (with_given_ramps m).functions k ≡ Some f
functions_stay m k f e = get_before m.functions (given_ramps (has_given_call m) m.functions) k f e
