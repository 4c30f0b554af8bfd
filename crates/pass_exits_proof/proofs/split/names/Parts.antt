-- A split module has the parts of the module's coroutines.
use Rattle.std.proofs.Common.{◌≡◌, ℕ, zero, suc, Bool, true, false, List, [], ◌∷◌, ◌++◌, refl, sym, ap, ◌∙◌, subst, Option, Some, None}
use Rattle.std.proofs.lemmas.List.{map-append}
use Rattle.std.proofs.lemmas.Bool.{or_parts}
use Rattle.std.proofs.lemmas.Option.{slice_get-map}
use Rattle.std.specs.Prelude.{codes, is_some, map, option_map, slice_get, if◌then◌else◌, ◌||◌}
use Rattle.pass_fetch_proof.specs.ir_base.declared.name.Name.{Name}
use Rattle.pass_split.specs.Given.{has_given_call}
use Rattle.pass_split.specs.Parts.{first_layout, layouts_after, marked_parts, plain_of, plain_shape, split_function, split_functions, split_module}
use Rattle.pass_fetch_proof.proofs.ir_laws.facts.Lists.{first_same, StandsIn, none_found, nothing_found, of_first, of_second}
use Rattle.pass_fetch_proof.specs.frame_layout.declared.layout.Layout.{Layout}
use Rattle.pass_fetch_proof.specs.frame_layout.declared.layout.Layouts.{Layouts}
use Rattle.ir_model.specs.Names.{declaration_named, first_where, function_named, global_named, noalloc_of, same_name}
use Rattle.ir_model.specs.Ty.{Ty, ptr}
use Rattle.ir_model.specs.declared.module.Function.{Function}
use Rattle.ir_model.specs.declared.module.Module.{Module}
use Rattle.ir_model.specs.declared.module.Param.{Param}
use Rattle.pass_fetch_proof.proofs.ir_tables.Tables.{same_name-same}
use Rattle.pass_fetch_proof.specs.rule_names.Reserved.{is_part, is_reserved, part_name}
use Rattle.pass_fetch_proof.specs.rule_names.declared.stage.Stage.{Stage}
use Rattle.pass_fetch_proof.proofs.rule_laws.rules.plain_rules.Once.{once_at}
use Rattle.pass_fetch_proof.specs.rule_laws.rules.plain_rules.Items.{KeepsItemRules}
use Rattle.pass_fetch_proof.proofs.ir_laws.facts.same_names.Lists.{found, what_is_found}
use Rattle.pass_fetch_proof.proofs.rule_laws.rules.same_names.Made.{IsFree, IsMade, IsMadeIn, Own, Part, all_distinct, all_names, cleanup_of, destroy_of, free_name, made_in, not_part, resume_of}
use Rattle.pass_exits_proof.proofs.split.names.Made.{all_names_split}
use Rattle.pass_fetch_proof.proofs.ir_laws.facts.Truth.{differ}
use Rattle.pass_fetch_proof.proofs.rule_laws.rules.same_names.Spellings.{IsSuffix, OfCleanup, OfDestroy, OfNoalloc, OfResume, never_same}
use Rattle.pass_fetch_proof.proofs.rule_laws.rules.same_names.Unreserved.{part_is_free}
use Rattle.pass_fetch_proof.specs.rule_laws.frames.same_names.Parts.{HasPart, HasPartsOf, HasSignature}
use Rattle.pass_fetch_proof.specs.ir_laws.facts.same_names.Short.{HaveShortNames}
use Rattle.pass_split.specs.pass_exits.ExitBlocks.{with_exit_blocks}
use Rattle.pass_exits_proof.specs.split.names.Sources.{HasGivenParts}

-- ---- where the functions that a function becomes stand

-- those that a function at a position becomes stand in the split module
record AllStand (m : Module) (gs : List Function) (f : Function) : Type 0 where
  layout : Layout
  each : (k : ℕ) (g : Function) → slice_get (split_function layout (has_given_call m f) f) k ≡ Some g → StandsIn gs g

all_stand : (ls : List Layout) (m : Module) (fs : List Function) (k : ℕ) (f : Function) → slice_get fs k ≡ Some f → AllStand m (split_functions ls m fs) f
all_stand ls m [] k f e = absurd (cc)
all_stand ls m (g ∷ fs) zero f e =
    let is_one : g ≡ f = cc in
    subst (AllStand m (split_functions ls m (g ∷ fs))) is_one
    (record {
      layout = first_layout ls;
      each = λ k x there. record { at = k; is = of_first (split_function (first_layout ls) (has_given_call m g) g) (split_functions (layouts_after g ls) m fs) k x there };
    })
all_stand ls m (g ∷ fs) (suc k) f e =
    let more = all_stand (layouts_after g ls) m fs k f e in
    record { layout = more.layout; each = λ j x there. of_second (split_function (first_layout ls) (has_given_call m g) g) (split_functions (layouts_after g ls) m fs) x (more.each j x there) }

-- one of them has this name, this result and parameters of these types
record HasOne (gs : List Function) (x : Name) (result : Option Ty) (params : List Ty) : Type 0 where
  one : Function
  stands : StandsIn gs one
  has_name : one.name ≡ x
  has_result : one.result ≡ result
  has_params : map (λ p. p.ty) one.params ≡ params

is_first : (ls : List Layout) (m : Module) (fs : List Function) (k : ℕ) (f : Function) → slice_get fs k ≡ Some f → HasOne (split_functions ls m fs) f.name f.result (map (λ p. p.ty) f.params)
is_first ls m fs k f there = let all = all_stand ls m fs k f there in on all.layout f.coroutine (all.each 0)
  where
    on : (l : Layout) (b : Bool) → ((g : Function) → slice_get (if b then marked_parts l (has_given_call m f) (with_exit_blocks f) else plain_of (plain_shape f) f ∷ []) 0 ≡ Some g → StandsIn (split_functions ls m fs) g) → HasOne (split_functions ls m fs) f.name f.result (map (λ p. p.ty) f.params)
    on l true each = record { one = _; stands = each _ refl; has_name = refl; has_result = refl; has_params = refl }
    on l false each = record { one = _; stands = each _ refl; has_name = refl; has_result = refl; has_params = refl }

-- the parts of a coroutine that stand behind its ramp
record HasLater (gs : List Function) (f : Function) (given : Bool) : Type 0 where
  resume : HasOne gs (resume_of f) None (ptr ∷ [])
  destroy : HasOne gs (destroy_of f) None (ptr ∷ [])
  cleanup : given ≡ true → HasOne gs (cleanup_of f) None (ptr ∷ [])
  ramp : given ≡ true → HasOne gs (noalloc_of f.name) f.result (map (λ p. p.ty) f.params ++ ptr ∷ [])

later : (ls : List Layout) (m : Module) (fs : List Function) (k : ℕ) (f : Function) → slice_get fs k ≡ Some f → f.coroutine ≡ true → HasLater (split_functions ls m fs) f (has_given_call m f)
later ls m fs k f there c = let all = all_stand ls m fs k f there in on all.layout f.coroutine (has_given_call m f) c all.each
  where
    on : (l : Layout) (b given : Bool) → b ≡ true → ((j : ℕ) (g : Function) → slice_get (if b then marked_parts l given (with_exit_blocks f) else plain_of (plain_shape f) f ∷ []) j ≡ Some g → StandsIn (split_functions ls m fs) g) → HasLater (split_functions ls m fs) f given
    on l true true e each = record {
      resume = record { one = _; stands = each 1 _ refl; has_name = refl; has_result = refl; has_params = refl };
      destroy = record { one = _; stands = each 2 _ refl; has_name = refl; has_result = refl; has_params = refl };
      cleanup = λ d. record { one = _; stands = each 3 _ refl; has_name = refl; has_result = refl; has_params = refl };
      ramp = λ d. record { one = _; stands = each 4 _ refl; has_name = refl; has_result = refl; has_params = map-append (λ (p : Param). p.ty) f.params _ };
    }
    on l true false e each = record {
      resume = record { one = _; stands = each 1 _ refl; has_name = refl; has_result = refl; has_params = refl };
      destroy = record { one = _; stands = each 2 _ refl; has_name = refl; has_result = refl; has_params = refl };
      cleanup = λ d. absurd (cc);
      ramp = λ d. absurd (cc);
    }
    on l false given e each = absurd (cc)

-- ---- functions by their names

module _ (ls : Layouts) (m : Module) (h : KeepsItemRules Stage.Source m) (short : HaveShortNames m) where
  abbrev n : Module
  n = split_module ls m

  named_in_list : (x : Name) → function_named n x ≡ first_where (λ y. same_name y x) (all_names (has_given_call m) m.functions)
  named_in_list x = sym (first_same (λ (g : Function). g.name) (λ y. same_name y x) (λ g. same_name g.name x) (λ g. refl) (split_functions ls.coroutines m m.functions)) ∙ ap (first_where (λ y. same_name y x)) (all_names_split ls.coroutines m m.functions)

  -- a function of the split module is found by its name
  pub stands_named : (k : ℕ) (g : Function) → slice_get n.functions k ≡ Some g → function_named n g.name ≡ Some k
  stands_named k g there =
      named_in_list g.name
      ∙ found (all_names (has_given_call m) m.functions) (all_distinct m h.names short (has_given_call m)) k g.name
      (ap (λ (ns : List Name). slice_get ns k) (sym (all_names_split ls.coroutines m m.functions)) ∙ slice_get-map (λ (g : Function). g.name) (split_functions ls.coroutines m m.functions) k ∙ ap (option_map (λ (g : Function). g.name)) there)

  has_signature : (x : Name) (result : Option Ty) (params : List Ty) → HasOne n.functions x result params → HasSignature n x result params
  has_signature x result params one =
      record {
        position = one.stands.at;
        function = one.one;
        is_named = ap (function_named n) (sym one.has_name) ∙ stands_named one.stands.at one.one one.stands.is;
        stands = one.stands.is;
        has_result = one.has_result;
        has_params = one.has_params;
      }

  kept_function : (x : Name) (k : ℕ) (f : Function) → function_named m x ≡ Some k → slice_get m.functions k ≡ Some f → HasSignature n x f.result (map (λ p. p.ty) f.params)
  kept_function x k f named there =
      let r = what_is_found (λ (f : Function). same_name f.name x) m.functions k named in
      let both : Some r.element ≡ Some f = sym r.stands ∙ there in
      let is_one : r.element ≡ f = cc in
      let called : f.name ≡ x = ap (λ (f : Function). f.name) (sym is_one) ∙ same_name-same r.element.name x r.passes in
      subst (λ (y : Name). HasSignature n y f.result (map (λ p. p.ty) f.params)) called
      (has_signature f.name f.result (map (λ p. p.ty) f.params) (is_first ls.coroutines m m.functions k f there))

  -- ---- globals and declarations

  -- neither a global nor a declaration has the name of a part
  global_is_no_part : (x : Name) (k : ℕ) → global_named m x ≡ Some k → is_part m x ≡ false
  global_is_no_part x k e =
      let r = what_is_found (λ g. same_name g.name x) m.globals k e in
      ap (is_part m) (sym (same_name-same r.element.name x r.passes))
      ∙ (or_parts (is_reserved r.element.name) (is_part m r.element.name) (h.reserved.globals k r.element r.stands)).1

  declaration_is_no_part : (x : Name) (k : ℕ) → declaration_named m x ≡ Some k → is_part m x ≡ false
  declaration_is_no_part x k e =
      let r = what_is_found (λ d. same_name d.name x) m.declarations k e in
      ap (is_part m) (sym (same_name-same r.element.name x r.passes)) ∙ h.reserved.declarations k r.element r.stands

  item_is_no_part : (x : Name) → (is_some (declaration_named m x) || is_some (global_named m x)) ≡ true → is_part m x ≡ false
  item_is_no_part x e = on (declaration_named m x) (global_named m x) refl refl e
    where
      on : (d g : Option ℕ) → declaration_named m x ≡ d → global_named m x ≡ g → (is_some d || is_some g) ≡ true → is_part m x ≡ false
      on (Some k) g p q e = declaration_is_no_part x k p
      on None (Some k) p q e = global_is_no_part x k q
      on None None p q e = absurd (cc)

  other : (x : Name) → function_named m x ≡ None → (is_some (declaration_named m x) || is_some (global_named m x)) ≡ true → function_named n x ≡ None
  other x none item =
      named_in_list x
      ∙ nothing_found (λ y. same_name y x) (all_names (has_given_call m) m.functions)
      (λ k y there. let r = made_in (has_given_call m) m.functions y (record { at = k; is = there }) in differ y x (λ same. never r.source r.position r.stands y same r.is))
    where
      never : (f : Function) (k : ℕ) → slice_get m.functions k ≡ Some f → (y : Name) → y ≡ x → IsMade f y → ⊥
      never f k there y same (Own e) = never_same f.name x (none_found (λ (f : Function). same_name f.name x) m.functions none k f there) (e ∙ same)
      never f k there y same (Part w q c e) = not_part m x (item_is_no_part x item) k f there c w q (e ∙ same)

  -- ---- parts

  no_global : (x : Name) → ((is_part m x ≡ false) → ⊥) → global_named m x ≡ None
  no_global x never = on (global_named m x) refl
    where
      on : (o : Option ℕ) → global_named m x ≡ o → o ≡ None
      on None e = refl
      on (Some k) e = absurd (never (global_is_no_part x k e))

  not_declared : (x : Name) → ((is_part m x ≡ false) → ⊥) → declaration_named m x ≡ None
  not_declared x never = on (declaration_named m x) refl
    where
      on : (o : Option ℕ) → declaration_named m x ≡ o → o ≡ None
      on None e = refl
      on (Some k) e = absurd (never (declaration_is_no_part x k e))

  -- the name of a part is new
  part_is_new : (k : ℕ) (f : Function) → slice_get m.functions k ≡ Some f → f.coroutine ≡ true → (w : List ℕ) → IsSuffix w → (global_named m (part_name f.name w) ≡ None) × (declaration_named m (part_name f.name w) ≡ None) × (is_reserved (part_name f.name w) ≡ false)
  part_is_new k f there c w q =
      let never : is_part m (part_name f.name w) ≡ false → ⊥ = λ e. not_part m (part_name f.name w) e k f there c w q refl in
      (no_global (part_name f.name w) never, not_declared (part_name f.name w) never, part_free w q)
    where
      free : IsFree m f
      free = free_name m h.names k f there

      part_free : (v : List ℕ) → IsSuffix v → is_reserved (part_name f.name v) ≡ false
      part_free _ OfResume = part_is_free f.name (codes "resume") (short k f there) (free.is_usual c) free.is_free
      part_free _ OfDestroy = part_is_free f.name (codes "destroy") (short k f there) (free.is_usual c) free.is_free
      part_free _ OfCleanup = part_is_free f.name (codes "cleanup") (short k f there) (free.is_usual c) free.is_free
      part_free _ OfNoalloc = part_is_free f.name (codes "noalloc") (short k f there) (free.is_usual c) free.is_free

  has_part : (k : ℕ) (f : Function) → slice_get m.functions k ≡ Some f → f.coroutine ≡ true → (w : List ℕ) → IsSuffix w → HasOne n.functions (part_name f.name w) None (ptr ∷ []) → HasPart n (part_name f.name w)
  has_part k f there c w q one =
      let new = part_is_new k f there c w q in
      record { signature = has_signature (part_name f.name w) None (ptr ∷ []) one; is_free = new.2; is_no_global = new.0; is_not_declared = new.1 }

  resumes : (k : ℕ) (f : Function) → slice_get m.functions k ≡ Some f → f.coroutine ≡ true → HasPart n (resume_of f)
  resumes k f there c = has_part k f there c (codes ".resume") OfResume (later ls.coroutines m m.functions k f there c).resume

  destroys : (k : ℕ) (f : Function) → slice_get m.functions k ≡ Some f → f.coroutine ≡ true → HasPart n (destroy_of f)
  destroys k f there c = has_part k f there c (codes ".destroy") OfDestroy (later ls.coroutines m m.functions k f there c).destroy

  pub has_parts : HasPartsOf m n
  has_parts =
      record { types = refl; globals = refl; declarations = refl; functions = kept_function; others = other; resumes = resumes; destroys = destroys }

  pub has_given_parts : HasGivenParts m n
  has_given_parts =
      record {
        cleanups = λ k f there c given. has_part k f there c (codes ".cleanup") OfCleanup ((later ls.coroutines m m.functions k f there c).cleanup given);
        ramps = λ k f there c given. has_signature (noalloc_of f.name) f.result (map (λ p. p.ty) f.params ++ ptr ∷ []) ((later ls.coroutines m m.functions k f there c).ramp given);
      }

  -- ---- the names of the split module's functions

  -- each is no global and no declaration, and not reserved
  pub made_is_new : (x : Name) → IsMadeIn m.functions x → (global_named m x ≡ None) × (declaration_named m x ≡ None) × (is_reserved x ≡ false)
  made_is_new x r = on r.is
    where
      on : IsMade r.source x → (global_named m x ≡ None) × (declaration_named m x ≡ None) × (is_reserved x ≡ false)
      on (Own e) =
          let once = once_at m r.position r.source.name (h.names.once r.position r.source r.stands) in
          (ap (global_named m) (sym e) ∙ once.global, ap (declaration_named m) (sym e) ∙ once.declaration, ap is_reserved (sym e) ∙ (free_name m h.names r.position r.source r.stands).is_free)
      on (Part w q c e) =
          let new = part_is_new r.position r.source r.stands c w q in
          (ap (global_named m) (sym e) ∙ new.0, ap (declaration_named m) (sym e) ∙ new.1, ap is_reserved (sym e) ∙ new.2)

  pub name_is_made : (k : ℕ) (g : Function) → slice_get n.functions k ≡ Some g → IsMadeIn m.functions g.name
  name_is_made k g there =
      made_in (has_given_call m) m.functions g.name
      (record { at = k; is = ap (λ (ns : List Name). slice_get ns k) (sym (all_names_split ls.coroutines m m.functions)) ∙ slice_get-map (λ (g : Function). g.name) (split_functions ls.coroutines m m.functions) k ∙ ap (option_map (λ (g : Function). g.name)) there })
