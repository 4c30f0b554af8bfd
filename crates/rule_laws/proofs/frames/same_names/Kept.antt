-- What a module that has the parts of another one knows, and how its calls are typed.
use Rattle.std.proofs.Common.{◌≡◌, ℕ, Bool, true, false, List, refl, sym, ap, ◌∙◌, Option, Some, None}
use Rattle.std.proofs.lemmas.Bool.{and_from, and_parts, or_left, or_right}
use Rattle.std.specs.Prelude.{codes, is_some, map, slice_get, ◌&&◌, ◌||◌}
use Rattle.ir_laws.specs.ir_base.declared.name.Name.{Name}
use Rattle.ir_laws.specs.ir_model.Names.{declaration_named, first_where, function_named, global_named, same_name}
use Rattle.ir_laws.specs.ir_model.Ty.{Ty, named, none}
use Rattle.ir_laws.specs.ir_model.declared.module.Declaration.{Declaration}
use Rattle.ir_laws.specs.ir_model.declared.module.Function.{Function}
use Rattle.ir_laws.specs.ir_model.declared.module.GlobalItem.{GlobalItem}
use Rattle.ir_laws.specs.ir_model.declared.module.Module.{Module}
use Rattle.ir_laws.specs.ir_model.declared.operand.Arg.{Arg}
use Rattle.ir_laws.specs.ir_model.declared.operand.Callee.{Callee}
use Rattle.rule_locals.specs.Calls.{has_pointer, is_closed, is_closed_at, is_closed_declaration}
use Rattle.rule_names.specs.Known.{allocator_name, knows_address, knows_callee, knows_name}
use Rattle.rule_names.specs.Reserved.{name_begins}
use Rattle.ir_laws.proofs.facts.same_names.Lists.{what_is_found}
use Rattle.rule_laws.specs.frames.same_names.Parts.{HasPartsOf, HasSignature}
use Rattle.rule_types.specs.Signatures.{fits_callee, fits_declared, fits_declaration, fits_function, fits_named, fits_position, is_result, are_wanted, same_list, same_result}
use Rattle.rule_types.specs.Wants.{allocator_params, allocator_result}
use Rattle.rule_laws.proofs.rules.same_names.Kept.{address_known}

-- a function of the first module stands where it is named
there_is : (m : Module) (x : Name) (k : ℕ) → function_named m x ≡ Some k → (f : Function) × (slice_get m.functions k ≡ Some f)
there_is m x k e = let r = what_is_found (λ (f : Function). same_name f.name x) m.functions k e in (r.element, r.stands)

module _ (m n : Module) (h : HasPartsOf m n) where
  declared_same : (x : Name) → declaration_named n x ≡ declaration_named m x
  declared_same x = ap (λ (ds : List Declaration). first_where (λ d. same_name d.name x) ds) h.declarations

  globals_same : (x : Name) → global_named n x ≡ global_named m x
  globals_same x = ap (λ (gs : List GlobalItem). first_where (λ g. same_name g.name x) gs) h.globals

  pub knows_name_kept : (x : Name) → knows_name m x ≡ true → knows_name n x ≡ true
  knows_name_kept x e = on (function_named m x) refl
    where
      on : (o : Option ℕ) → function_named m x ≡ o → knows_name n x ≡ true
      on None lacks =
          or_right (is_some (function_named n x)) (is_some (declaration_named n x) || is_some (global_named n x))
          ((λ i. is_some (declared_same x i) || is_some (globals_same x i)) ∙ sym (ap (λ (o : Option ℕ). is_some o || (is_some (declaration_named m x) || is_some (global_named m x))) lacks) ∙ e)
      on (Some k) called =
          let f = there_is m x k called in
          or_left (is_some (function_named n x)) (is_some (declaration_named n x) || is_some (global_named n x)) (ap (λ (o : Option ℕ). is_some o) (h.functions x k f.0 called f.1).is_named)

  pub knows_address_kept : (x : Name) → knows_address m x ≡ true → knows_address n x ≡ true
  knows_address_kept = address_known m n knows_name_kept

  pub knows_callee_kept : (c : Callee) → knows_callee m c ≡ true → knows_callee n c ≡ true
  knows_callee_kept (Callee.Named x) e = knows_name_kept x e
  knows_callee_kept (Callee.Allocator a) e = knows_name_kept (allocator_name a) e
  knows_callee_kept (Callee.Intrinsic i) e = refl
  knows_callee_kept (Callee.Local v) e = refl

  -- ---- calls

  -- what is no function's name and is declared, is none in the second module
  still_none : (x : Name) (k : ℕ) → function_named m x ≡ None → declaration_named m x ≡ Some k → function_named n x ≡ None
  still_none x k lacks declared = h.others x lacks (ap (λ (o : Option ℕ). is_some o || is_some (global_named m x)) declared)

  fits_signature : (ty : Option Ty) (ts : List Ty) (x : Name) (f : Function) (r : HasSignature n x f.result (map (λ p. p.ty) f.params)) → fits_function ty ts (Some f) ≡ true → fits_function ty ts (slice_get n.functions r.position) ≡ true
  fits_signature ty ts x f r e = ap (fits_function ty ts) r.stands ∙ (λ i. same_result ty (r.has_result i) && same_list ts (r.has_params i)) ∙ e

  pub fits_named_kept : (ty : Option Ty) (ts : List Ty) (x : Name) → fits_named m ty ts x ≡ true → fits_named n ty ts x ≡ true
  fits_named_kept ty ts x e = on (function_named m x) (declaration_named m x) refl refl
    where
      on : (o d : Option ℕ) → function_named m x ≡ o → declaration_named m x ≡ d → fits_named n ty ts x ≡ true
      on None None lacks lone =
          let other : false ≡ true = sym (ap (fits_declaration m ty ts) lone) ∙ sym (ap (fits_position m ty ts x) lacks) ∙ e in
          absurd (cc)
      on None (Some k) lacks declared =
          ap (fits_position n ty ts x) (still_none x k lacks declared)
          ∙ ap (fits_declaration n ty ts) (declared_same x ∙ declared)
          ∙ ap (λ (ds : List Declaration). fits_declared ty ts (slice_get ds k)) h.declarations
          ∙ sym (ap (fits_declaration m ty ts) declared) ∙ sym (ap (fits_position m ty ts x) lacks) ∙ e
      on (Some k) d called declared =
          let f = there_is m x k called in
          let r = h.functions x k f.0 called f.1 in
          ap (fits_position n ty ts x) r.is_named
          ∙ fits_signature ty ts x f.0 r (sym (ap (fits_function ty ts) f.1) ∙ sym (ap (fits_position m ty ts x) called) ∙ e)

  pub fits_callee_kept : (ty : Option Ty) (args : List Arg) (c : Callee) → fits_callee m ty args c ≡ true → fits_callee n ty args c ≡ true
  fits_callee_kept ty args (Callee.Named x) e = fits_named_kept ty (map (λ a. a.ty) args) x e
  fits_callee_kept ty args (Callee.Allocator a) e =
      let table : Bool = is_result (allocator_result a) ty && are_wanted (allocator_params a) args in
      let parts = and_parts table (fits_named m ty (map (λ y. y.ty) args) (allocator_name a)) e in
      and_from table (fits_named n ty (map (λ y. y.ty) args) (allocator_name a)) parts.0 (fits_named_kept ty (map (λ y. y.ty) args) (allocator_name a) parts.1)
  fits_callee_kept ty args (Callee.Intrinsic i) e = e
  fits_callee_kept ty args (Callee.Local v) e = e

  pub is_closed_kept : (x : Name) → is_closed m x ≡ false → is_closed n x ≡ false
  is_closed_kept x e = on (function_named m x) (declaration_named m x) (function_named n x) refl refl refl
    where
      on : (o d p : Option ℕ) → function_named m x ≡ o → declaration_named m x ≡ d → function_named n x ≡ p → is_closed n x ≡ false
      on o d (Some j) called declared now = ap (is_closed_at n x) now
      on o None None called lone now = ap (is_closed_at n x) now ∙ ap (is_closed_declaration n x) (declared_same x ∙ lone)
      on None (Some k) None lacks declared now =
          ap (is_closed_at n x) now ∙ ap (is_closed_declaration n x) (declared_same x ∙ declared)
          ∙ ap (λ (ds : List Declaration). name_begins (codes "llvm.") x || has_pointer (slice_get ds k)) h.declarations
          ∙ sym (ap (is_closed_declaration m x) declared) ∙ sym (ap (is_closed_at m x) lacks) ∙ e
      on (Some k) (Some d) None called declared now =
          let f = there_is m x k called in
          let other : Some (h.functions x k f.0 called f.1).position ≡ None = sym (h.functions x k f.0 called f.1).is_named ∙ now in
          absurd (cc)
