-- What a module knows by names that are no coro intrinsics stays when the declarations of coro intrinsics go.
use Rattle.std.proofs.Common.{◌≡◌, ℕ, Bool, true, List, refl, sym, ap, ◌∙◌, Option, Some, None}
use Rattle.std.proofs.lemmas.Option.{slice_get-map}
use Rattle.std.specs.Prelude.{codes, is_some, option_map, slice_get, ◌||◌}
use Rattle.ir_base.specs.declared.name.Name.{Name}
use Rattle.pass_cleanup.proofs.Kept.{get_kept, kept_before}
use Rattle.pass_cleanup.proofs.Parts.{declared_clean, kept_name, named_clean}
use Rattle.pass_cleanup.specs.Cleanup.{clean_function, clean_module, is_kept_callee, is_kept_declaration}
use Rattle.ir_model.specs.Names.{declaration_named, function_named, global_named, same_name}
use Rattle.ir_model.specs.Table.{callee_named}
use Rattle.ir_model.specs.Ty.{Ty}
use Rattle.ir_model.specs.declared.module.Declaration.{Declaration}
use Rattle.ir_model.specs.declared.module.Function.{Function}
use Rattle.ir_model.specs.declared.module.Module.{Module}
use Rattle.pass_proofs.specs.rule_locals.Calls.{has_pointer, is_closed, is_closed_at, is_closed_declaration}
use Rattle.pass_proofs.specs.rule_names.Known.{knows_address, knows_name, is_intrinsic}
use Rattle.pass_proofs.specs.rule_names.Reserved.{name_begins}
use Rattle.pass_proofs.proofs.ir_laws.facts.same_names.Lists.{what_is_found}
use Rattle.pass_proofs.specs.rule_types.Signatures.{fits_declaration, fits_declared, fits_function, fits_named, fits_position}

module _ (m : Module) where
  abbrev n : Module
  n = clean_module m

  module _ (x : Name) (stays : is_kept_callee (callee_named x) ≡ true) where
    still_declared : is_some (declaration_named n x) ≡ is_some (declaration_named m x)
    still_declared = ap (λ (o : Option ℕ). is_some o) (declared_clean m x stays) ∙ on (declaration_named m x)
      where
        on : (o : Option ℕ) → is_some (option_map (kept_before is_kept_declaration m.declarations) o) ≡ is_some o
        on None = refl
        on (Some k) = refl

    pub name_same : knows_name n x ≡ knows_name m x
    name_same = λ i. is_some (named_clean m x i) || (still_declared i || is_some (global_named m x))

    pub address_same : knows_address n x ≡ knows_address m x
    address_same = ap (λ (b : Bool). b || is_intrinsic (callee_named x)) name_same

    -- the declaration of this name stands at another position
    same_declaration : (k : ℕ) → declaration_named m x ≡ Some k → slice_get n.declarations (kept_before is_kept_declaration m.declarations k) ≡ slice_get m.declarations k
    same_declaration k found =
        get_kept is_kept_declaration m.declarations k
        (λ d there.
        let r = what_is_found (λ d. same_name d.name x) m.declarations k found in
        let both : Some r.element ≡ Some d = sym r.stands ∙ there in
        let is_one : r.element ≡ d = cc in
        kept_name x stays d (ap (λ (d : Declaration). same_name d.name x) (sym is_one) ∙ r.passes))

    pub fits_named_same : (ty : Option Ty) (ts : List Ty) → fits_named n ty ts x ≡ fits_named m ty ts x
    fits_named_same ty ts = ap (fits_position n ty ts x) (named_clean m x) ∙ on (function_named m x) (declaration_named m x) refl
      where
        same_function : (o : Option Function) → fits_function ty ts (option_map clean_function o) ≡ fits_function ty ts o
        same_function None = refl
        same_function (Some f) = refl

        on : (o d : Option ℕ) → declaration_named m x ≡ d → fits_position n ty ts x o ≡ fits_position m ty ts x o
        on (Some k) d e = ap (fits_function ty ts) (slice_get-map clean_function m.functions k) ∙ same_function (slice_get m.functions k)
        on None None e = ap (fits_declaration n ty ts) (declared_clean m x stays ∙ ap (option_map (kept_before is_kept_declaration m.declarations)) e) ∙ sym (ap (fits_declaration m ty ts) e)
        on None (Some k) e =
            ap (fits_declaration n ty ts) (declared_clean m x stays ∙ ap (option_map (kept_before is_kept_declaration m.declarations)) e)
            ∙ ap (fits_declared ty ts) (same_declaration k e) ∙ sym (ap (fits_declaration m ty ts) e)

    pub closed_same : is_closed n x ≡ is_closed m x
    closed_same = ap (is_closed_at n x) (named_clean m x) ∙ on (function_named m x) (declaration_named m x) refl
      where
        on : (o d : Option ℕ) → declaration_named m x ≡ d → is_closed_at n x o ≡ is_closed_at m x o
        on (Some k) d e = refl
        on None None e = ap (is_closed_declaration n x) (declared_clean m x stays ∙ ap (option_map (kept_before is_kept_declaration m.declarations)) e) ∙ sym (ap (is_closed_declaration m x) e)
        on None (Some k) e =
            ap (is_closed_declaration n x) (declared_clean m x stays ∙ ap (option_map (kept_before is_kept_declaration m.declarations)) e)
            ∙ ap (λ (o : Option Declaration). name_begins (codes "llvm.") x || has_pointer o) (same_declaration k e) ∙ sym (ap (is_closed_declaration m x) e)
