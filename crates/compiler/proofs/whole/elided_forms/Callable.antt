-- A ramp that is given its frame may be called where the coroutine was.
use Rattle.std.proofs.Common.{◌≡◌, ℕ, Bool, true, false, List, [], ◌∷◌, ◌++◌, map, refl, sym, ap, ◌∙◌, Some, None, Option}
use Rattle.std.proofs.lemmas.List.{map-append}
use Rattle.std.specs.Prelude.{is_some, slice_get, ◌&&◌, ◌||◌}
use Rattle.ir_base.specs.declared.name.Name.{Name}
use Rattle.ir_model.specs.Layout.{same_type}
use Rattle.ir_model.specs.Names.{declaration_named, function_named, global_named}
use Rattle.ir_model.specs.Ty.{Ty, ptr}
use Rattle.ir_model.specs.declared.module.Function.{Function}
use Rattle.ir_model.specs.declared.module.Module.{Module}
use Rattle.ir_model.specs.declared.operand.Arg.{Arg}
use Rattle.pass_proofs.proofs.ir_laws.facts.Truth.{and_both, and_first, and_second}
use Rattle.pass_proofs.specs.rule_laws.frames.same_names.Parts.{HasSignature}
use Rattle.pass_proofs.specs.rule_laws.rules.given_calls.Given.{MayBeCalled, frame_arg}
use Rattle.pass_proofs.specs.rule_locals.Calls.{is_closed_at}
use Rattle.pass_proofs.specs.rule_names.Reserved.{is_reserved}
use Rattle.pass_proofs.specs.rule_types.Signatures.{fits_function, fits_position, same_list, same_result}

same_more : (ts us : List Ty) → same_list ts us ≡ true → same_list (ts ++ ptr ∷ []) (us ++ ptr ∷ []) ≡ true
same_more [] [] e = refl
same_more (t ∷ ts) (u ∷ us) e =
    and_both (same_type t u) (same_list (ts ++ ptr ∷ []) (us ++ ptr ∷ [])) (and_first (same_type t u) (same_list ts us) e)
    (same_more ts us (and_second (same_type t u) (same_list ts us) e))
same_more [] (u ∷ us) e = absurd (cc)
same_more (t ∷ ts) [] e = absurd (cc)

pub may_be_called : (R : Module) (ty : Option Ty) (y : Name) (args : List Arg) (n : ℕ) (g : Function)
    → HasSignature R y g.result (map (λ p. p.ty) g.params ++ ptr ∷ [])
    → fits_function ty (map (λ a. a.ty) args) (Some g) ≡ true → is_reserved y ≡ false
    → MayBeCalled R ty y (args ++ frame_arg n ∷ [])
may_be_called R ty y args n g s e usual =
    let first : Bool = same_result ty g.result in
    let second : Bool = same_list (map (λ a. a.ty) args) (map (λ p. p.ty) g.params) in
    let types : map (λ a. a.ty) (args ++ frame_arg n ∷ []) ≡ map (λ a. a.ty) args ++ ptr ∷ [] =
    map-append (λ (a : Arg). a.ty) args (frame_arg n ∷ []) in
    record {
      known = ap (λ (o : Option ℕ). is_some o || (is_some (declaration_named R y) || is_some (global_named R y)))
          s.is_named;
      fits = ap (fits_position R ty (map (λ a. a.ty) (args ++ frame_arg n ∷ [])) y) s.is_named
          ∙ ap (fits_function ty (map (λ a. a.ty) (args ++ frame_arg n ∷ []))) s.stands
          ∙ (λ i. same_result ty (s.has_result i) && same_list (types i) (s.has_params i))
          ∙ and_both first (same_list (map (λ a. a.ty) args ++ ptr ∷ []) (map (λ p. p.ty) g.params ++ ptr ∷ []))
          (and_first first second e)
          (same_more (map (λ a. a.ty) args) (map (λ p. p.ty) g.params) (and_second first second e));
      allowed = ap (is_closed_at R y) s.is_named;
      usual = usual;
    }
