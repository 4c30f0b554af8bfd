-- Lemmas on plain, that speak of no pass.
use Rattle.std.proofs.Common.{◌≡◌, ⊎_elim, ℕ, zero, suc, true, List, [], ◌∷◌, ◌++◌, refl, subst}
use Rattle.std.specs.List.{list_all}
use Rattle.std.specs.Prelude.{None, Option, Some, option_to_list, slice_get, ◌&&◌}
use Rattle.rule_uses.specs.Uses.{local_of, locals_in}
use Rattle.ir_laws.proofs.facts.Truth.{and_first, and_second}
use Rattle.ir_laws.proofs.paths.source_rules.Locals.{listed_either, listed_left, listed_right}
use Rattle.ir_laws.specs.flow_solver.Paths.{IsListed}
use Rattle.ir_parts.specs.Contents.{arg_operands}
use Rattle.pass_intrinsics.specs.Lowered.{operand_at, value_or_null}
use Rattle.ir_laws.specs.ir_model.declared.operand.Arg.{Arg}
use Rattle.ir_laws.specs.ir_model.declared.operand.Callee.{Callee}
use Rattle.ir_laws.specs.ir_model.declared.operand.Operand.{Operand}
use Rattle.ir_laws.specs.run_laws.changed.Changed.{Each}
use Rattle.rule_types.specs.Signatures.{are_wanted}
use Rattle.rule_types.specs.Wants.{is_basic, meets}
use Rattle.rule_types.specs.declared.wants.Wanted.{Wanted}
use Rattle.rule_values.specs.Fits.{fits_arg}
use Rattle.rule_values.specs.Instrs.{is_passed, passes}
use Rattle.rule_values.specs.declared.kinds.Kind.{Kind}
use Rattle.rule_laws.proofs.rules.uses.Plain.{FitsScalar, basic_scalar, has_no_token, is_no_token, is_plain_kind, scalar_local}

module _ (K : ℕ → Option Kind) (callee : Callee) where
  pub wanted_scalar : (ws : List Wanted) (args : List Arg) (at : ℕ) (a : Arg) → are_wanted ws args ≡ true → has_no_token ws at ≡ true → slice_get args at ≡ Some a → list_all (passes K callee) args ≡ true → FitsScalar K a.value
  wanted_scalar ws [] at a e n there p = absurd (cc)
  wanted_scalar [] (b ∷ args) at a e n there p = absurd (cc)
  wanted_scalar (w ∷ ws) (b ∷ args) zero a e n there p =
      let same : b ≡ a = cc in
      let wanted = and_first (is_basic w.ty b.ty) (meets w.value b.value) (and_first (is_basic w.ty b.ty && meets w.value b.value) (are_wanted ws args) e) in
      let fit : FitsScalar K b.value = (b.ty, (basic_scalar w.ty b.ty n wanted, and_second (is_passed callee b.ty) (fits_arg K b) (and_first (passes K callee b) (list_all (passes K callee) args) p))) in
      subst (λ (x : Arg). FitsScalar K x.value) same fit
  wanted_scalar (w ∷ ws) (b ∷ args) (suc at) a e n there p =
      wanted_scalar ws args at a (and_second (is_basic w.ty b.ty && meets w.value b.value) (are_wanted ws args) e) n there (and_second (passes K callee b) (list_all (passes K callee) args) p)

  -- where it has none at all
  pub all_wanted_scalar : (ws : List Wanted) (args : List Arg) → are_wanted ws args ≡ true → list_all (λ (w : Wanted). is_no_token w.ty) ws ≡ true → list_all (passes K callee) args ≡ true → Each (FitsScalar K) (arg_operands args)
  all_wanted_scalar ws [] e n p = tt
  all_wanted_scalar [] (b ∷ args) e n p = absurd (cc)
  all_wanted_scalar (w ∷ ws) (b ∷ args) e n p =
      let wanted = and_first (is_basic w.ty b.ty) (meets w.value b.value) (and_first (is_basic w.ty b.ty && meets w.value b.value) (are_wanted ws args) e) in (
        (b.ty, (basic_scalar w.ty b.ty (and_first (is_no_token w.ty) (list_all (λ (x : Wanted). is_no_token x.ty) ws) n) wanted, and_second (is_passed callee b.ty) (fits_arg K b) (and_first (passes K callee b) (list_all (passes K callee) args) p))),
        all_wanted_scalar ws args (and_second (is_basic w.ty b.ty && meets w.value b.value) (are_wanted ws args) e) (and_second (is_no_token w.ty) (list_all (λ (x : Wanted). is_no_token x.ty) ws) n) (and_second (passes K callee b) (list_all (passes K callee) args) p),
      )

  first_of_args : (v : ℕ) (y : Operand) (more : List ℕ) → IsListed v (option_to_list (local_of y) ++ []) → IsListed v (option_to_list (local_of y) ++ more)
  first_of_args v y more h = ⊎_elim (λ z. listed_left v (option_to_list (local_of y)) more z) (λ z. absurd z) (listed_either v (option_to_list (local_of y)) [] h)

  among_args : (v : ℕ) (xs : List Arg) (k : ℕ) (a : Arg) → slice_get xs k ≡ Some a → IsListed v (locals_in (a.value ∷ [])) → IsListed v (locals_in (arg_operands xs))
  among_args v [] k a d h = absurd (cc)
  among_args v (x ∷ xs) zero a d h = let same : a ≡ x = cc in first_of_args v x.value (locals_in (arg_operands xs)) (subst (λ (y : Arg). IsListed v (locals_in (y.value ∷ []))) same h)
  among_args v (x ∷ xs) (suc k) a d h = listed_right v (option_to_list (local_of x.value)) (locals_in (arg_operands xs)) (among_args v xs k a d h)

  -- an operand that is looked up by its position is an argument's, or null
  pub operand_given : (ws : List Wanted) (args : List Arg) (at v : ℕ) → are_wanted ws args ≡ true → has_no_token ws at ≡ true → list_all (passes K callee) args ≡ true → IsListed v (locals_in (operand_at args at ∷ [])) → (is_plain_kind (K v) ≡ true) × IsListed v (locals_in (arg_operands args))
  operand_given ws args at v e n p l = on (slice_get args at) refl l
    where
      on : (o : Option Arg) → slice_get args at ≡ o → IsListed v (locals_in (value_or_null o ∷ [])) → (is_plain_kind (K v) ≡ true) × IsListed v (locals_in (arg_operands args))
      on None there h = absurd h
      on (Some a) there h = (scalar_local K (a.value ∷ []) (wanted_scalar ws args at a e n there p, tt) v h, among_args v args at a there h)
