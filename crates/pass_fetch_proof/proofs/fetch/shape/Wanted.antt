-- The operands of the calls by which a function is a coroutine: tokens, begin's value, null and constants.
use Rattle.std.proofs.Common.{◌≡◌, ℕ, zero, suc, Bool, true, false, List, [], ◌∷◌, refl, sym, ap, ◌∙◌, subst}
use Rattle.std.specs.List.{list_all}
use Rattle.std.specs.Prelude.{Some, None, Option, option_and_then, slice_get, if◌then◌else◌, ◌&&◌, ◌||◌}
use Rattle.pass_edges_proof.proofs.rule_laws.rules.counted.PartFacts.{all_at}
use Rattle.pass_edges_proof.specs.ir_calls.Calls.{is_null, is_value}
use Rattle.pass_edges_proof.proofs.ir_laws.facts.Truth.{equal_numbers, and_first, and_second}
use Rattle.pass_fetch_proof.specs.fetch.rules.Fetches.{AreUnfetched}
use Rattle.pass_edges_proof.specs.ir_parts.Contents.{arg_operands}
use Rattle.ir_model.specs.Calls.{or_else}
use Rattle.ir_model.specs.Names.{is_local, same_intrinsic}
use Rattle.ir_model.specs.Ty.{Ty, token}
use Rattle.ir_model.specs.declared.operand.Arg.{Arg}
use Rattle.ir_model.specs.declared.operand.Callee.{Callee}
use Rattle.ir_model.specs.declared.operand.Intrinsic.{Intrinsic}
use Rattle.ir_model.specs.declared.operand.Operand.{Operand}
use Rattle.pass_edges_proof.specs.ir_paths.Windows.{operand_at}
use Rattle.pass_edges_proof.specs.run_laws.changed.Changed.{Each}
use Rattle.pass_edges_proof.specs.rule_types.Signatures.{are_wanted}
use Rattle.pass_edges_proof.specs.rule_types.Wants.{any, intrinsic_params, is_basic, is_token, meets, want}
use Rattle.pass_edges_proof.specs.rule_types.declared.wants.Basic.{Basic}
use Rattle.pass_edges_proof.specs.rule_types.declared.wants.Demand.{Demand}
use Rattle.pass_edges_proof.specs.rule_types.declared.wants.Wanted.{Wanted}
use Rattle.pass_edges_proof.specs.pass_fetch.Fetching.{fetch_of}
use Rattle.pass_edges_proof.specs.pass_fetch.declared.fetch.Fetch.{Fetch}
use Rattle.pass_edges_proof.specs.rule_values.Fits.{fits, fits_arg, fits_kind}
use Rattle.pass_edges_proof.specs.rule_values.Instrs.{is_passed, passes}
use Rattle.pass_edges_proof.specs.rule_values.declared.kinds.Kind.{Kind}
use Rattle.pass_edges_proof.proofs.rule_laws.rules.woven_shape.Found.{found, made}
use Rattle.pass_edges_proof.proofs.rule_laws.rules.woven_shape.OneOfEach.{right_of}
use Rattle.pass_edges_proof.specs.rule_laws.rules.woven_shape.Calls.{ShapingCall, first_named, is_shaping, second_named}

-- ---- arguments as the table of intrinsics wants them

pub record IsWantedAt (w : Wanted) (args : List Arg) (n : ℕ) : Type 0 where
  pub arg : Arg
  pub there : slice_get args n ≡ Some arg
  pub operand : operand_at args n ≡ arg.value
  pub basic : is_basic w.ty arg.ty ≡ true
  pub met : meets w.value arg.value ≡ true

pub wanted_at : (ws : List Wanted) (args : List Arg) → are_wanted ws args ≡ true → (n : ℕ) (w : Wanted) → slice_get ws n ≡ Some w → IsWantedAt w args n
wanted_at [] args e n w d = absurd (cc)
wanted_at (v ∷ ws) [] e n w d = absurd (cc)
wanted_at (v ∷ ws) (a ∷ args) e zero w d =
    let one : v ≡ w = cc in
    let both : (is_basic v.ty a.ty && meets v.value a.value) ≡ true = and_first (is_basic v.ty a.ty && meets v.value a.value) (are_wanted ws args) e in
    subst (λ (x : Wanted). IsWantedAt x (a ∷ args) zero) one
    (record { arg = a; there = refl; operand = refl; basic = and_first (is_basic v.ty a.ty) (meets v.value a.value) both; met = and_second (is_basic v.ty a.ty) (meets v.value a.value) both })
wanted_at (v ∷ ws) (a ∷ args) e (suc n) w d =
    let x = wanted_at ws args (and_second (is_basic v.ty a.ty && meets v.value a.value) (are_wanted ws args) e) n w d in
    record { arg = x.arg; there = x.there; operand = x.operand; basic = x.basic; met = x.met }

all_wanted : (P : Operand → Type 0) (ws : List Wanted) (args : List Arg) → are_wanted ws args ≡ true → ((n : ℕ) (w : Wanted) (a : Arg) → slice_get ws n ≡ Some w → slice_get args n ≡ Some a → meets w.value a.value ≡ true → P a.value) → Each P (arg_operands args)
all_wanted P [] [] e h = tt
all_wanted P [] (a ∷ args) e h = absurd (cc)
all_wanted P (w ∷ ws) [] e h = absurd (cc)
all_wanted P (w ∷ ws) (a ∷ args) e h =
    let both : (is_basic w.ty a.ty && meets w.value a.value) ≡ true = and_first (is_basic w.ty a.ty && meets w.value a.value) (are_wanted ws args) e in (
      h 0 w a refl refl (and_second (is_basic w.ty a.ty) (meets w.value a.value) both),
      all_wanted P ws args (and_second (is_basic w.ty a.ty && meets w.value a.value) (are_wanted ws args) e) (λ n v b d c m. h (suc n) v b d c m),
    )

operand_there : (args : List Arg) (n : ℕ) (a : Arg) → slice_get args n ≡ Some a → operand_at args n ≡ a.value
operand_there [] n a e = absurd (cc)
operand_there (b ∷ args) zero a e = let one : b ≡ a = cc in ap (λ (x : Arg). x.value) one
operand_there (b ∷ args) (suc n) a e = operand_there args n a e

-- ---- the first begin

pub found_made : (x : Intrinsic) (cs : List ShapingCall) (r : ℕ) → option_and_then (λ (o : Option ℕ). o) (found x cs) ≡ Some r → made x cs ≡ Some r
found_made x [] r e = absurd (cc)
found_made x (c ∷ cs) r e = on (same_intrinsic x c.intrinsic) e (found_made x cs r)
  where
    on : (t : Bool) → option_and_then (λ (o : Option ℕ). o) (if t then Some c.result else found x cs) ≡ Some r → (option_and_then (λ (o : Option ℕ). o) (found x cs) ≡ Some r → made x cs ≡ Some r) → or_else (if t then c.result else None) (made x cs) ≡ Some r
    on true h rest = ap (λ (o : Option ℕ). or_else o (made x cs)) h
    on false h rest = rest h

-- ---- what is never fetched

module _ (t : List (Option Fetch)) where
  abbrev IsFree : Operand → Type 0
  IsFree x = fetch_of t x ≡ None

  local_free : (r : ℕ) (x : Operand) → is_local r x ≡ true → IsFree (Operand.Local r) → IsFree x
  local_free r (Operand.Local n) e h = ap (λ (v : ℕ). fetch_of t (Operand.Local v)) (sym (equal_numbers r n e)) ∙ h
  local_free r _ e h = absurd (cc)

  null_free : (x : Operand) → is_null x ≡ true → IsFree x
  null_free Operand.Null e = refl
  null_free _ e = absurd (cc)

  value_free : (frame : Option ℕ) → ((r : ℕ) → frame ≡ Some r → IsFree (Operand.Local r)) → (x : Operand) → is_value frame x ≡ true → IsFree x
  value_free None h x e = absurd (cc)
  value_free (Some r) h x e = local_free r x e (h r refl)

  null_or_value : (frame : Option ℕ) → ((r : ℕ) → frame ≡ Some r → IsFree (Operand.Local r)) → (x : Operand) → (is_null x || is_value frame x) ≡ true → IsFree x
  null_or_value frame h x = on (is_null x) refl
    where
      on : (b : Bool) → is_null x ≡ b → (b || is_value frame x) ≡ true → IsFree x
      on true e d = null_free x e
      on false e d = value_free frame h x d

  flag_free : (x : Operand) → meets Demand.Flag x ≡ true → IsFree x
  flag_free (Operand.Local v) e = absurd (cc)
  flag_free _ e = refl

  false_free : (x : Operand) → meets Demand.False x ≡ true → IsFree x
  false_free (Operand.Local v) e = absurd (cc)
  false_free _ e = refl

  none_free : (x : Operand) → meets Demand.None x ≡ true → IsFree x
  none_free (Operand.Local v) e = absurd (cc)
  none_free _ e = refl

  token_is : (ty : Ty) → is_token ty ≡ true → ty ≡ token
  token_is token e = refl
  token_is _ e = absurd (cc)

  -- ---- a call

  pub record IsHeldCall (x : Intrinsic) (args : List Arg) : Type 0 where
    pub first : IsFree (first_named x args)
    pub second : IsFree (second_named x args)
    pub all : same_intrinsic Intrinsic.CoroEnd x ≡ true → AreUnfetched t (arg_operands args)

  module _ (kinds : ℕ → Option Kind) (tokens : (v : ℕ) → fits_kind (kinds v) token ≡ true → IsFree (Operand.Local v)) (given frame : Option ℕ) (begins : (r : ℕ) → frame ≡ Some r → IsFree (Operand.Local r)) where
    fits_free : (x : Operand) → fits kinds token x ≡ true → IsFree x
    fits_free (Operand.Local v) e = tokens v e
    fits_free _ e = refl

    token_free : (a : Arg) → is_token a.ty ≡ true → fits_arg kinds a ≡ true → IsFree a.value
    token_free a e h = fits_free a.value (subst (λ (ty : Ty). fits kinds ty a.value ≡ true) (token_is a.ty e) h)

    module _ (x : Intrinsic) (args : List Arg) (wanted : are_wanted (intrinsic_params x) args ≡ true) (all_fit : list_all (passes kinds (Callee.Intrinsic x)) args ≡ true) where
      token_at : (n : ℕ) → slice_get (intrinsic_params x) n ≡ Some (any Basic.Token) → IsFree (operand_at args n)
      token_at n e =
          let y = wanted_at (intrinsic_params x) args wanted n (any Basic.Token) e in
          let fit : passes kinds (Callee.Intrinsic x) y.arg ≡ true = all_at (passes kinds (Callee.Intrinsic x)) args all_fit n y.arg y.there in
          ap (fetch_of t) y.operand ∙ token_free y.arg y.basic (and_second (is_passed (Callee.Intrinsic x) y.arg.ty) (fits_arg kinds y.arg) fit)

      flag_at : (n : ℕ) → slice_get (intrinsic_params x) n ≡ Some (want Basic.I1 Demand.Flag) → IsFree (operand_at args n)
      flag_at n e = let y = wanted_at (intrinsic_params x) args wanted n (want Basic.I1 Demand.Flag) e in ap (fetch_of t) y.operand ∙ flag_free y.arg.value y.met

    end_free : (args : List Arg) → are_wanted (intrinsic_params Intrinsic.CoroEnd) args ≡ true → IsFree (operand_at args 0) → AreUnfetched t (arg_operands args)
    end_free args wanted h = all_wanted IsFree (intrinsic_params Intrinsic.CoroEnd) args wanted each
      where
        each : (n : ℕ) (w : Wanted) (a : Arg) → slice_get (intrinsic_params Intrinsic.CoroEnd) n ≡ Some w → slice_get args n ≡ Some a → meets w.value a.value ≡ true → IsFree a.value
        each zero w a d c m = ap (fetch_of t) (sym (operand_there args 0 a c)) ∙ h
        each (suc zero) w a d c m = let one : want Basic.I1 Demand.False ≡ w = cc in false_free a.value (subst (λ (x : Wanted). meets x.value a.value ≡ true) (sym one) m)
        each (suc (suc zero)) w a d c m = let one : want Basic.Token Demand.None ≡ w = cc in none_free a.value (subst (λ (x : Wanted). meets x.value a.value ≡ true) (sym one) m)
        each (suc (suc (suc n))) w a d c m = absurd (cc)

    pub held_call : (x : Intrinsic) (args : List Arg) (leads : Bool) → is_shaping x ≡ true → are_wanted (intrinsic_params x) args ≡ true → list_all (passes kinds (Callee.Intrinsic x)) args ≡ true → right_of given frame leads x (first_named x args) (second_named x args) ≡ true → IsHeldCall x args
    held_call Intrinsic.CoroId args leads s w p r = record { first = refl; second = refl; all = λ e. absurd (cc) }
    held_call Intrinsic.CoroAlloc args leads s w p r = record { first = token_at Intrinsic.CoroAlloc args w p 0 refl; second = refl; all = λ e. absurd (cc) }
    held_call Intrinsic.CoroBegin args leads s w p r = record { first = token_at Intrinsic.CoroBegin args w p 0 refl; second = refl; all = λ e. absurd (cc) }
    held_call Intrinsic.CoroFree args leads s w p r =
        record {
          first = token_at Intrinsic.CoroFree args w p 0 refl;
          second = value_free frame begins (operand_at args 1) (and_second (is_value given (operand_at args 0)) (is_value frame (operand_at args 1)) r);
          all = λ e. absurd (cc);
        }
    held_call Intrinsic.CoroFrame args leads s w p r = record { first = refl; second = refl; all = λ e. absurd (cc) }
    held_call Intrinsic.CoroSave args leads s w p r = record { first = null_or_value frame begins (operand_at args 0) r; second = refl; all = λ e. absurd (cc) }
    held_call Intrinsic.CoroSuspend args leads s w p r = record { first = token_at Intrinsic.CoroSuspend args w p 0 refl; second = flag_at Intrinsic.CoroSuspend args w p 1 refl; all = λ e. absurd (cc) }
    held_call Intrinsic.CoroEnd args leads s w p r =
        let first_free : IsFree (operand_at args 0) = null_or_value frame begins (operand_at args 0) (and_second leads (is_null (operand_at args 0) || is_value frame (operand_at args 0)) r) in
        record { first = first_free; second = refl; all = λ e. end_free args w first_free }
    held_call _ args leads s w p r = absurd (cc)
