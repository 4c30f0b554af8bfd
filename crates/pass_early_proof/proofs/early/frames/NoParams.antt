-- The value of a begin is none of the parameters, in a module that breaks no rule.
use Rattle.std.proofs.Common.{◌≡◌, ℕ, Bool, true, false, length, Some, None, Option, refl, sym, ap, ◌∙◌, subst, arith}
use Rattle.std.specs.Prelude.{option_map, slice_get, unwrap_or, if◌then◌else◌}
use Rattle.pass_early_proof.proofs.early.begin_naming.NamedParts.{call_of_same, instr_same, with_begin}
use Rattle.pass_early_proof.proofs.early.begin_naming.NamedSlots.{begin_unnamed}
use Rattle.rule_laws.specs.rule_shape.OneOfEach.{is_missing}
use Rattle.rule_laws.specs.rule_uses.Undefined.{params_of}
use Rattle.pass_early_proof.specs.early.renaming.Passes.{named_function, named_module}
use Rattle.rule_laws.proofs.frames.alike_crossing.Counted.{named_params}
use Rattle.pass_early_proof.proofs.early.frames.Functions.{changed_there}
use Rattle.pass_early_proof.proofs.early.frames.Modules.{named_stays}
use Rattle.pass_early_proof.specs.early.frames.NoParams.{AreBeginsNoParams}
use Rattle.pass_early.specs.BeginName.{if_unnamed, named_instr, with_begin_name}
use Rattle.pass_early.specs.Early.{renaming_of, renaming_to}
use Rattle.rule_laws.proofs.rules.source_rules.Locals.{no_param}
use Rattle.pass_early_proof.proofs.early.source_rules.Makers.{begin_of, to_is}
use Rattle.rule_laws.proofs.rules.source_rules.Once.{IsCalled, first_call_at, none_missing, there_is}
use Rattle.rule_laws.proofs.rules.source_rules.Order.{IsUnbroken, unbroken}
use Rattle.rule_laws.specs.flow_solver.Paths.{IsListed}
use Rattle.rule_laws.specs.rule_all.Refused.{IsRefused}
use Rattle.ir_model.specs.Calls.{first_result, result_of_call}
use Rattle.ir_model.specs.Names.{function_at, no_function}
use Rattle.ir_model.specs.declared.instr.Instr.{Instr}
use Rattle.ir_model.specs.declared.module.Function.{Function}
use Rattle.ir_model.specs.declared.module.Module.{Module}
use Rattle.ir_model.specs.declared.operand.Callee.{Callee}
use Rattle.ir_model.specs.declared.operand.Intrinsic.{Intrinsic}
use Rattle.rule_laws.specs.ir_paths.Windows.{instr_at, is_call_of}
use Rattle.rule_laws.specs.ir_paths.declared.point.Point.{Point}
use Rattle.rule_laws.specs.rule_names.declared.stage.Stage.{Stage}
use Rattle.rule_laws.specs.ir_laws.facts.sound_states.Named.{AreLocalsNamed, HasNamedLocals}
use Rattle.rule_laws.specs.run_laws.changed.Changed.{result_of}
use Rattle.rule_laws.proofs.ir_laws.facts.Truth.{second_of_three}

-- a begin that gets a name has that name
begin_has : (n : ℕ) (i : Instr) → is_call_of Intrinsic.CoroBegin i ≡ true → (result_of (named_instr n i) ≡ Some n) × (result_of_call Intrinsic.CoroBegin (named_instr n i) ≡ Some n)
begin_has n (Instr.Call result must_tail ty (Callee.Intrinsic Intrinsic.CoroBegin) args) e = (refl, refl)
begin_has n _ e = absurd (cc)

module _ (m : Module) (func : ℕ) (f : Function) (coroutine : f.coroutine ≡ true) (unbroken_is : IsUnbroken m func f) (locals : HasNamedLocals f) where
  abbrev n : ℕ
  n = length f.names

  abbrev g : Function
  g = with_begin (length f.names) f

  has_begin : (i : Instr) × IsCalled f Intrinsic.CoroBegin i
  has_begin =
      let first = there_is Intrinsic.CoroBegin f (second_of_three (is_missing Intrinsic.CoroId f) (is_missing Intrinsic.CoroBegin f) (is_missing Intrinsic.CoroEnd f) (none_missing func f coroutine unbroken_is.calls)) in
      (first.0, first_call_at f Intrinsic.CoroBegin first.0 first.1)

  -- the name that begins get
  name_is : (k : ℕ) → first_result Intrinsic.CoroBegin g ≡ Some k → k ≡ length f.names
  name_is k e = let x = begin_of g k e in on x.point (instr_at f x.point) refl x.instr (sym (instr_same (length f.names) f x.point) ∙ x.stands) x.is_call x.result
    where
      on : (p : Point) (o : Option Instr) → instr_at f p ≡ o → (j : Instr) → option_map (named_instr (length f.names)) (instr_at f p) ≡ Some j → is_call_of Intrinsic.CoroBegin j ≡ true → result_of j ≡ Some k → k ≡ length f.names
      on p None d j s c r = let never = sym (ap (option_map (named_instr (length f.names))) d) ∙ s in absurd (cc)
      on p (Some i) d j s c r =
          let both = sym (ap (option_map (named_instr (length f.names))) d) ∙ s in
          let same : named_instr (length f.names) i ≡ j = cc in
          let begin : is_call_of Intrinsic.CoroBegin i ≡ true = sym (call_of_same (length f.names) Intrinsic.CoroBegin i) ∙ ap (is_call_of Intrinsic.CoroBegin) same ∙ c in
          let named : Some k ≡ Some (length f.names) = sym r ∙ sym (ap result_of same) ∙ (begin_has (length f.names) i begin).0 in
          let is : k ≡ length f.names = cc in
          is

  named_apart : (o : Option ℕ) → first_result Intrinsic.CoroBegin g ≡ o → IsListed (renaming_to g o).to (params_of f) → ⊥
  named_apart (Some k) e l =
      let lt = named_params (length f.names) f.params locals.params k l in
      let is = name_is k e in
      absurd (omega (arith, lt, is))
  named_apart None e l =
      let called = has_begin.1 in
      let stands = instr_same (length f.names) f called.point ∙ ap (option_map (named_instr (length f.names))) called.stands in
      let never = sym (begin_unnamed g e called.point (named_instr (length f.names) has_begin.0) stands) ∙ (begin_has (length f.names) has_begin.0 called.is_call).1 in
      absurd (cc)

  begin_apart : (o : Option ℕ) → first_result Intrinsic.CoroBegin f ≡ o → IsListed (renaming_of (if_unnamed o f)).to (params_of (if_unnamed o f)) → ⊥
  begin_apart None e l = named_apart (first_result Intrinsic.CoroBegin g) refl l
  begin_apart (Some k) e l =
      let x = begin_of f k e in
      no_param func f unbroken_is.locals x.point x.instr k x.stands x.result (subst (λ (v : ℕ). IsListed v (params_of f)) (to_is f k e) l)

  pub no_begin_param : IsListed (renaming_of (with_begin_name f)).to (params_of (with_begin_name f)) → ⊥
  no_begin_param = begin_apart (first_result Intrinsic.CoroBegin f) refl

pub accepted_apart : (m : Module) → IsRefused Stage.Source m None → AreLocalsNamed m → AreBeginsNoParams (named_module m)
accepted_apart m accepted locals func is = on (slice_get m.functions func) refl
  where
    by_none : (o : Option Function) → slice_get m.functions func ≡ None → (function_at m func).coroutine ≡ false
    by_none o e = ap (λ (x : Option Function). (unwrap_or x no_function).coroutine) e

    own : (o : Option Function) → slice_get m.functions func ≡ o → (function_at m func).coroutine ≡ true
    own None e = let none = ap (λ (x : Option Function). (unwrap_or x no_function).coroutine) (Rattle.std.proofs.lemmas.Option.slice_get-map named_function m.functions func ∙ ap (option_map named_function) e) in let never = sym is ∙ none in absurd (cc)
    own (Some f) e =
        let here : function_at (named_module m) func ≡ named_function f = ap (λ (x : Option Function). unwrap_or x no_function) (Rattle.std.proofs.lemmas.Option.slice_get-map named_function m.functions func ∙ ap (option_map named_function) e) in
        ap (λ (x : Option Function). (unwrap_or x no_function).coroutine) e ∙ sym (named_stays f) ∙ ap (λ (h : Function). h.coroutine) (sym here) ∙ is

    on : (o : Option Function) → slice_get m.functions func ≡ o → IsListed (renaming_of (function_at (named_module m) func)).to (params_of (function_at (named_module m) func)) → ⊥
    on None e = let never = sym (own None e) ∙ by_none None e in absurd (cc)
    on (Some f) e =
        let same : f ≡ function_at m func = sym (ap (λ (o : Option Function). unwrap_or o no_function) e) in
        let coroutine = own (Some f) e in
        let there : function_at (named_module m) func ≡ with_begin_name (function_at m func) =
        changed_there named_function m func coroutine ∙ ap (λ (b : Bool). if b then with_begin_name (function_at m func) else function_at m func) coroutine in
        subst (λ (h : Function). IsListed (renaming_of h).to (params_of h) → ⊥) (sym there)
        (no_begin_param m func (function_at m func) coroutine (subst (IsUnbroken m func) same (unbroken m func f accepted e)) (locals func))
