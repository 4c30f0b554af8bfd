-- A coroutine of a module that breaks no rule keeps what the theorem on the renaming asks.
use Rattle.std.proofs.Common.{◌≡◌, ℕ, Bool, true, false, refl, sym, ap, ◌∙◌, subst}
use Rattle.std.proofs.lemmas.Option.{slice_get-map}
use Rattle.std.specs.Prelude.{Some, None, Option, option_map, slice_get, unwrap_or, if◌then◌else◌}
use Rattle.pass_early_proof.specs.early.renaming.Passes.{named_function, named_module}
use Rattle.pass_early_proof.specs.early.renaming.Regular.{AllKeepRules, KeepsRules}
use Rattle.pass_early.specs.BeginName.{if_unnamed, with_begin_name}
use Rattle.pass_early.specs.Early.{renaming_of}
use Rattle.rule_laws.proofs.rules.source_rules.Locals.{own_label, result_below}
use Rattle.pass_early_proof.proofs.early.source_rules.Makers.{begin_calls, begin_of, frame_calls, params, phis, renamed_frame, stays, to_is}
use Rattle.pass_early_proof.proofs.early.source_rules.NamedFields.{by_marks, keeps_named}
use Rattle.rule_laws.proofs.rules.source_rules.Once.{one_begin}
use Rattle.rule_laws.proofs.rules.source_rules.Order.{IsUnbroken, unbroken}
use Rattle.pass_early_proof.proofs.early.source_rules.Slots.{marked, promise}
use Rattle.pass_early_proof.proofs.early.source_rules.Windows.{dead_behind_save}
use Rattle.rule_laws.specs.rules.source_rules.Named.{AreTabled, HasTabledLocals, HaveNamedBegins}
use Rattle.rule_laws.specs.rule_all.Refused.{IsRefused}
use Rattle.ir_model.specs.Calls.{first_result}
use Rattle.ir_model.specs.Names.{function_at, no_function}
use Rattle.ir_model.specs.declared.instr.Instr.{Instr}
use Rattle.ir_model.specs.declared.module.Function.{Function}
use Rattle.ir_model.specs.declared.module.Module.{Module}
use Rattle.ir_model.specs.declared.operand.Intrinsic.{Intrinsic}
use Rattle.rule_laws.specs.ir_paths.Windows.{instr_at, is_call_of}
use Rattle.rule_laws.specs.ir_paths.declared.point.Point.{Point}
use Rattle.rule_laws.specs.rule_names.declared.stage.Stage.{Stage}
use Rattle.rule_laws.specs.run_laws.changed.Changed.{result_of}
use Rattle.pass_early_proof.proofs.early.frames.Modules.{named_stays as coroutine_same}

module _ (m : Module) (func : ℕ) (f : Function) (coroutine : f.coroutine ≡ true) (h : IsUnbroken m func f) (begin : ℕ) (named : first_result Intrinsic.CoroBegin f ≡ Some begin) where
  -- each begin is the one that has the name
  begins : (p : Point) (i : Instr) → instr_at f p ≡ Some i → is_call_of Intrinsic.CoroBegin i ≡ true → result_of i ≡ Some (renaming_of f).to
  begins p i e is =
      let x = begin_of f begin named in
      let both : Some i ≡ Some x.instr = sym e ∙ ap (instr_at f) (one_begin func f coroutine h.calls p x.point i x.instr e x.stands is x.is_call) ∙ x.stands in
      let same : i ≡ x.instr = cc in
      ap result_of same ∙ x.result ∙ ap Some (sym (to_is f begin named))

  pub keeps : HasTabledLocals func f → KeepsRules func f
  keeps tabled = record {
    undefined_use = h.undefined_use;
    outside = h.outside;
    frame_calls = frame_calls func f h.locals;
    begin_calls = begin_calls func f h.locals begin named;
    begins = begins;
    phis = phis func f h.locals begin named;
    params = params func f h.locals;
    labels = own_label func f h.locals;
    has_begin = let x = begin_of f begin named in result_below func f tabled x.point x.instr (renaming_of f).to x.stands (x.result ∙ ap Some (sym (to_is f begin named)));
    dead_behind_save = λ k s n is pair renamed dead. dead_behind_save func f coroutine h.locals h.calls h.switches h.window h.kept_value k s n is pair (renamed_frame f n renamed) dead;
    switches = h.switches;
    promise = λ v e. stays f v (promise func f coroutine h.calls h.locals h.promise v e);
    marks = λ p i e. by_marks f f (λ v x. x) i (marked m func f h.locals h.marks p i e);
  }

-- a coroutine stands in the module
coroutine_there : (m : Module) (func : ℕ) → (function_at m func).coroutine ≡ true → (f : Function) × ((slice_get m.functions func ≡ Some f) × (f ≡ function_at m func))
coroutine_there m func coroutine = on (slice_get m.functions func) refl
  where
    on : (o : Option Function) → slice_get m.functions func ≡ o → (f : Function) × ((slice_get m.functions func ≡ Some f) × (f ≡ function_at m func))
    on None e = let t : false ≡ true = sym (ap (λ (o : Option Function). (unwrap_or o no_function).coroutine) e) ∙ coroutine in absurd (cc)
    on (Some f) e = (f, (e, sym (ap (λ (o : Option Function). unwrap_or o no_function) e)))

unbroken_there : (m : Module) (func : ℕ) → IsRefused Stage.Source m None → (function_at m func).coroutine ≡ true → IsUnbroken m func (function_at m func)
unbroken_there m func accepted coroutine = let x = coroutine_there m func coroutine in subst (IsUnbroken m func) x.1.1 (unbroken m func x.0 accepted x.1.0)

pub all_keep : (m : Module) → IsRefused Stage.Source m None → AreTabled m → HaveNamedBegins m → AllKeepRules m
all_keep m accepted tabled named func coroutine =
    let begin = named func coroutine in
    keeps m func (function_at m func) coroutine (unbroken_there m func accepted coroutine) begin.0 begin.1 (tabled func coroutine)

-- ---- where begins get names

function_named_at : (m : Module) (func : ℕ) → function_at (named_module m) func ≡ named_function (function_at m func)
function_named_at m func = ap (λ (o : Option Function). unwrap_or o no_function) (slice_get-map named_function m.functions func) ∙ on (slice_get m.functions func)
  where
    on : (o : Option Function) → unwrap_or (option_map named_function o) no_function ≡ named_function (unwrap_or o no_function)
    on None = refl
    on (Some f) = refl

named_keeps : (m : Module) (func : ℕ) (f : Function) → f.coroutine ≡ true → IsUnbroken m func f → HasTabledLocals func f → KeepsRules func (named_function f)
named_keeps m func f coroutine h tabled = subst (λ (b : Bool). KeepsRules func (if b then with_begin_name f else f)) (sym coroutine) (on (first_result Intrinsic.CoroBegin f) refl)
  where
    on : (o : Option ℕ) → first_result Intrinsic.CoroBegin f ≡ o → KeepsRules func (if_unnamed o f)
    on None e = keeps_named m func f coroutine h e tabled
    on (Some n) e = keeps m func f coroutine h n e tabled

pub all_named_keep : (m : Module) → IsRefused Stage.Source m None → AreTabled m → AllKeepRules (named_module m)
all_named_keep m accepted tabled func coroutine =
    let own : (function_at m func).coroutine ≡ true = sym (coroutine_same (function_at m func)) ∙ sym (ap (λ (f : Function). f.coroutine) (function_named_at m func)) ∙ coroutine in
    subst (KeepsRules func) (sym (function_named_at m func)) (named_keeps m func (function_at m func) own (unbroken_there m func accepted own) (tabled func own))
