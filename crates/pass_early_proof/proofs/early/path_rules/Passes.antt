-- The three passes in a row, function by function.
use Rattle.std.proofs.Common.{◌≡◌, ℕ, Bool, true, false, refl, sym, ap, ◌∙◌, subst}
use Rattle.std.specs.Prelude.{Some, None, Option, slice_get, unwrap_or, if◌then◌else◌}
use Rattle.pass_early_proof.proofs.early.renaming.Composition.{early_in_turn}
use Rattle.pass_early_proof.proofs.early.renaming.Rules.{regular}
use Rattle.pass_early_proof.specs.early.renaming.Passes.{named_function, named_module, renamed_by_its_own, renamed_function, renamed_module}
use Rattle.pass_early_proof.specs.early.renaming.Regular.{AllKeepRules, IsRegular, KeepsRules}
use Rattle.pass_early.specs.BeginName.{begin_named, if_unnamed, with_begin_name}
use Rattle.pass_early.specs.Early.{early_module, renaming_of}
use Rattle.pass_early_proof.proofs.early.meaning.Names.{named_locals, named_uses, renamed_locals, renamed_uses}
use Rattle.rule_laws.proofs.rules.path_rules.KeptValues.{of_kept, to_kept}
use Rattle.pass_early_proof.proofs.early.path_rules.MappedKept.{kept_named, kept_renamed}
use Rattle.pass_early_proof.proofs.early.path_rules.Marked.{marked_saved, of_marked, to_marked}
use Rattle.pass_early_proof.proofs.early.path_rules.NamedCalls.{second_final_named, too_many_named, wrong_call_named, wrong_edge_named, wrong_promise_named}
use Rattle.pass_early_proof.proofs.early.path_rules.NamedEarly.{early_named_too}
use Rattle.pass_early_proof.proofs.early.path_rules.NamedWindows.{alike_named}
use Rattle.rule_laws.proofs.rules.path_rules.Order.{breaks_none}
use Rattle.pass_early_proof.proofs.early.path_rules.OtherEarly.{early_renamed}
use Rattle.pass_early_proof.proofs.early.path_rules.OtherMarked.{marked_named, marked_renamed}
use Rattle.rule_laws.proofs.rules.path_rules.Outside.{of_outside, to_outside}
use Rattle.pass_early_proof.proofs.early.path_rules.Outside.{outside_renamed, outside_saved}
use Rattle.pass_early_proof.proofs.early.path_rules.RenamedCalls.{second_final_renamed, too_many_renamed, wrong_call_renamed}
use Rattle.pass_early_proof.proofs.early.path_rules.RenamedEdges.{wrong_edge_renamed}
use Rattle.pass_early_proof.proofs.early.path_rules.RenamedOperands.{map_was}
use Rattle.pass_early_proof.proofs.early.path_rules.RenamedPromise.{wrong_promise_renamed}
use Rattle.pass_early_proof.proofs.early.path_rules.RenamedSwitches.{wrong_switch_renamed}
use Rattle.pass_early_proof.proofs.early.path_rules.RenamedUses.{undefined_renamed}
use Rattle.pass_early_proof.proofs.early.path_rules.SavedCalls.{second_final_saved, too_many_saved, wrong_call_saved, wrong_promise_saved}
use Rattle.pass_early_proof.proofs.early.path_rules.SavedEarly.{first_early_saved, of_early, to_early}
use Rattle.pass_early_proof.proofs.early.path_rules.SavedEdges.{wrong_edge_saved}
use Rattle.pass_early_proof.proofs.early.path_rules.SavedKept.{kept_saved}
use Rattle.pass_early_proof.proofs.early.path_rules.SavedSwitches.{wrong_switch_saved}
use Rattle.pass_early_proof.proofs.early.path_rules.SavedUses.{undefined_saved}
use Rattle.pass_early_proof.proofs.early.path_rules.SavedWindows.{windows_saved}
use Rattle.pass_early_proof.proofs.early.path_rules.Windows.{alike_renamed}
use Rattle.rule_laws.proofs.rules.path_rules.Windows.{of_window, to_window, windows_alike}
use Rattle.rule_laws.specs.rules.path_rules.Paths.{KeepsPaths}
use Rattle.rule_laws.specs.rules.path_rules.Shape.{KeepsShape}
use Rattle.pass_early_proof.proofs.early.source_rules.Accepted.{all_named_keep}
use Rattle.rule_laws.specs.rules.source_rules.Named.{AreTabled}
use Rattle.rule_laws.specs.rule_all.Refused.{IsRefused}
use Rattle.ir_model.specs.Calls.{first_result}
use Rattle.ir_model.specs.Names.{function_at, no_function}
use Rattle.ir_model.specs.declared.module.Function.{Function}
use Rattle.ir_model.specs.declared.module.Module.{Module}
use Rattle.ir_model.specs.declared.operand.Intrinsic.{Intrinsic}
use Rattle.rule_laws.specs.rule_names.declared.stage.Stage.{Stage}
use Rattle.pass_early_proof.proofs.early.saves.Plain.{plain_stays}
use Rattle.pass_early_proof.specs.early.saves.SavesWritten.{saved_function, saves_written}
use Rattle.rule_laws.specs.ir_laws.paths.expanded.Tokens.{HasNamedTokens}
use Rattle.rule_laws.proofs.ir_laws.paths.named_locals.Names.{tokens_named}
use Rattle.rule_laws.specs.ir_laws.facts.sound_states.Named.{AreLocalsNamed, AreUsesNamed, HasNamedOperands}
use Rattle.rule_laws.proofs.rules.path_rules.Passes.{accepted_paths}

-- ---- one function

module _ (func : ℕ) where
  shape_named : (f : Function) (o : Option ℕ) → first_result Intrinsic.CoroBegin f ≡ o → f.coroutine ≡ true → KeepsShape func f → KeepsRules func (if_unnamed o f) → KeepsShape func (if_unnamed o f)
  shape_named f None e coroutine h rules = record {
    edges = wrong_edge_named func f h.edges;
    calls = wrong_call_named func f e coroutine h.calls;
    switches = rules.switches;
    finals = second_final_named func f h.finals;
    promise = wrong_promise_named func f h.promise;
    suspends = too_many_named func f h.suspends;
  }
  shape_named f (Some n) e coroutine h rules = h

  shape_renamed : (f : Function) → f.coroutine ≡ true → KeepsRules func f → KeepsShape func f → KeepsShape func (renamed_by_its_own f)
  shape_renamed f coroutine rules h =
      let ok : IsRegular f (renaming_of f) = regular func f coroutine rules in
      record {
        edges = wrong_edge_renamed (renaming_of f) func f h.edges;
        calls = wrong_call_renamed (renaming_of f) func f coroutine ok h.calls;
        switches = wrong_switch_renamed (renaming_of f) func f coroutine ok h.switches;
        finals = second_final_renamed (renaming_of f) func f h.finals;
        promise = wrong_promise_renamed (renaming_of f) func f ok h.promise;
        suspends = too_many_renamed (renaming_of f) func f h.suspends;
      }

  shape_saved : (f : Function) → f.coroutine ≡ true → HasNamedTokens f → KeepsShape func f → KeepsShape func (saved_function f)
  shape_saved f coroutine named h = record {
    edges = wrong_edge_saved func f h.edges;
    calls = wrong_call_saved func f coroutine h.calls;
    switches = wrong_switch_saved func f named coroutine h.switches;
    finals = second_final_saved func f h.finals;
    promise = wrong_promise_saved func f named h.promise;
    suspends = too_many_saved func f h.suspends;
  }

-- the function after the first two passes, and after all of them
abbrev pub second : Function → Function
second f = renamed_function (named_function f)

abbrev pub third : Function → Function
third f = saved_function (second f)

pub begin_named_stays : (f : Function) → (with_begin_name f).coroutine ≡ f.coroutine
begin_named_stays f = on (first_result Intrinsic.CoroBegin f)
  where
    on : (o : Option ℕ) → (if_unnamed o f).coroutine ≡ f.coroutine
    on None = refl
    on (Some n) = refl

-- a function that is no coroutine stays, and a coroutine gets all three
pub third_plain : (f : Function) → f.coroutine ≡ false → third f ≡ f
third_plain f e =
    ap (λ (b : Bool). saved_function (renamed_function (if b then with_begin_name f else f))) e
    ∙ ap (λ (b : Bool). saved_function (if b then renamed_by_its_own f else f)) e
    ∙ plain_stays f e

pub named_coroutine : (f : Function) → f.coroutine ≡ true → named_function f ≡ with_begin_name f
named_coroutine f e = ap (λ (b : Bool). if b then with_begin_name f else f) e

pub second_coroutine : (f : Function) → f.coroutine ≡ true → second f ≡ renamed_by_its_own (with_begin_name f)
second_coroutine f e =
    ap renamed_function (named_coroutine f e)
    ∙ ap (λ (b : Bool). if b then renamed_by_its_own (with_begin_name f) else with_begin_name f) (begin_named_stays f ∙ e)

shape_third : (func : ℕ) (f : Function) (b : Bool) → f.coroutine ≡ b → KeepsShape func f → (f.coroutine ≡ true → KeepsRules func (with_begin_name f)) → HasNamedTokens (second f) → KeepsShape func (third f)
shape_third func f false e h rules named = subst (KeepsShape func) (sym (third_plain f e)) h
shape_third func f true e h rules named =
    let first = shape_named func f (first_result Intrinsic.CoroBegin f) refl e h (rules e) in
    let now : (with_begin_name f).coroutine ≡ true = begin_named_stays f ∙ e in
    let two = shape_renamed func (with_begin_name f) now (rules e) first in
    let there : HasNamedTokens (renamed_by_its_own (with_begin_name f)) = subst HasNamedTokens (second_coroutine f e) named in
    subst (λ (x : Function). KeepsShape func (saved_function x)) (sym (second_coroutine f e)) (shape_saved func (renamed_by_its_own (with_begin_name f)) now there two)

-- ---- the rules on paths

module _ (func : ℕ) where
  paths_named : (f : Function) (o : Option ℕ) → first_result Intrinsic.CoroBegin f ≡ o → HasNamedOperands f → f.coroutine ≡ true → KeepsPaths func f → KeepsRules func (if_unnamed o f) → KeepsPaths func (if_unnamed o f)
  paths_named f None e uses coroutine h rules = record {
    undefined_use = rules.undefined_use;
    outside = rules.outside;
    window = to_window func (begin_named f) (windows_alike f (begin_named f) (alike_named f) (of_window func f coroutine h.window));
    kept_value = to_kept func (begin_named f) (kept_named func f e (of_window func f coroutine h.window) (of_kept func f coroutine h.kept_value));
    marked_slot = to_marked func (begin_named f) (marked_named f uses e (of_marked func f coroutine h.marked_slot));
    early_address = to_early func (begin_named f) (early_named_too f uses e (of_early func f coroutine h.early_address));
  }
  paths_named f (Some n) e uses coroutine h rules = h

  paths_renamed : (f : Function) → f.coroutine ≡ true → KeepsRules func f → KeepsPaths func f → KeepsPaths func (renamed_by_its_own f)
  paths_renamed f coroutine rules h =
      let nothing = of_outside func f coroutine rules.outside in
      let ok = regular func f coroutine rules in
      record {
        undefined_use = undefined_renamed (renaming_of f) func f ok nothing rules.params rules.undefined_use;
        outside = to_outside func (renamed_by_its_own f) (outside_renamed (renaming_of f) f nothing);
        window = to_window func (renamed_by_its_own f) (windows_alike f (renamed_by_its_own f) (alike_renamed (renaming_of f) f ok) (of_window func f coroutine h.window));
        kept_value = to_kept func (renamed_by_its_own f) (kept_renamed (renaming_of f) func f ok (of_window func f coroutine h.window) (of_kept func f coroutine h.kept_value));
        marked_slot = to_marked func (renamed_by_its_own f) (marked_renamed (renaming_of f) f ok (of_marked func f coroutine h.marked_slot));
        early_address = to_early func (renamed_by_its_own f) (early_renamed (renaming_of f) f ok (of_early func f coroutine h.early_address));
      }

  paths_saved : (f : Function) → f.coroutine ≡ true → HasNamedTokens f → KeepsPaths func f → KeepsPaths func (saved_function f)
  paths_saved f coroutine named h = record {
    undefined_use = undefined_saved func f h.undefined_use;
    outside = to_outside func (saved_function f) (outside_saved f named (of_outside func f coroutine h.outside));
    window = to_window func (saved_function f) (windows_saved f named (of_window func f coroutine h.window));
    kept_value = to_kept func (saved_function f) (kept_saved f named func (of_window func f coroutine h.window) (of_kept func f coroutine h.kept_value));
    marked_slot = to_marked func (saved_function f) (marked_saved f named (of_marked func f coroutine h.marked_slot));
    early_address = first_early_saved func f coroutine named h.outside h.early_address;
  }

paths_third : (func : ℕ) (f : Function) (b : Bool) → f.coroutine ≡ b → HasNamedOperands f → KeepsPaths func f → (f.coroutine ≡ true → KeepsRules func (with_begin_name f)) → HasNamedTokens (second f) → KeepsPaths func (third f)
paths_third func f false e uses h rules named = subst (KeepsPaths func) (sym (third_plain f e)) h
paths_third func f true e uses h rules named =
    let now : (with_begin_name f).coroutine ≡ true = begin_named_stays f ∙ e in
    let first = paths_named func f (first_result Intrinsic.CoroBegin f) refl uses e h (rules e) in
    let there : HasNamedTokens (renamed_by_its_own (with_begin_name f)) = subst HasNamedTokens (second_coroutine f e) named in
    subst (λ (x : Function). KeepsPaths func (saved_function x)) (sym (second_coroutine f e)) (paths_saved func (renamed_by_its_own (with_begin_name f)) now there (paths_renamed func (with_begin_name f) now (rules e) first))

-- ---- the module

-- what becomes of a function of a module that breaks no rule
pub record Becomes (m : Module) (k : ℕ) (g : Function) : Type 0 where
  pub function : Function
  pub there : slice_get m.functions k ≡ Some function
  pub is : g ≡ third function
  pub rules : function.coroutine ≡ true → KeepsRules k (with_begin_name function)
  pub named : HasNamedTokens (second function)
  pub uses : HasNamedOperands function

function_is : (m : Module) (k : ℕ) (f : Function) → slice_get m.functions k ≡ Some f → function_at m k ≡ f
function_is m k f e = ap (λ (o : Option Function). unwrap_or o no_function) e

pub becomes : (m : Module) → IsRefused Stage.Source m None → AreTabled m → AreLocalsNamed m → AreUsesNamed m → (k : ℕ) (g : Function) → slice_get (early_module m).functions k ≡ Some g → Becomes m k g
becomes m accepted tabled locals uses k g e =
    let all : AllKeepRules (named_module m) = all_named_keep m accepted tabled in
    let now : slice_get (saves_written (renamed_module (named_module m))).functions k ≡ Some g = ap (λ (x : Module). slice_get x.functions k) (sym (early_in_turn m)) ∙ e in
    let c = map_was saved_function (renamed_module (named_module m)).functions k g now in
    let b = map_was renamed_function (named_module m).functions k c.0 c.1.0 in
    let a = map_was named_function m.functions k b.0 b.1.0 in
    let f : Function = a.0 in
    let first : function_at (named_module m) k ≡ named_function f = function_is (named_module m) k b.0 b.1.0 ∙ a.1.1 in
    let two : function_at (renamed_module (named_module m)) k ≡ second f = function_is (renamed_module (named_module m)) k c.0 c.1.0 ∙ b.1.1 ∙ ap renamed_function a.1.1 in
    record {
      function = f;
      there = a.1.0;
      is = c.1.1 ∙ ap saved_function (b.1.1 ∙ ap renamed_function a.1.1);
      rules = λ coroutine.
          let same : function_at (named_module m) k ≡ with_begin_name f = first ∙ named_coroutine f coroutine in
          subst (KeepsRules k) same (all k (ap (λ (x : Function). x.coroutine) same ∙ begin_named_stays f ∙ coroutine));
      uses = subst HasNamedOperands (function_is m k f a.1.0) (uses k).operands;
      named = subst HasNamedTokens two (tokens_named (renamed_module (named_module m)) (renamed_locals (named_module m) (named_locals m locals)) (renamed_uses (named_module m) all (named_uses m uses)) k);
    }

pub early_shape : (m : Module) → IsRefused Stage.Source m None → AreTabled m → AreLocalsNamed m → AreUsesNamed m → (k : ℕ) (g : Function) → slice_get (early_module m).functions k ≡ Some g → KeepsShape k g
early_shape m accepted tabled locals uses k g e =
    let x = becomes m accepted tabled locals uses k g e in
    subst (KeepsShape k) (sym x.is) (shape_third k x.function x.function.coroutine refl ((breaks_none m k x.function accepted x.there).shape) x.rules x.named)

pub early_paths : (m : Module) → IsRefused Stage.Source m None → AreTabled m → AreLocalsNamed m → AreUsesNamed m → (k : ℕ) (g : Function) → slice_get (early_module m).functions k ≡ Some g → KeepsPaths k g
early_paths m accepted tabled locals uses k g e =
    let x = becomes m accepted tabled locals uses k g e in
    subst (KeepsPaths k) (sym x.is) (paths_third k x.function x.function.coroutine refl x.uses (accepted_paths m accepted k x.function x.there) x.rules x.named)
