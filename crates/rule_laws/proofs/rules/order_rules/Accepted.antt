-- What a plain module that is refused for nothing tells of its functions: none breaks a rule, and none is a coroutine.
use Rattle.std.proofs.Common.{◌≡◌, ℕ, zero, suc, ◌+◌, ◌<◌, List, [], ◌∷◌, length, refl, sym, subst, arith, Option, Some, None}
use Rattle.std.proofs.lemmas.Option.{slice_get_within}
use Rattle.std.specs.Prelude.{slice_get, unwrap_or}
use Rattle.ir_laws.specs.ir_base.declared.rule.Rule.{Rule}
use Rattle.rule_uses.specs.Undefined.{IsFirstUndefined}
use Rattle.rule_uses.specs.Uses.{uses_of}
use Rattle.rule_phis.specs.Edges.{first_wrong_edge}
use Rattle.rule_laws.proofs.rules.plain_rules.Places.{both_later}
use Rattle.rule_laws.proofs.rules.local_rules.Accepted.{both_refused}
use Rattle.rule_laws.proofs.rules.local_rules.Rules.{second_out as second_place_out}
use Rattle.rule_laws.proofs.rules.plain_rules.Sentences.{kept_by_functions}
use Rattle.rule_laws.proofs.rules.plain_rules.Told.{IsModuleLeft, in_module}
use Rattle.rule_laws.specs.rules.plain_rules.Kept.{AllKeepPlainRules, HasNoCoroutine}
use Rattle.ir_parts.specs.Locals.{locals_of}
use Rattle.ir_parts.specs.Parts.{function_place, place_if}
use Rattle.rule_all.specs.Faults.{HaveFaults, faults_at, no_faults}
use Rattle.rule_all.specs.Order.{flow_refusal, function_refusal, functions_refusal, items_refusal, or_later, placing_refusal, pointer_refusal, refusal, shape_refusal, value_refusal}
use Rattle.rule_all.specs.Refused.{IsRefused}
use Rattle.rule_all.specs.declared.faults.PathFaults.{PathFaults}
use Rattle.ir_laws.specs.ir_model.declared.module.Function.{Function}
use Rattle.ir_laws.specs.ir_model.declared.module.Module.{Module}
use Rattle.rule_locals.specs.Calls.{first_closed_call}
use Rattle.rule_locals.specs.Entries.{first_late_alloca}
use Rattle.rule_locals.specs.Extents.{first_past_extent, misaligned_globals}
use Rattle.rule_locals.specs.Intrinsics.{first_misplaced}
use Rattle.rule_locals.specs.Markers.{first_other_mark}
use Rattle.rule_locals.specs.Transfers.{first_wrong_transfer}
use Rattle.rule_modules.specs.Order.{module_refusal, or_refusal}
use Rattle.rule_modules.specs.declared.order.Refusal.{Refusal}
use Rattle.rule_names.specs.Definitions.{first_twice, is_second_function, second_definitions}
use Rattle.rule_names.specs.Items.{first_place}
use Rattle.rule_names.specs.Known.{unknown_names}
use Rattle.rule_names.specs.declared.stage.Stage.{Stage}
use Rattle.rule_types.specs.Limits.{limits}
use Rattle.rule_types.specs.Signatures.{other_types}
use Rattle.rule_values.specs.Initials.{wrong_initials}
use Rattle.rule_values.specs.Values.{first_wrong_value}

-- ---- one function

-- Y1, Y3, Y4, Y5, F1, F2, F3, K1 and K13 have no fault in a function
record IsFunctionLeft (m : Module) (k : ℕ) (f : Function) (x : PathFaults) : Type 0 where
  values : first_wrong_value m k f ≡ None
  closed_calls : first_closed_call m k f ≡ None
  extents : first_past_extent Stage.Plain m k f ≡ None
  transfers : first_wrong_transfer Stage.Plain k f ≡ None
  edges : first_wrong_edge k f ≡ None
  undefined_use : x.undefined_use ≡ None
  allocas : first_late_alloca k f ≡ None
  placed : first_misplaced Stage.Plain k f ≡ None
  marks : first_other_mark m k f ≡ None

in_function : (m : Module) (k : ℕ) (f : Function) (x : PathFaults) → function_refusal Stage.Plain m k f x ≡ None → IsFunctionLeft m k f x
unfolding function_refusal value_refusal flow_refusal placing_refusal pointer_refusal shape_refusal
in_function m k f x e =
    let marks : Option Refusal = or_refusal Rule.K13 (first_other_mark m k f) None in
    let placing : Option Refusal = or_refusal Rule.K1 (first_misplaced Stage.Plain k f) None in
    let allocas : Option Refusal = or_refusal Rule.F3 (first_late_alloca k f) None in
    let uses : Option Refusal = or_refusal Rule.F2 x.undefined_use allocas in
    let transfers : Option Refusal = or_refusal Rule.Y5 (first_wrong_transfer Stage.Plain k f) None in
    let extents : Option Refusal = or_refusal Rule.Y4 (first_past_extent Stage.Plain m k f) transfers in
    let closed : Option Refusal = or_refusal Rule.Y3 (first_closed_call m k f) extents in
    let flow : Option Refusal = or_refusal Rule.F1 (first_wrong_edge k f) uses in
    let a = both_later (or_refusal Rule.Y1 (first_wrong_value m k f) closed) (or_later flow (or_later placing marks)) e in
    let b = both_later flow (or_later placing marks) a.1 in
    let c = both_later placing marks b.1 in
    let y1 = both_refused Rule.Y1 (first_wrong_value m k f) closed a.0 in
    let y3 = both_refused Rule.Y3 (first_closed_call m k f) extents y1.1 in
    let y4 = both_refused Rule.Y4 (first_past_extent Stage.Plain m k f) transfers y3.1 in
    let f1 = both_refused Rule.F1 (first_wrong_edge k f) uses b.0 in
    let f2 = both_refused Rule.F2 x.undefined_use allocas f1.1 in
    record {
      values = y1.0;
      closed_calls = y3.0;
      extents = y4.0;
      transfers = (both_refused Rule.Y5 (first_wrong_transfer Stage.Plain k f) None y4.1).0;
      edges = f1.0;
      undefined_use = f2.0;
      allocas = (both_refused Rule.F3 (first_late_alloca k f) None f2.1).0;
      placed = (both_refused Rule.K1 (first_misplaced Stage.Plain k f) None c.0).0;
      marks = (both_refused Rule.K13 (first_other_mark m k f) None c.1).0;
    }

in_functions : (m : Module) (faults : List PathFaults) (at : ℕ) (fs : List Function) (k : ℕ) (f : Function) → functions_refusal Stage.Plain m faults at fs ≡ None → slice_get fs k ≡ Some f → function_refusal Stage.Plain m (at + k) f (faults_at faults (at + k)) ≡ None
in_functions m faults at [] k f e there = absurd (cc)
in_functions m faults at (g ∷ fs) zero f e there =
    let same : at ≡ at + 0 = omega arith in
    let is_one : g ≡ f = cc in
    subst (λ (n : ℕ). function_refusal Stage.Plain m n f (faults_at faults n) ≡ None) same
    (subst (λ (x : Function). function_refusal Stage.Plain m at x (faults_at faults at) ≡ None) is_one (both_later (function_refusal Stage.Plain m at g (faults_at faults at)) (functions_refusal Stage.Plain m faults (at + 1) fs) e).0)
in_functions m faults at (g ∷ fs) (suc k) f e there =
    let same : at + 1 + k ≡ at + suc k = omega arith in
    subst (λ (n : ℕ). function_refusal Stage.Plain m n f (faults_at faults n) ≡ None) same
    (in_functions m faults (at + 1) fs k f (both_later (function_refusal Stage.Plain m at g (faults_at faults at)) (functions_refusal Stage.Plain m faults (at + 1) fs) e).1 there)

-- ---- F2

behind_end : {A : Type 0} (xs : List A) (k : ℕ) → slice_get xs k ≡ None → k < length xs → ⊥
behind_end [] k e low = absurd (omega arith)
behind_end (x ∷ xs) zero e low = absurd (cc)
behind_end (x ∷ xs) (suc k) e low = behind_end xs k e (omega arith)

uses_defined : (fs : List Function) (faults : List PathFaults) (k : ℕ) (f : Function) → HaveFaults fs faults → slice_get fs k ≡ Some f → (faults_at faults k).undefined_use ≡ None → IsFirstUndefined f (uses_of k f) None
uses_defined fs faults k f h there none = on (slice_get faults k) refl none
  where
    on : (o : Option PathFaults) → slice_get faults k ≡ o → (unwrap_or o no_faults).undefined_use ≡ None → IsFirstUndefined f (uses_of k f) None
    on None e d =
        let low : k < length fs = slice_get_within fs k f there in
        let many : length faults ≡ length fs = h.as_many in
        absurd (behind_end faults k e (omega arith))
    on (Some x) e d = subst (IsFirstUndefined f (uses_of k f)) d (h.each k f x there e).undefined_use

-- ---- the module

module _ (m : Module) (h : IsRefused Stage.Plain m None) where
  refused : (module_refusal Stage.Plain m ≡ None) × (items_refusal Stage.Plain m h.faults ≡ None)
  unfolding refusal
  refused = both_later (module_refusal Stage.Plain m) (items_refusal Stage.Plain m h.faults) (sym h.is)

  in_items : functions_refusal Stage.Plain m h.faults 0 m.functions ≡ None
  unfolding items_refusal
  in_items =
      let rest : Option Refusal = functions_refusal Stage.Plain m h.faults 0 m.functions in
      let a = both_refused Rule.Y1 (first_place (wrong_initials m) m) (or_refusal Rule.Y4 (first_place misaligned_globals m) rest) refused.1 in
      (both_refused Rule.Y4 (first_place misaligned_globals m) rest a.1).1

  of_module : IsModuleLeft Stage.Plain m
  of_module = in_module Stage.Plain m refused.0

  of_function : (k : ℕ) (f : Function) → slice_get m.functions k ≡ Some f → IsFunctionLeft m k f (faults_at h.faults k)
  of_function k f there =
      let same : 0 + k ≡ k = omega arith in
      in_function m k f (faults_at h.faults k)
      (subst (λ (n : ℕ). function_refusal Stage.Plain m n f (faults_at h.faults n) ≡ None) same (in_functions m h.faults 0 m.functions k f in_items there))

  pub rules_of_accepted : AllKeepPlainRules m
  rules_of_accepted k f there =
      let x = of_function k f there in
      record {
        definitions = second_place_out (place_if (is_second_function m k f.name) (function_place k)) (first_twice [] (locals_of k f)) (kept_by_functions (second_definitions m) m of_module.definitions k f there);
        known = kept_by_functions (unknown_names m) m of_module.known k f there;
        depths = kept_by_functions (limits Stage.Plain m) m of_module.depths k f there;
        calls = kept_by_functions (other_types m) m of_module.types k f there;
        values = x.values;
        closed_calls = x.closed_calls;
        extents = x.extents;
        transfers = x.transfers;
        edges = x.edges;
        uses = uses_defined m.functions h.faults k f h.have there x.undefined_use;
        allocas = x.allocas;
        marks = x.marks;
      }

  pub no_coroutine_of_accepted : HasNoCoroutine m
  no_coroutine_of_accepted k f there = (of_function k f there).placed
