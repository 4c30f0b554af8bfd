-- A source that is not refused breaks none of the rules that speak of no paths.
use Rattle.std.proofs.Common.{◌≡◌, ℕ, List, refl, sym}
use Rattle.std.specs.Prelude.{None, Option, Some}
use Rattle.ir_laws.specs.ir_base.declared.outcome.Place.{Place}
use Rattle.ir_laws.specs.ir_base.declared.rule.Rule.{Rule}
use Rattle.rule_laws.specs.rules.local_rules.Local.{BreaksNoLocalRule, BreaksNoLocalRuleIn}
use Rattle.rule_laws.proofs.rules.source_rules.Order.{pass_of}
use Rattle.rule_phis.specs.Edges.{first_wrong_edge}
use Rattle.rule_all.specs.Order.{flow_refusal, function_refusal, functions_refusal, items_refusal, or_later, placing_refusal, pointer_refusal, refusal, shape_refusal, value_refusal}
use Rattle.rule_all.specs.Refused.{IsRefused}
use Rattle.rule_all.specs.declared.faults.PathFaults.{PathFaults}
use Rattle.ir_laws.specs.ir_model.declared.module.Function.{Function}
use Rattle.ir_laws.specs.ir_model.declared.module.Module.{Module}
use Rattle.rule_locals.specs.Addresses.{first_function_pointer}
use Rattle.rule_locals.specs.Calls.{first_closed_call}
use Rattle.rule_locals.specs.Entries.{first_late_alloca}
use Rattle.rule_locals.specs.Extents.{first_past_extent, misaligned_globals}
use Rattle.rule_locals.specs.Intrinsics.{first_misplaced}
use Rattle.rule_locals.specs.Markers.{first_other_mark}
use Rattle.rule_locals.specs.Transfers.{first_wrong_transfer}
use Rattle.rule_modules.specs.Order.{module_refusal, or_refusal}
use Rattle.rule_modules.specs.declared.order.Refusal.{Refusal}
use Rattle.rule_names.specs.Definitions.{second_definitions}
use Rattle.rule_names.specs.Items.{first_place}
use Rattle.rule_names.specs.Known.{unknown_names}
use Rattle.rule_names.specs.Reserved.{reserved_names}
use Rattle.rule_names.specs.declared.stage.Stage.{Stage}
use Rattle.rule_types.specs.Limits.{limits}
use Rattle.rule_types.specs.Signatures.{other_types}
use Rattle.rule_values.specs.Initials.{wrong_initials}
use Rattle.rule_values.specs.Values.{first_wrong_value}
use Rattle.rule_laws.proofs.rules.plain_rules.Places.{both_later}

pub both_refused : (rule : Rule) (o : Option Place) (b : Option Refusal) → or_refusal rule o b ≡ None → (o ≡ None) × (b ≡ None)
both_refused rule None b e = (refl, e)
both_refused rule (Some p) b e = absurd (cc)

-- ---- the rules of one function

in_values : (m : Module) (k : ℕ) (f : Function) → value_refusal Stage.Source m k f ≡ None → (first_wrong_value m k f ≡ None) × (first_closed_call m k f ≡ None) × (first_past_extent Stage.Source m k f ≡ None) × (first_wrong_transfer Stage.Source k f ≡ None)
unfolding value_refusal
in_values m k f e =
    let fourth : Option Refusal = or_refusal Rule.Y5 (first_wrong_transfer Stage.Source k f) None in
    let third : Option Refusal = or_refusal Rule.Y4 (first_past_extent Stage.Source m k f) fourth in
    let second : Option Refusal = or_refusal Rule.Y3 (first_closed_call m k f) third in
    let a = both_refused Rule.Y1 (first_wrong_value m k f) second e in
    let b = both_refused Rule.Y3 (first_closed_call m k f) third a.1 in
    let c = both_refused Rule.Y4 (first_past_extent Stage.Source m k f) fourth b.1 in
    let d = both_refused Rule.Y5 (first_wrong_transfer Stage.Source k f) None c.1 in
    (a.0, b.0, c.0, d.0)

in_flow : (k : ℕ) (f : Function) (x : PathFaults) → flow_refusal k f x ≡ None → first_late_alloca k f ≡ None
unfolding flow_refusal
in_flow k f x e =
    let third : Option Refusal = or_refusal Rule.F3 (first_late_alloca k f) None in
    let second : Option Refusal = or_refusal Rule.F2 x.undefined_use third in
    (both_refused Rule.F3 (first_late_alloca k f) None (both_refused Rule.F2 x.undefined_use third (both_refused Rule.F1 (first_wrong_edge k f) second e).1).1).0

in_placing : (m : Module) (k : ℕ) (f : Function) → placing_refusal Stage.Source m k f ≡ None → (first_function_pointer m k f ≡ None) × (first_misplaced Stage.Source k f ≡ None)
unfolding placing_refusal pointer_refusal
in_placing m k f e =
    let both = both_later (or_refusal Rule.P1 (first_function_pointer m k f) None) (or_refusal Rule.K1 (first_misplaced Stage.Source k f) None) e in
    ((both_refused Rule.P1 (first_function_pointer m k f) None both.0).0, (both_refused Rule.K1 (first_misplaced Stage.Source k f) None both.1).0)

in_function : (m : Module) (k : ℕ) (f : Function) (x : PathFaults) → function_refusal Stage.Source m k f x ≡ None → BreaksNoLocalRuleIn m k f
unfolding function_refusal
in_function m k f x e =
    let last : Option Refusal = or_refusal Rule.K13 (first_other_mark m k f) None in
    let fourth : Option Refusal = or_later (shape_refusal Stage.Source k f x) last in
    let third : Option Refusal = or_later (placing_refusal Stage.Source m k f) fourth in
    let second : Option Refusal = or_later (flow_refusal k f x) third in
    let a = both_later (value_refusal Stage.Source m k f) second e in
    let b = both_later (flow_refusal k f x) third a.1 in
    let c = both_later (placing_refusal Stage.Source m k f) fourth b.1 in
    let d = both_later (shape_refusal Stage.Source k f x) last c.1 in
    let values = in_values m k f a.0 in
    let placing = in_placing m k f c.0 in
    record {
      values = values.0;
      closed_calls = values.1;
      extents = values.2;
      transfers = values.3;
      allocas = in_flow k f x b.0;
      function_pointers = placing.0;
      misplaced = placing.1;
      marks = (both_refused Rule.K13 (first_other_mark m k f) None d.1).0;
    }

-- ---- the rules of the whole module

record IsModuleLeft (m : Module) : Type 0 where
  definitions : first_place (second_definitions m) m ≡ None
  known : first_place (unknown_names m) m ≡ None
  types : first_place (other_types m) m ≡ None

in_module : (m : Module) → module_refusal Stage.Source m ≡ None → IsModuleLeft m
in_module m e =
    let fourth : Option Refusal = or_refusal Rule.Y2 (first_place (other_types m) m) None in
    let third : Option Refusal = or_refusal Rule.N3 (first_place (reserved_names Stage.Source m) m) fourth in
    let second : Option Refusal = or_refusal Rule.N2 (first_place (unknown_names m) m) third in
    let first : Option Refusal = or_refusal Rule.N1 (first_place (second_definitions m) m) second in
    let a = both_refused Rule.L1 (first_place (limits Stage.Source m) m) first e in
    let b = both_refused Rule.N1 (first_place (second_definitions m) m) second a.1 in
    let c = both_refused Rule.N2 (first_place (unknown_names m) m) third b.1 in
    let d = both_refused Rule.N3 (first_place (reserved_names Stage.Source m) m) fourth c.1 in
    let y = both_refused Rule.Y2 (first_place (other_types m) m) None d.1 in
    record { definitions = b.0; known = c.0; types = y.0 }

record AreItemsLeft (m : Module) (faults : List PathFaults) : Type 0 where
  initials : first_place (wrong_initials m) m ≡ None
  alignments : first_place misaligned_globals m ≡ None

in_items : (m : Module) (faults : List PathFaults) → items_refusal Stage.Source m faults ≡ None → AreItemsLeft m faults
unfolding items_refusal
in_items m faults e =
    let fs : Option Refusal = functions_refusal Stage.Source m faults 0 m.functions in
    let a = both_refused Rule.Y1 (first_place (wrong_initials m) m) (or_refusal Rule.Y4 (first_place misaligned_globals m) fs) e in
    let b = both_refused Rule.Y4 (first_place misaligned_globals m) fs a.1 in
    record { initials = a.0; alignments = b.0 }

pub accepted_breaks_none : (m : Module) → IsRefused Stage.Source m None → BreaksNoLocalRule m
unfolding refusal
accepted_breaks_none m h =
    let both = both_later (module_refusal Stage.Source m) (items_refusal Stage.Source m h.faults) (sym h.is) in
    let of_module = in_module m both.0 in
    let items = in_items m h.faults both.1 in
    record {
      definitions = of_module.definitions;
      known = of_module.known;
      types = of_module.types;
      initials = items.initials;
      alignments = items.alignments;
      functions = λ k f there. let x = pass_of m k f h there in in_function m k f x.faults x.passed;
    }
