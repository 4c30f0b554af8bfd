-- A function of a module that isn't refused breaks no rule on edges, on the calls of coroutines, or on paths.
use Rattle.std.proofs.Common.{◌≡◌, ℕ}
use Rattle.std.specs.Prelude.{Some, None, Option, slice_get}
use Rattle.ir_laws.specs.ir_base.declared.rule.Rule.{Rule}
use Rattle.rule_shape.specs.OneOfEach.{wrong_call}
use Rattle.rule_shape.specs.Promise.{wrong_promise}
use Rattle.rule_shape.specs.Suspends.{second_final, suspend_too_many}
use Rattle.rule_shape.specs.Switches.{wrong_switch}
use Rattle.rule_laws.specs.rules.path_rules.Shape.{KeepsShape}
use Rattle.rule_laws.proofs.rules.source_rules.Order.{first_later, first_refused, pass_of, second_later, second_refused}
use Rattle.rule_phis.specs.Edges.{first_wrong_edge}
use Rattle.rule_all.specs.Faults.{AreFaultsOf}
use Rattle.rule_all.specs.Order.{flow_refusal, frame_refusal, function_refusal, or_later, parts_refusal, placing_refusal, shape_refusal, slots_refusal, standing_refusal, value_refusal}
use Rattle.rule_all.specs.Refused.{IsRefused}
use Rattle.rule_all.specs.declared.faults.PathFaults.{PathFaults}
use Rattle.ir_laws.specs.ir_model.declared.module.Function.{Function}
use Rattle.ir_laws.specs.ir_model.declared.module.Module.{Module}
use Rattle.rule_locals.specs.Entries.{first_late_alloca}
use Rattle.rule_locals.specs.Markers.{first_other_mark}
use Rattle.rule_modules.specs.Order.{or_refusal}
use Rattle.rule_modules.specs.declared.order.Refusal.{Refusal}
use Rattle.rule_names.specs.declared.stage.Stage.{Stage}

-- ---- the rules of one function

-- the rules on paths have no fault
pub record HasNoFault (x : PathFaults) : Type 0 where
  pub undefined_use : x.undefined_use ≡ None
  pub outside : x.outside ≡ None
  pub window : x.window ≡ None
  pub kept_value : x.kept_value ≡ None
  pub marked_slot : x.marked_slot ≡ None
  pub early_address : x.early_address ≡ None

in_flow : (k : ℕ) (f : Function) (x : PathFaults) → flow_refusal k f x ≡ None → (first_wrong_edge k f ≡ None) × (x.undefined_use ≡ None)
unfolding flow_refusal
in_flow k f x e =
    let later : Option Refusal = or_refusal Rule.F2 x.undefined_use (or_refusal Rule.F3 (first_late_alloca k f) None) in
    (first_refused Rule.F1 (first_wrong_edge k f) later e, first_refused Rule.F2 x.undefined_use (or_refusal Rule.F3 (first_late_alloca k f) None) (second_refused Rule.F1 (first_wrong_edge k f) later e))

in_parts : (k : ℕ) (f : Function) → parts_refusal k f ≡ None → (wrong_call k f ≡ None) × (wrong_switch k f ≡ None) × (second_final k f ≡ None)
unfolding parts_refusal
in_parts k f e =
    let last : Option Refusal = or_refusal Rule.K4 (second_final k f) None in
    let rest = second_refused Rule.K2 (wrong_call k f) (or_refusal Rule.K3 (wrong_switch k f) last) e in
    (first_refused Rule.K2 (wrong_call k f) (or_refusal Rule.K3 (wrong_switch k f) last) e, first_refused Rule.K3 (wrong_switch k f) last rest, first_refused Rule.K4 (second_final k f) None (second_refused Rule.K3 (wrong_switch k f) last rest))

in_standing : (x : PathFaults) → standing_refusal x ≡ None → (x.outside ≡ None) × (x.window ≡ None) × (x.kept_value ≡ None)
unfolding standing_refusal
in_standing x e =
    let values : Option Refusal = or_refusal Rule.K7 x.kept_value None in
    let rest = second_refused Rule.K5 x.outside (or_refusal Rule.K6 x.window values) e in
    (first_refused Rule.K5 x.outside (or_refusal Rule.K6 x.window values) e, first_refused Rule.K6 x.window values rest, first_refused Rule.K7 x.kept_value None (second_refused Rule.K6 x.window values rest))

in_slots : (x : PathFaults) → slots_refusal x ≡ None → (x.marked_slot ≡ None) × (x.early_address ≡ None)
unfolding slots_refusal
in_slots x e =
    let last : Option Refusal = or_refusal Rule.K9 x.early_address None in
    (first_refused Rule.K8 x.marked_slot last e, first_refused Rule.K9 x.early_address None (second_refused Rule.K8 x.marked_slot last e))

in_frame : (k : ℕ) (f : Function) → frame_refusal k f ≡ None → (wrong_promise k f ≡ None) × (suspend_too_many k f ≡ None)
unfolding frame_refusal
in_frame k f e =
    let last : Option Refusal = or_refusal Rule.K11 (suspend_too_many k f) None in
    (first_refused Rule.K10 (wrong_promise k f) last e, first_refused Rule.K11 (suspend_too_many k f) None (second_refused Rule.K10 (wrong_promise k f) last e))

in_function : (m : Module) (k : ℕ) (f : Function) (x : PathFaults) → function_refusal Stage.Source m k f x ≡ None → KeepsShape k f × HasNoFault x
unfolding function_refusal shape_refusal
in_function m k f x e =
    let last : Option Refusal = or_refusal Rule.K13 (first_other_mark m k f) None in
    let behind : Option Refusal = or_later (slots_refusal x) (frame_refusal k f) in
    let shape : Option Refusal = or_later (parts_refusal k f) (or_later (standing_refusal x) behind) in
    let flow = second_later (value_refusal Stage.Source m k f) (or_later (flow_refusal k f x) (or_later (placing_refusal Stage.Source m k f) (or_later shape last))) e in
    let placing = second_later (flow_refusal k f x) (or_later (placing_refusal Stage.Source m k f) (or_later shape last)) flow in
    let shapes = first_later shape last (second_later (placing_refusal Stage.Source m k f) (or_later shape last) placing) in
    let standing = second_later (parts_refusal k f) (or_later (standing_refusal x) behind) shapes in
    let slots = second_later (standing_refusal x) behind standing in
    let by_flow = in_flow k f x (first_later (flow_refusal k f x) (or_later (placing_refusal Stage.Source m k f) (or_later shape last)) flow) in
    let by_parts = in_parts k f (first_later (parts_refusal k f) (or_later (standing_refusal x) behind) shapes) in
    let by_standing = in_standing x (first_later (standing_refusal x) behind standing) in
    let by_slots = in_slots x (first_later (slots_refusal x) (frame_refusal k f) slots) in
    let by_frame = in_frame k f (second_later (slots_refusal x) (frame_refusal k f) slots) in (
      record { edges = by_flow.0; calls = by_parts.0; switches = by_parts.1; finals = by_parts.2; promise = by_frame.0; suspends = by_frame.1 },
      record { undefined_use = by_flow.1; outside = by_standing.0; window = by_standing.1; kept_value = by_standing.2; marked_slot = by_slots.0; early_address = by_slots.1 },
    )

-- the faults of a function of the module, of which there are none, and its shape
pub record BreaksNone (k : ℕ) (f : Function) : Type 0 where
  pub shape : KeepsShape k f
  pub faults : PathFaults
  pub are : AreFaultsOf k f faults
  pub none : HasNoFault faults

pub breaks_none : (m : Module) (k : ℕ) (f : Function) → IsRefused Stage.Source m None → slice_get m.functions k ≡ Some f → BreaksNone k f
breaks_none m k f h there =
    let x = pass_of m k f h there in
    let all = in_function m k f x.faults x.passed in
    record { shape = all.0; faults = x.faults; are = x.are; none = all.1 }
