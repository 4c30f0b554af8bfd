-- What no rule breaks in the functions of a module that isn't refused.
use Rattle.std.proofs.Common.{◌≡◌, ℕ, zero, suc, ◌+◌, List, [], ◌∷◌, length, refl, sym, ap, subst, arith}
use Rattle.std.specs.Prelude.{Some, None, Option, slice_get, unwrap_or}
use Rattle.ir_laws.specs.ir_base.declared.outcome.Item.{Item}
use Rattle.ir_laws.specs.ir_base.declared.outcome.Place.{Place}
use Rattle.ir_laws.specs.ir_base.declared.rule.Rule.{Rule}
use Rattle.rule_shape.specs.OneOfEach.{wrong_call}
use Rattle.rule_shape.specs.Promise.{wrong_promise}
use Rattle.rule_shape.specs.Suspends.{second_final, suspend_too_many}
use Rattle.rule_shape.specs.Switches.{wrong_switch}
use Rattle.rule_uses.specs.Undefined.{IsFirstUndefined}
use Rattle.rule_uses.specs.Uses.{uses_of}
use Rattle.rule_phis.specs.Edges.{first_wrong_edge}
use Rattle.ir_parts.specs.Locals.{locals_of}
use Rattle.ir_parts.specs.Parts.{function_place, or_place, place_if}
use Rattle.rule_all.specs.Faults.{AreFaultsOf, faults_at, no_faults}
use Rattle.rule_all.specs.Order.{flow_refusal, frame_refusal, function_refusal, functions_refusal, items_refusal, or_later, parts_refusal, placing_refusal, refusal, shape_refusal, slots_refusal, standing_refusal, value_refusal}
use Rattle.rule_all.specs.Refused.{IsRefused}
use Rattle.rule_all.specs.declared.faults.PathFaults.{PathFaults}
use Rattle.ir_laws.specs.ir_model.declared.module.Function.{Function}
use Rattle.ir_laws.specs.ir_model.declared.module.Module.{Module}
use Rattle.rule_locals.specs.Extents.{misaligned_globals}
use Rattle.rule_locals.specs.Entries.{first_late_alloca}
use Rattle.rule_locals.specs.Markers.{first_other_mark}
use Rattle.rule_modules.specs.Order.{module_refusal, or_refusal}
use Rattle.rule_modules.specs.declared.order.Refusal.{Refusal}
use Rattle.rule_names.specs.Definitions.{first_second, first_twice, is_second_function, second_definitions}
use Rattle.rule_names.specs.Items.{Sentence, first_function, first_item, first_place}
use Rattle.rule_names.specs.Known.{unknown_names}
use Rattle.rule_names.specs.Reserved.{reserved_names}
use Rattle.rule_names.specs.declared.stage.Stage.{Stage}
use Rattle.rule_types.specs.Limits.{limits}
use Rattle.rule_types.specs.Signatures.{other_types}
use Rattle.rule_values.specs.Initials.{wrong_initials}
use Rattle.rule_windows.specs.Outside.{IsFirstOutside}
use Rattle.rule_windows.specs.Windows.{IsFirstWindow}
use Rattle.rule_all.specs.rule_window_values.Kept.{IsFirstKept}
use Rattle.rule_laws.proofs.rules.local_rules.Rules.{second_out as second_placed}
use Rattle.rule_laws.proofs.rules.local_rules.Sources.{of_functions}

-- no rule is broken in the function: N1 among its locals, F2, K2, K3, K5, K6, K7, K10 and K13
pub record IsUnbroken (m : Module) (k : ℕ) (f : Function) : Type 0 where
  pub locals : first_twice [] (locals_of k f) ≡ None
  pub undefined_use : IsFirstUndefined f (uses_of k f) None
  pub calls : wrong_call k f ≡ None
  pub switches : wrong_switch k f ≡ None
  pub outside : IsFirstOutside k f None
  pub window : IsFirstWindow k f None
  pub kept_value : IsFirstKept k f None
  pub promise : wrong_promise k f ≡ None
  pub marks : first_other_mark m k f ≡ None

-- ---- the first that there is

pub first_later : (a b : Option Refusal) → or_later a b ≡ None → a ≡ None
first_later None b e = refl
first_later (Some r) b e = absurd (cc)

pub second_later : (a b : Option Refusal) → or_later a b ≡ None → b ≡ None
second_later None b e = e
second_later (Some r) b e = absurd (cc)

pub first_refused : (rule : Rule) (o : Option Place) (b : Option Refusal) → or_refusal rule o b ≡ None → o ≡ None
first_refused rule None b e = refl
first_refused rule (Some p) b e = absurd (cc)

pub second_refused : (rule : Rule) (o : Option Place) (b : Option Refusal) → or_refusal rule o b ≡ None → b ≡ None
second_refused rule None b e = e
second_refused rule (Some p) b e = absurd (cc)

-- ---- the rules of one function

in_flow : (k : ℕ) (f : Function) (x : PathFaults) → flow_refusal k f x ≡ None → x.undefined_use ≡ None
unfolding flow_refusal
in_flow k f x e =
    let rest = second_refused Rule.F1 (first_wrong_edge k f) (or_refusal Rule.F2 x.undefined_use (or_refusal Rule.F3 (first_late_alloca k f) None)) e in
    first_refused Rule.F2 x.undefined_use (or_refusal Rule.F3 (first_late_alloca k f) None) rest

in_parts : (k : ℕ) (f : Function) → parts_refusal k f ≡ None → (wrong_call k f ≡ None) × (wrong_switch k f ≡ None)
unfolding parts_refusal
in_parts k f e =
    let rest = second_refused Rule.K2 (wrong_call k f) (or_refusal Rule.K3 (wrong_switch k f) (or_refusal Rule.K4 (second_final k f) None)) e in
    (first_refused Rule.K2 (wrong_call k f) (or_refusal Rule.K3 (wrong_switch k f) (or_refusal Rule.K4 (second_final k f) None)) e, first_refused Rule.K3 (wrong_switch k f) (or_refusal Rule.K4 (second_final k f) None) rest)

in_standing : (x : PathFaults) → standing_refusal x ≡ None → (x.outside ≡ None) × (x.window ≡ None) × (x.kept_value ≡ None)
unfolding standing_refusal
in_standing x e =
    let windows = second_refused Rule.K5 x.outside (or_refusal Rule.K6 x.window (or_refusal Rule.K7 x.kept_value None)) e in
    let values = second_refused Rule.K6 x.window (or_refusal Rule.K7 x.kept_value None) windows in
    (first_refused Rule.K5 x.outside (or_refusal Rule.K6 x.window (or_refusal Rule.K7 x.kept_value None)) e, first_refused Rule.K6 x.window (or_refusal Rule.K7 x.kept_value None) windows, first_refused Rule.K7 x.kept_value None values)

in_frame : (k : ℕ) (f : Function) → frame_refusal k f ≡ None → wrong_promise k f ≡ None
unfolding frame_refusal
in_frame k f e = first_refused Rule.K10 (wrong_promise k f) (or_refusal Rule.K11 (suspend_too_many k f) None) e

-- what no rule breaks in a function that isn't refused, by its path faults
record IsLeft (m : Module) (k : ℕ) (f : Function) (x : PathFaults) : Type 0 where
  flow : flow_refusal k f x ≡ None
  parts : parts_refusal k f ≡ None
  standing : standing_refusal x ≡ None
  frame : frame_refusal k f ≡ None
  marks : first_other_mark m k f ≡ None

in_function : (m : Module) (k : ℕ) (f : Function) (x : PathFaults) → function_refusal Stage.Source m k f x ≡ None → IsLeft m k f x
unfolding function_refusal shape_refusal
in_function m k f x e =
    let last : Option Refusal = or_refusal Rule.K13 (first_other_mark m k f) None in
    let shape : Option Refusal = or_later (parts_refusal k f) (or_later (standing_refusal x) (or_later (slots_refusal x) (frame_refusal k f))) in
    let flow = second_later (value_refusal Stage.Source m k f) (or_later (flow_refusal k f x) (or_later (placing_refusal Stage.Source m k f) (or_later shape last))) e in
    let placing = second_later (flow_refusal k f x) (or_later (placing_refusal Stage.Source m k f) (or_later shape last)) flow in
    let shaped = second_later (placing_refusal Stage.Source m k f) (or_later shape last) placing in
    let shapes : shape ≡ None = first_later shape last shaped in
    let standing = second_later (parts_refusal k f) (or_later (standing_refusal x) (or_later (slots_refusal x) (frame_refusal k f))) shapes in
    let slots = second_later (standing_refusal x) (or_later (slots_refusal x) (frame_refusal k f)) standing in
    record {
      flow = first_later (flow_refusal k f x) (or_later (placing_refusal Stage.Source m k f) (or_later shape last)) flow;
      parts = first_later (parts_refusal k f) (or_later (standing_refusal x) (or_later (slots_refusal x) (frame_refusal k f))) shapes;
      standing = first_later (standing_refusal x) (or_later (slots_refusal x) (frame_refusal k f)) standing;
      frame = second_later (slots_refusal x) (frame_refusal k f) slots;
      marks = first_refused Rule.K13 (first_other_mark m k f) None (second_later shape last shaped);
    }

in_functions : (m : Module) (faults : List PathFaults) (at : ℕ) (fs : List Function) (k : ℕ) (f : Function) → functions_refusal Stage.Source m faults at fs ≡ None → slice_get fs k ≡ Some f → function_refusal Stage.Source m (at + k) f (faults_at faults (at + k)) ≡ None
in_functions m faults at [] k f e there = absurd (cc)
in_functions m faults at (g ∷ fs) zero f e there =
    let same : at ≡ at + 0 = omega arith in
    let is_one : g ≡ f = cc in
    subst (λ (n : ℕ). function_refusal Stage.Source m n f (faults_at faults n) ≡ None) same
    (subst (λ (x : Function). function_refusal Stage.Source m at x (faults_at faults at) ≡ None) is_one (first_later (function_refusal Stage.Source m at g (faults_at faults at)) (functions_refusal Stage.Source m faults (at + 1) fs) e))
in_functions m faults at (g ∷ fs) (suc k) f e there =
    let same : at + 1 + k ≡ at + suc k = omega arith in
    subst (λ (n : ℕ). function_refusal Stage.Source m n f (faults_at faults n) ≡ None) same
    (in_functions m faults (at + 1) fs k f (second_later (function_refusal Stage.Source m at g (faults_at faults at)) (functions_refusal Stage.Source m faults (at + 1) fs) e) there)

in_items : (m : Module) (faults : List PathFaults) → items_refusal Stage.Source m faults ≡ None → functions_refusal Stage.Source m faults 0 m.functions ≡ None
unfolding items_refusal
in_items m faults e =
    let fs = functions_refusal Stage.Source m faults 0 m.functions in
    second_refused Rule.Y4 (first_place misaligned_globals m) fs (second_refused Rule.Y1 (first_place (wrong_initials m) m) (or_refusal Rule.Y4 (first_place misaligned_globals m) fs) e)

-- ---- the rules of the whole module

in_module : (m : Module) → module_refusal Stage.Source m ≡ None → first_place (second_definitions m) m ≡ None
in_module m e =
    let later : Option Refusal = or_refusal Rule.N2 (first_place (unknown_names m) m) (or_refusal Rule.N3 (first_place (reserved_names Stage.Source m) m) (or_refusal Rule.Y2 (first_place (other_types m) m) None)) in
    first_refused Rule.N1 (first_place (second_definitions m) m) later (second_refused Rule.L1 (first_place (limits Stage.Source m) m) (or_refusal Rule.N1 (first_place (second_definitions m) m) later) e)

in_place : (s : Sentence) (m : Module) (a b c : Option Place) → or_place a (or_place b (or_place c (first_function s.in_function 0 m.functions))) ≡ None → first_function s.in_function 0 m.functions ≡ None
in_place s m a b c e =
    let fs = first_function s.in_function 0 m.functions in
    second_placed c fs (second_placed b (or_place c fs) (second_placed a (or_place b (or_place c fs)) e))

locals_apart : (m : Module) (k : ℕ) (f : Function) → module_refusal Stage.Source m ≡ None → slice_get m.functions k ≡ Some f → first_twice [] (locals_of k f) ≡ None
locals_apart m k f e there =
    let sentence : Sentence = second_definitions m in
    let fs : first_function (first_second m) 0 m.functions ≡ None = in_place sentence m (first_item Item.Type sentence.on_type 0 m.types) (first_item Item.Global sentence.on_global 0 m.globals) (first_item Item.Declaration sentence.on_declaration 0 m.declarations) (in_module m e) in
    let same : 0 + k ≡ k = omega arith in
    let own : first_second m k f ≡ None = subst (λ (n : ℕ). first_second m n f ≡ None) same (of_functions (first_second m) 0 m.functions k f fs there) in
    second_placed (place_if (is_second_function m k f.name) (function_place k)) (first_twice [] (locals_of k f)) own

-- ---- a module that isn't refused

as_many : {A B : Type 0} (xs : List A) (ys : List B) (k : ℕ) (x : A) → length ys ≡ length xs → slice_get xs k ≡ Some x → (y : B) × (slice_get ys k ≡ Some y)
as_many [] ys k x e there = absurd (cc)
as_many (z ∷ xs) [] k x e there = absurd (omega (arith, e))
as_many (z ∷ xs) (y ∷ ys) zero x e there = (y, refl)
as_many (z ∷ xs) (y ∷ ys) (suc k) x e there = as_many xs ys k x (omega (arith, e)) there

by_faults : (m : Module) (k : ℕ) (f : Function) (x : PathFaults) → first_twice [] (locals_of k f) ≡ None → AreFaultsOf k f x → IsLeft m k f x → IsUnbroken m k f
by_faults m k f x locals faults left =
    let parts = in_parts k f left.parts in
    let standing = in_standing x left.standing in
    record {
      locals = locals;
      undefined_use = subst (IsFirstUndefined f (uses_of k f)) (in_flow k f x left.flow) faults.undefined_use;
      calls = parts.0;
      switches = parts.1;
      outside = subst (IsFirstOutside k f) standing.0 faults.outside;
      window = subst (IsFirstWindow k f) standing.1 faults.window;
      kept_value = subst (IsFirstKept k f) standing.2 faults.kept_value;
      promise = in_frame k f left.frame;
      marks = left.marks;
    }

in_order : (m : Module) (faults : List PathFaults) → refusal Stage.Source m faults ≡ None → (module_refusal Stage.Source m ≡ None) × (items_refusal Stage.Source m faults ≡ None)
unfolding refusal
in_order m faults e = (first_later (module_refusal Stage.Source m) (items_refusal Stage.Source m faults) e, second_later (module_refusal Stage.Source m) (items_refusal Stage.Source m faults) e)

-- the faults of a function by paths, with which it isn't refused
pub record IsPassed (m : Module) (k : ℕ) (f : Function) : Type 0 where
  pub faults : PathFaults
  pub are : AreFaultsOf k f faults
  pub passed : function_refusal Stage.Source m k f faults ≡ None

pub pass_of : (m : Module) (k : ℕ) (f : Function) → IsRefused Stage.Source m None → slice_get m.functions k ≡ Some f → IsPassed m k f
pass_of m k f h there =
    let order = in_order m h.faults (sym h.is) in
    let x = as_many m.functions h.faults k f h.have.as_many there in
    let same : 0 + k ≡ k = omega arith in
    let own : function_refusal Stage.Source m k f (faults_at h.faults k) ≡ None =
    subst (λ (n : ℕ). function_refusal Stage.Source m n f (faults_at h.faults n) ≡ None) same (in_functions m h.faults 0 m.functions k f (in_items m h.faults order.1) there) in
    record {
      faults = x.0;
      are = h.have.each k f x.0 there x.1;
      passed = subst (λ (y : PathFaults). function_refusal Stage.Source m k f y ≡ None) (ap (λ (o : Option PathFaults). unwrap_or o no_faults) x.1) own;
    }

pub unbroken : (m : Module) (k : ℕ) (f : Function) → IsRefused Stage.Source m None → slice_get m.functions k ≡ Some f → IsUnbroken m k f
unbroken m k f h there =
    let x = pass_of m k f h there in
    by_faults m k f x.faults (locals_apart m k f (in_order m h.faults (sym h.is)).0 there) x.are (in_function m k f x.faults x.passed)
