-- A module that breaks none of the rules of modules without coroutines is refused for nothing.
use Rattle.std.proofs.Common.{◌≡◌, ℕ, suc, ◌+◌, Bool, false, List, [], ◌∷◌, refl, ap, sym, ◌∙◌, subst, arith}
use Rattle.std.proofs.lemmas.Bool.{or_parts}
use Rattle.std.specs.Prelude.{None, Option, Some, slice_get, not}
use Rattle.std.specs.List.{list_all}
use Rattle.ir_laws.specs.ir_base.declared.rule.Rule.{Rule}
use Rattle.rule_phis.specs.Edges.{first_wrong_edge}
use Rattle.ir_parts.specs.Contents.{part_operands}
use Rattle.ir_parts.specs.Parts.{Signature, blocks_parts, first_part, function_place, or_place, place_if}
use Rattle.rule_all.specs.Faults.{faults_at, no_faults}
use Rattle.rule_all.specs.Order.{flow_refusal, function_refusal, functions_refusal, items_refusal, or_later, placing_refusal, pointer_refusal, refusal, shape_refusal, value_refusal}
use Rattle.rule_all.specs.Refused.{IsRefused}
use Rattle.rule_all.specs.declared.faults.PathFaults.{PathFaults}
use Rattle.ir_laws.specs.ir_model.declared.module.Function.{Function}
use Rattle.ir_laws.specs.ir_model.declared.module.Module.{Module}
use Rattle.rule_locals.specs.Calls.{first_closed_call}
use Rattle.rule_locals.specs.Entries.{first_late_alloca}
use Rattle.rule_locals.specs.Extents.{first_past_extent, misaligned_globals}
use Rattle.rule_locals.specs.Intrinsics.{first_misplaced, has_coro, is_no_coro}
use Rattle.rule_locals.specs.Markers.{first_other_mark}
use Rattle.rule_locals.specs.Transfers.{first_wrong_transfer}
use Rattle.rule_modules.specs.Order.{module_refusal, or_refusal}
use Rattle.rule_modules.specs.declared.order.Refusal.{Refusal}
use Rattle.rule_names.specs.Definitions.{is_second_function, second_definitions}
use Rattle.rule_names.specs.Items.{first_place}
use Rattle.rule_names.specs.Known.{unknown_names}
use Rattle.rule_names.specs.Reserved.{reserved_names}
use Rattle.rule_names.specs.declared.stage.Stage.{Stage}
use Rattle.rule_laws.proofs.rules.plain_rules.Faults.{have_none, none_at, none_of}
use Rattle.rule_laws.proofs.rules.plain_rules.Places.{first_place_out, no_place_in, no_refusal, none_later, not_placed}
use Rattle.rule_laws.proofs.rules.plain_rules.Sentences.{kept_everywhere}
use Rattle.rule_laws.specs.rules.plain_rules.Items.{KeepsItemRules}
use Rattle.rule_laws.specs.rules.plain_rules.Kept.{AllKeepPlainRules, HasNoCoroutine, KeepsPlainRules}
use Rattle.rule_types.specs.Limits.{limits}
use Rattle.rule_types.specs.Signatures.{other_types}
use Rattle.rule_values.specs.Initials.{wrong_initials}
use Rattle.rule_values.specs.Values.{first_wrong_value}

-- ---- functions

-- a function in which K1 is kept is no coroutine
is_ordinary : (k : ℕ) (f : Function) → first_misplaced Stage.Plain k f ≡ None → f.coroutine ≡ false
is_ordinary k f e = (or_parts f.coroutine (not (list_all is_no_coro (part_operands (Signature f)))) (not_placed (has_coro (function_place k) (Signature f)) (function_place k) (first_place_out (place_if (has_coro (function_place k) (Signature f)) (function_place k)) (first_part has_coro (blocks_parts k 0 f.blocks)) e))).0

function_out : (m : Module) (k : ℕ) (f : Function) → KeepsPlainRules m k f → first_misplaced Stage.Plain k f ≡ None → function_refusal Stage.Plain m k f no_faults ≡ None
unfolding function_refusal value_refusal flow_refusal placing_refusal pointer_refusal shape_refusal
function_out m k f h placed =
    let marks : Option Refusal = or_refusal Rule.K13 (first_other_mark m k f) None in
    let placing : Option Refusal = or_refusal Rule.K1 (first_misplaced Stage.Plain k f) None in
    let third : Option Refusal = or_later placing marks in
    let allocas : Option Refusal = or_refusal Rule.F3 (first_late_alloca k f) None in
    let transfers : Option Refusal = or_refusal Rule.Y5 (first_wrong_transfer Stage.Plain k f) None in
    let extents : Option Refusal = or_refusal Rule.Y4 (first_past_extent Stage.Plain m k f) transfers in
    let closed : Option Refusal = or_refusal Rule.Y3 (first_closed_call m k f) extents in
    none_later (or_refusal Rule.Y1 (first_wrong_value m k f) closed) (or_later (or_refusal Rule.F1 (first_wrong_edge k f) allocas) third)
    (no_refusal Rule.Y1 (first_wrong_value m k f) closed h.values
    (no_refusal Rule.Y3 (first_closed_call m k f) extents h.closed_calls
    (no_refusal Rule.Y4 (first_past_extent Stage.Plain m k f) transfers h.extents (no_refusal Rule.Y5 (first_wrong_transfer Stage.Plain k f) None h.transfers refl))))
    (none_later (or_refusal Rule.F1 (first_wrong_edge k f) allocas) third
    (no_refusal Rule.F1 (first_wrong_edge k f) allocas h.edges (no_refusal Rule.F3 (first_late_alloca k f) None h.allocas refl))
    (none_later placing marks (no_refusal Rule.K1 (first_misplaced Stage.Plain k f) None placed refl) (no_refusal Rule.K13 (first_other_mark m k f) None h.marks refl)))

functions_out : (m : Module) (faults : List PathFaults) → ((k : ℕ) → faults_at faults k ≡ no_faults) → (at : ℕ) (fs : List Function) → ((k : ℕ) (f : Function) → slice_get fs k ≡ Some f → function_refusal Stage.Plain m (at + k) f no_faults ≡ None) → functions_refusal Stage.Plain m faults at fs ≡ None
functions_out m faults none at [] h = refl
functions_out m faults none at (f ∷ fs) h =
    let here : at + 0 ≡ at = omega arith in
    none_later (function_refusal Stage.Plain m at f (faults_at faults at)) (functions_refusal Stage.Plain m faults (at + 1) fs)
    (ap (λ (x : PathFaults). function_refusal Stage.Plain m at f x) (none at) ∙ subst (λ (n : ℕ). function_refusal Stage.Plain m n f no_faults ≡ None) here (h 0 f refl))
    (functions_out m faults none (at + 1) fs (λ k g there. let next : at + suc k ≡ at + 1 + k = omega arith in subst (λ (n : ℕ). function_refusal Stage.Plain m n g no_faults ≡ None) next (h (suc k) g there)))

-- ---- the module

module_out : (m : Module) → KeepsItemRules Stage.Plain m → AllKeepPlainRules m → module_refusal Stage.Plain m ≡ None
module_out m items functions =
    let types : Option Refusal = or_refusal Rule.Y2 (first_place (other_types m) m) None in
    let reserved : Option Refusal = or_refusal Rule.N3 (first_place (reserved_names Stage.Plain m) m) types in
    let known : Option Refusal = or_refusal Rule.N2 (first_place (unknown_names m) m) reserved in
    let definitions : Option Refusal = or_refusal Rule.N1 (first_place (second_definitions m) m) known in
    no_refusal Rule.L1 (first_place (limits Stage.Plain m) m) definitions
    (kept_everywhere (limits Stage.Plain m) m items.depths (λ k f there. (functions k f there).depths))
    (no_refusal Rule.N1 (first_place (second_definitions m) m) known
    (kept_everywhere (second_definitions m) m items.definitions
    (λ k f there. no_place_in (place_if (is_second_function m k f.name) (function_place k)) _ (ap (λ (b : Bool). place_if b (function_place k)) (items.names.once k f there)) (functions k f there).definitions))
    (no_refusal Rule.N2 (first_place (unknown_names m) m) reserved
    (kept_everywhere (unknown_names m) m items.known (λ k f there. (functions k f there).known))
    (no_refusal Rule.N3 (first_place (reserved_names Stage.Plain m) m) types
    (kept_everywhere (reserved_names Stage.Plain m) m items.reserved
    (λ k f there. ap (λ (b : Bool). or_place (place_if b (function_place k)) None) (items.names.free k f there)))
    (no_refusal Rule.Y2 (first_place (other_types m) m) None (kept_everywhere (other_types m) m items.types (λ k f there. (functions k f there).calls)) refl))))

items_out : (m : Module) → KeepsItemRules Stage.Plain m → AllKeepPlainRules m → HasNoCoroutine m → items_refusal Stage.Plain m (none_of m.functions) ≡ None
unfolding items_refusal
items_out m items functions plain =
    let faults : List PathFaults = none_of m.functions in
    let rest : Option Refusal = functions_refusal Stage.Plain m faults 0 m.functions in
    let alignments : Option Refusal = or_refusal Rule.Y4 (first_place misaligned_globals m) rest in
    no_refusal Rule.Y1 (first_place (wrong_initials m) m) alignments (kept_everywhere (wrong_initials m) m items.initials (λ k f there. refl))
    (no_refusal Rule.Y4 (first_place misaligned_globals m) rest (kept_everywhere misaligned_globals m items.alignments (λ k f there. refl))
    (functions_out m faults (none_at m.functions) 0 m.functions
    (λ k f there. let same : k ≡ 0 + k = omega arith in subst (λ (n : ℕ). function_refusal Stage.Plain m n f no_faults ≡ None) same (function_out m k f (functions k f there) (plain k f there)))))

pub accepted : (m : Module) → KeepsItemRules Stage.Plain m → AllKeepPlainRules m → HasNoCoroutine m → IsRefused Stage.Plain m None
unfolding refusal
accepted m items functions plain =
    record {
      faults = none_of m.functions;
      have = have_none m.functions (λ k f there. (is_ordinary k f (plain k f there), (functions k f there).uses));
      is = sym (none_later (module_refusal Stage.Plain m) (items_refusal Stage.Plain m (none_of m.functions)) (module_out m items functions) (items_out m items functions plain));
    }
