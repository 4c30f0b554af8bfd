-- Lemmas on slots.
use Rattle.std.proofs.Common.{◌≡◌, ℕ, ◌+◌, Bool, true, false, List, [], refl, sym, ap, ◌∙◌, subst}
use Rattle.std.specs.Prelude.{IsTrue, Some, None, is_some, not, option_and_then, option_map, slice_get, ◌||◌, if◌then◌else◌}
use Rattle.rule_laws.specs.ir_base.declared.outcome.Place.{Place}
use Rattle.rule_laws.specs.rule_shape.OneOfEach.{is_missing, wrong_call}
use Rattle.rule_laws.specs.rule_shape.Places.{places_where}
use Rattle.rule_laws.specs.rule_shape.Promise.{is_wrong_promise, promise_operand, slot_of, wrong_promise}
use Rattle.rule_laws.proofs.rules.renamed.Outside.{at_point}
use Rattle.rule_laws.proofs.rules.renamed.Switches.{none_part}
use Rattle.rule_laws.proofs.ir_laws.paths.source_rules.Makers.{HasFrame}
use Rattle.pass_early_proof.proofs.early.source_rules.Makers.{not_frame}
use Rattle.rule_laws.proofs.rules.source_rules.Once.{first_call_at, none_missing, one_id, place_listed, there_is}
use Rattle.rule_laws.specs.flow_solver.Paths.{IsListed}
use Rattle.rule_laws.specs.ir_parts.Locals.{locals_of}
use Rattle.rule_laws.specs.ir_parts.Parts.{instr_place, parts_of, place_if}
use Rattle.ir_model.specs.declared.instr.Instr.{Instr}
use Rattle.ir_model.specs.declared.module.Function.{Function}
use Rattle.ir_model.specs.declared.module.Module.{Module}
use Rattle.ir_model.specs.declared.operand.Arg.{Arg}
use Rattle.ir_model.specs.declared.operand.Intrinsic.{Intrinsic}
use Rattle.ir_model.specs.declared.operand.Operand.{Operand}
use Rattle.rule_laws.specs.ir_paths.Slots.{allocas_of, is_in_args, promise_of}
use Rattle.rule_laws.specs.ir_paths.Windows.{call_operand, instr_at, is_call_of}
use Rattle.rule_laws.specs.ir_paths.declared.point.Point.{Point}
use Rattle.rule_laws.specs.rule_locals.Instrs.{on_instr}
use Rattle.rule_laws.specs.rule_locals.Markers.{first_other_mark, is_marker, marks, marks_otherwise, slot_size}
use Rattle.rule_laws.specs.rule_names.Definitions.{first_twice}
use Rattle.rule_laws.specs.rule_windows.Points.{phi_count}
use Rattle.rule_laws.proofs.ir_laws.facts.Truth.{first_no as first_or_false, holds as not_false}
use Rattle.rule_laws.proofs.rules.plain_rules.Places.{not_placed as none_if}
use Rattle.rule_laws.proofs.rules.source_rules.Slots.{HasAlloca, HasId, MarksNone, alloca_of, found_listed, id_of, lifetime_marker, listed_first, marks_right, of_args, sized_alloca}

module _ (func : ℕ) (f : Function) (coroutine : f.coroutine ≡ true) (calls : wrong_call func f ≡ None) (once : first_twice [] (locals_of func f) ≡ None) where
  alloca_stays : (v : ℕ) → HasAlloca f v → HasFrame f v → ⊥
  alloca_stays v x = not_frame func f once x.point (Instr.Alloca v x.ty x.align) v x.stands refl refl

  promise_named : (v : ℕ) → HasId f v → promise_operand f ≡ Some (Operand.Local v)
  promise_named v x =
      let there = there_is Intrinsic.CoroId f (first_or_false (is_missing Intrinsic.CoroId f) (is_missing Intrinsic.CoroBegin f || is_missing Intrinsic.CoroEnd f) (none_missing func f coroutine calls)) in
      let y = first_call_at f Intrinsic.CoroId there.0 there.1 in
      let both : Some x.instr ≡ Some there.0 = sym x.stands ∙ ap (instr_at f) (one_id func f coroutine calls x.point y.point x.instr there.0 x.stands y.stands x.is_call y.is_call) ∙ y.stands in
      let same : x.instr ≡ there.0 = cc in
      ap (option_map (λ (i : Instr). call_operand i 1)) there.1 ∙ ap Some (ap (λ (i : Instr). call_operand i 1) (sym same) ∙ x.operand)

  promise_slot : (v : ℕ) → wrong_promise func f ≡ None → HasId f v → IsListed v (allocas_of f)
  promise_slot v none x =
      let first = listed_first (places_where (is_call_of Intrinsic.CoroId) func f) _ (place_listed (is_call_of Intrinsic.CoroId) func f x.point x.instr x.stands x.is_call) in
      let wrong : option_and_then (place_if (is_wrong_promise f (promise_operand f))) (slice_get (places_where (is_call_of Intrinsic.CoroId) func f) 0) ≡ None =
      subst (λ (b : Bool). (if b then option_and_then (place_if (is_wrong_promise f (promise_operand f))) (slice_get (places_where (is_call_of Intrinsic.CoroId) func f) 0) else None) ≡ None) coroutine none in
      let right : is_wrong_promise f (promise_operand f) ≡ false = none_if (is_wrong_promise f (promise_operand f)) first.0 (sym (ap (option_and_then (place_if (is_wrong_promise f (promise_operand f)))) first.1) ∙ wrong) in
      let slot : not (is_some (slot_of f v)) ≡ false = sym (ap (is_wrong_promise f) (promise_named v x)) ∙ right in
      found_listed (allocas_of f) v (not_false (is_some (slot_of f v)) slot)

  pub promise : wrong_promise func f ≡ None → (v : ℕ) → promise_of f ≡ Some v → HasFrame f v → ⊥
  promise none v e = alloca_stays v (alloca_of f v (promise_slot v none (id_of f v e)))

module _ (m : Module) (func : ℕ) (f : Function) (once : first_twice [] (locals_of func f) ≡ None) (none : first_other_mark m func f ≡ None) where
  marked_stays : (args : List Arg) (v : ℕ) → marks (slot_size m f) args ≡ true → IsTrue (is_in_args v args) → HasFrame f v → ⊥
  marked_stays args v e h =
      let x = of_args (slot_size m f) v args e h in
      let y = sized_alloca m v x.0 f x.1 in
      not_frame func f once y.point (Instr.Alloca v y.ty y.align) v y.stands refl refl

  of_marker : (p : Place) (i : Instr) → marks_otherwise (slot_size m f) p i ≡ false → MarksNone f i
  of_marker p (Instr.Call result must_tail ty callee args) e = λ lifetime v h. marked_stays args v (marks_right (is_marker callee) (marks (slot_size m f) args) e (lifetime_marker callee lifetime)) h
  of_marker p (Instr.Alloca name ty align) e = tt
  of_marker p (Instr.Binary r op flags ty a b) e = tt
  of_marker p (Instr.Icmp r pred ty a b) e = tt
  of_marker p (Instr.Select r c a b) e = tt
  of_marker p (Instr.Cast r op nneg arg to) e = tt
  of_marker p (Instr.Load r ty q align) e = tt
  of_marker p (Instr.Store arg q align) e = tt
  of_marker p (Instr.Gep r inbounds ty base indices) e = tt

  pub marked : (p : Point) (i : Instr) → instr_at f p ≡ Some i → MarksNone f i
  marked p i e =
      of_marker (instr_place func p.block (phi_count f p.block + p.at)) i
      (at_point (λ x. on_instr (marks_otherwise (slot_size m f)) x.0 x.1 ≡ false) func f p i (none_part (on_instr (marks_otherwise (slot_size m f))) (parts_of func f) none) e)
