-- At saves and suspends it stays known what activations have by their calls.
use Rattle.std.proofs.Common.{◌≡◌, ◌∙◌, ap, Bool, Err, false, inl, inr, length, List, not, Ok, Option, refl, Result, true, ℕ}
use Rattle.std.specs.Prelude.{None, Some, negsuc, slice_get}
use Rattle.pass_elide_kept.specs.Steps.{GoesStill, SavesAt, StandsAtCall}
use Rattle.pass_elide_proof.proofs.CallersEdges.{status_was}
use Rattle.pass_elide_proof.proofs.CallersInstr.{was_itself}
use Rattle.pass_elide_proof.proofs.CallersKnown.{KnownIf, next_known}
use Rattle.pass_elide_proof.proofs.CallersStay.{top_known}
use Rattle.pass_elide_proof.proofs.CallersValues.{result_elsewhere}
use Rattle.pass_elide_proof.proofs.LeftWindows.{own_there}
use Rattle.pass_elide_proof.specs.Callers.{WasBefore, saves_by}
use Rattle.pass_elide_proof.specs.CallersStack.{AreCalled}
use Rattle.pass_elide_proof.specs.Elision.{Elision, elided, function_in}
use Rattle.pass_elide_proof.specs.Match.{instance_in}
use Rattle.pass_elide_proof.specs.pass_proofs.ir_base.declared.cause.Cause.{Cause}
use Rattle.pass_elide_proof.specs.pass_proofs.ir_model.Ty.{Ty}
use Rattle.pass_elide_proof.specs.pass_proofs.ir_model.declared.instr.Instr.{Instr}
use Rattle.pass_elide_proof.specs.pass_proofs.ir_model.declared.operand.Arg.{Arg}
use Rattle.pass_elide_proof.specs.pass_proofs.ir_model.declared.operand.Callee.{Callee}
use Rattle.pass_elide_proof.specs.pass_proofs.ir_model.declared.operand.Intrinsic.{Intrinsic}
use Rattle.pass_elide_proof.specs.pass_proofs.ir_model.declared.operand.Operand.{Operand}
use Rattle.pass_elide_proof.specs.pass_proofs.ir_paths.Windows.{operand_at, suspend_of}
use Rattle.pass_elide_proof.specs.pass_proofs.ir_paths.declared.point.Point.{Point}
use Rattle.pass_elide_proof.specs.pass_proofs.run_framed.Framed.{begin_name, framed_next, framed_step}
use Rattle.pass_elide_proof.specs.pass_proofs.run_memory.declared.pointer.Value.{Value}
use Rattle.pass_elide_proof.specs.pass_proofs.run_source.Source.{save, save_for, suspend}
use Rattle.pass_elide_proof.specs.pass_proofs.run_source.State.{function_of, gives, next, own_instance, point_of, with_instance, with_left}
use Rattle.pass_elide_proof.specs.pass_proofs.run_source.declared.state.Instance.{Instance}
use Rattle.pass_elide_proof.specs.pass_proofs.run_source.declared.state.State.{State}
use Rattle.pass_elide_proof.specs.pass_proofs.run_source.declared.state.Status.{Status}
use Rattle.pass_elide_proof.specs.pass_proofs.run_step.Results.{and_then, found, ok_if}
use Rattle.pass_elide_proof.specs.pass_proofs.run_step.Step.{AtInstr}
use Rattle.pass_elide_proof.specs.pass_proofs.run_step.Values.{integer}

module _ (e : Elision) (t : State) (h : AreCalled e t) (at : ℕ) (result : Option ℕ) (must_tail : Bool)
    (ty : Option Ty) (args : List Arg)
    (apart : (v : ℕ) → begin_name (function_in e t.top.func) ≡ Some v → result ≡ Some v → ⊥) where
  abbrev call_by : Intrinsic → Instr
  call_by j = Instr.Call result must_tail ty (Callee.Intrinsic j) args

  abbrev Kept : Intrinsic → Type 0
  Kept j = KnownIf e (framed_next (elided e) t (AtInstr (call_by j)))

  given : (v : Value) → AreCalled e (gives t result v)
  given v =
      top_known e t h (gives t result v) refl refl refl refl refl (was_itself t.instances)
      (λ u is. result_elsewhere t.top.values result v u (apart u is))

  abbrev asleep : Point → Point → Instance → Instance
  asleep save suspend x =
      record x {
        status = Status.Suspended suspend t.top.values;
        last_save = Some (record { depth = length t.below; save = save });
      }

  abbrev after : Point → Point → ℕ × Instance → State
  after save suspend x = with_left (with_instance t x.0 (asleep save suspend x.1)) true

  was_awake : (save suspend : Point) (x : ℕ × Instance) → own_instance t ≡ Some x → GoesStill t → (number : ℕ)
      (y : Instance) → slice_get (after save suspend x).instances number ≡ Some y → WasBefore t.instances number y
  was_awake save suspend x own goes =
      let own_is = own_there t x.0 x.1 own in
      status_was t.instances x.0 x.1 (asleep save suspend x.1) own_is.1 refl refl refl
      (λ going. goes x.1 (ap (instance_in t.instances) own_is.0 ∙ own_is.1))

  saved : (save suspend : Point) (f : State → State)
      → ((x : ℕ × Instance) → own_instance t ≡ Some x → AreCalled e (f (after save suspend x)))
      → KnownIf e (and_then (save_for t save suspend) (λ (z : State). Ok (f z)))
  saved save suspend f further = on (own_instance t) refl
    where
      by : (x : ℕ × Instance) → own_instance t ≡ Some x → (b : Bool)
          → KnownIf e (and_then (ok_if b Cause.State (after save suspend x)) (λ (z : State). Ok (f z)))
      by x own true = further x own
      by x own false = tt

      on : (o : Option (ℕ × Instance)) → own_instance t ≡ o → KnownIf e (and_then (and_then (found Cause.State o)
          (λ (x : ℕ × Instance). ok_if (not x.1.freed) Cause.State (after save suspend x)))
          (λ (z : State). Ok (f z)))
      on None own = tt
      on (Some x) own = by x own (not x.1.freed)

  save_known : GoesStill t → KnownIf e (save (elided e).given t)
  save_known goes = on (found Cause.State (suspend_of (function_of (elided e).given t) (point_of t)))
    where
      on : (r : Result Point Cause) → KnownIf e (and_then r (λ (q : Point). and_then (save_for t (point_of t) q)
          (λ (z : State). Ok (next z))))
      on (Err cause) = tt
      on (Ok q) =
          saved (point_of t) q next
          (λ x own. top_known e t h (next (after (point_of t) q x)) refl refl refl refl refl
          (was_awake (point_of t) q x own goes) (λ v is. refl))

  suspend_known : (x : Operand) → (x ≡ Operand.None → GoesStill t) → KnownIf e (suspend t result x)
  suspend_known Operand.None goes =
      saved (point_of t) (point_of t) (λ z. gives z result (integer 8 (negsuc 0)))
      (λ x own. top_known e t h (gives (after (point_of t) (point_of t) x) result (integer 8 (negsuc 0))) refl refl
      refl refl refl (was_awake (point_of t) (point_of t) x own (goes refl))
      (λ v is. result_elsewhere t.top.values result (integer 8 (negsuc 0)) v (apart v is)))
  suspend_known (Operand.Local v) goes = given (integer 8 (negsuc 0))
  suspend_known (Operand.Global n) goes = given (integer 8 (negsuc 0))
  suspend_known (Operand.Number z) goes = given (integer 8 (negsuc 0))
  suspend_known Operand.True goes = given (integer 8 (negsuc 0))
  suspend_known Operand.False goes = given (integer 8 (negsuc 0))
  suspend_known Operand.Null goes = given (integer 8 (negsuc 0))
  suspend_known Operand.Poison goes = given (integer 8 (negsuc 0))

  by_save : (j : Intrinsic) → saves_by j ≡ true → SavesAt e t j args → Kept j
  by_save Intrinsic.CoroSave is m = save_known (m.goes (inl refl))
  by_save Intrinsic.CoroSuspend is m = suspend_known (operand_at args 0) (λ none. m.goes (inr none))
  by_save _ is m = absurd (cc)

  pub saves_stay_known : (j : Intrinsic) → saves_by j ≡ true → StandsAtCall e t at j result must_tail ty args
      → SavesAt e t j args → AreCalled e (framed_step (elided e) t)
  saves_stay_known j is k m = next_known e t at (call_by j) k h (by_save j is m)
