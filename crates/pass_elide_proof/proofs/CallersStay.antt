-- Where the topmost activation goes on in its function it stays known what activations have by their calls.
use Rattle.std.proofs.Common.{◌≡◌, ◌∙◌, ◌∷◌, ◌⊎◌, ap, Bool, Err, false, inl, inr, List, Ok, Option, refl, Result, subst, sym, true, ℕ, if◌then◌else◌}
use Rattle.std.specs.Prelude.{None, Some, slice_get}
use Rattle.pass_elide_proof.proofs.CallersEdges.{status_was}
use Rattle.pass_elide_proof.proofs.CallersInstr.{fetched_at, was_itself}
use Rattle.pass_elide_proof.proofs.CallersKnown.{KnownIf, next_known}
use Rattle.pass_elide_proof.proofs.CallersLinks.{all_begun, begun_as, calls_on}
use Rattle.pass_elide_proof.proofs.CallersValues.{SetsOnly, result_elsewhere, sets_only}
use Rattle.pass_elide_proof.proofs.LastFound.{found_there}
use Rattle.pass_elide_proof.proofs.LeftWindows.{own_there}
use Rattle.pass_elide_proof.proofs.Modules.{finds_alike}
use Rattle.pass_elide_proof.proofs.OwnPlaces.{acts}
use Rattle.pass_elide_proof.specs.Callers.{StandsAtDone, StandsAtInstr, WasBefore, gives_only}
use Rattle.pass_elide_proof.specs.CallersStack.{AreCalled, AreCalledBy, HasBegunIn}
use Rattle.pass_elide_proof.specs.Elision.{Elision, elided, function_in}
use Rattle.pass_proofs.specs.ir_base.declared.cause.Cause.{Cause}
use Rattle.pass_proofs.specs.ir_model.Names.{function_at}
use Rattle.pass_proofs.specs.ir_model.Ty.{Ty}
use Rattle.pass_proofs.specs.ir_model.declared.instr.Instr.{Instr}
use Rattle.pass_proofs.specs.ir_model.declared.operand.Allocator.{Allocator}
use Rattle.pass_proofs.specs.ir_model.declared.operand.Arg.{Arg}
use Rattle.pass_proofs.specs.ir_model.declared.operand.Callee.{Callee}
use Rattle.pass_proofs.specs.ir_model.declared.operand.Intrinsic.{Intrinsic}
use Rattle.pass_proofs.specs.ir_parts.Contents.{result_of}
use Rattle.pass_proofs.specs.ir_paths.Windows.{operand_at}
use Rattle.pass_proofs.specs.run_framed.Framed.{begin_name, framed_act, framed_context, framed_next, framed_promise, framed_step}
use Rattle.pass_proofs.specs.run_laws.changed.Changed.{Each}
use Rattle.pass_proofs.specs.run_memory.declared.block.MemoryBlock.{MemoryBlock}
use Rattle.pass_proofs.specs.run_memory.declared.pointer.Pointer.{Pointer}
use Rattle.pass_proofs.specs.run_memory.declared.pointer.Value.{Value}
use Rattle.pass_proofs.specs.run_source.Source.{Sleeper, change_own, deallocate, done_at, if_let_go, let_go, may_be_freed, release, sleeper_at}
use Rattle.pass_proofs.specs.run_source.State.{began_at, gives, instance_at, next, own_instance, settled, with_instance, with_memory, work_of}
use Rattle.pass_proofs.specs.run_source.declared.state.Activation.{Activation}
use Rattle.pass_proofs.specs.run_source.declared.state.Instance.{Instance}
use Rattle.pass_proofs.specs.run_source.declared.state.State.{State}
use Rattle.pass_proofs.specs.run_source_tables.Given.{has_final, is_final}
use Rattle.pass_proofs.specs.run_step.Results.{and_then, ok_if}
use Rattle.pass_proofs.specs.run_step.Step.{AtInstr, Done, Work, allocated, deallocated, with_length}
use Rattle.pass_proofs.specs.run_step.Values.{Env, address, arg_values, nth, truth_value, value_in}

-- ---- the state

module _ (e : Elision) (t : State) (h : AreCalled e t) where
  -- begin's value is as it was
  abbrev pub KeepsBegin : Env → Type 0
  KeepsBegin env =
      (v : ℕ) → begin_name (function_in e t.top.func) ≡ Some v → value_in env v ≡ value_in t.top.values v

  pub top_known : (u : State) → u.below ≡ t.below → u.top.func ≡ t.top.func → u.top.result ≡ t.top.result
      → u.top.mode ≡ t.top.mode → u.top.instance ≡ t.top.instance
      → ((number : ℕ) (y : Instance) → slice_get u.instances number ≡ Some y → WasBefore t.instances number y)
      → KeepsBegin u.top.values → AreCalled e u
  top_known u below func result mode instance was others = record {
    calls =
        subst (λ (rows : List Activation). AreCalledBy e (u.top ∷ rows)) (sym below)
        (calls_on e t.top u.top t.below result (λ frame is. mode ∙ is) h.calls);
    begun =
        subst (λ (rows : List Activation). Each (HasBegunIn e u.instances) (u.top ∷ rows)) (sym below) (
          begun_as e t.instances u.instances was u.top (record {
            frame = λ frame number x is own there.
                h.begun.0.frame frame number x (sym mode ∙ is) (sym instance ∙ own) there;
            value = λ frame number v is own begin.
                let name : begin_name (function_in e t.top.func) ≡ Some v
                = ap (λ (f : ℕ). begin_name (function_in e f)) (sym func) ∙ begin in
                others v name ∙ h.begun.0.value frame number v (sym mode ∙ is) (sym instance ∙ own) name;
          }),
          all_begun e t.instances u.instances was t.below h.begun.1,
        );
  }

  -- ---- an instruction

  module _ (at : ℕ) (i : Instr)
      (apart : (v : ℕ) → begin_name (function_in e t.top.func) ≡ Some v → result_of i ≡ Some v → ⊥) where
    pub done_known : (w : Work) → StandsAtDone e t at i w → AreCalled e (framed_step (elided e) t)
    done_known w k =
        subst (AreCalled e)
        (sym (acts (elided e) t (settled t w) i (Done w) k.place.runs (fetched_at e t at i k.place)
        (λ n is. (finds_alike e).ramps n ∙ k.no_ramp n is) k.does refl))
        (top_known (settled t w) refl refl refl refl refl (was_itself t.instances)
        (λ v is. subst (SetsOnly (framed_context (elided e) t) (work_of t) (result_of i)) k.does
        (sets_only (framed_context (elided e) t) (work_of t) i) v (apart v is)))

-- ---- calls

module _ (e : Elision) (t : State) (h : AreCalled e t) (at : ℕ) (result : Option ℕ) (must_tail : Bool)
    (ty : Option Ty) (args : List Arg)
    (apart : (v : ℕ) → begin_name (function_in e t.top.func) ≡ Some v → result ≡ Some v → ⊥) where
  value_known : (z : State) → z.top ≡ t.top → z.below ≡ t.below
      → ((number : ℕ) (y : Instance) → slice_get z.instances number ≡ Some y → WasBefore t.instances number y)
      → (v : Value) → AreCalled e (gives z result v)
  value_known z top below was v =
      top_known e t h (gives z result v) below (ap (λ (c : Activation). c.func) top)
      (ap (λ (c : Activation). c.result) top) (ap (λ (c : Activation). c.mode) top)
      (ap (λ (c : Activation). c.instance) top) was
      (λ u is. result_elsewhere z.top.values result v u (apart u is)
      ∙ ap (λ (c : Activation). value_in c.values u) top)

  next_on : (z : State) → z.top ≡ t.top → z.below ≡ t.below
      → ((number : ℕ) (y : Instance) → slice_get z.instances number ≡ Some y → WasBefore t.instances number y)
      → AreCalled e (next z)
  next_on z top below was =
      top_known e t h (next z) below (ap (λ (c : Activation). c.func) top) (ap (λ (c : Activation). c.result) top)
      (ap (λ (c : Activation). c.mode) top) (ap (λ (c : Activation). c.instance) top) was
      (λ u is. ap (λ (c : Activation). value_in c.values u) top)

  abbrev call_by : Callee → Instr
  call_by c = Instr.Call result must_tail ty c args

  abbrev vs : List Value
  vs = arg_values (elided e).given.code t.top.values args

  -- ---- allocators

  allocated_known : (v : Value)
      → KnownIf e (framed_act (elided e) t (with_length v (λ n. Done (allocated (work_of t) result n))))
  allocated_known (Value.Int x) =
      top_known e t h (settled t (allocated (work_of t) result x.bits)) refl refl refl refl refl
      (was_itself t.instances) (λ u is. result_elsewhere t.top.values result _ u (apart u is))
  allocated_known Value.Poison = tt
  allocated_known (Value.Ptr p) = tt

  there_is : (p : Value) (x : ℕ × Instance) → instance_at t.instances p ≡ Some x
      → slice_get t.instances x.0 ≡ Some x.1
  there_is (Value.Ptr (Pointer.At b o)) x is = (found_there (began_at b o.bits) t.instances x is).0
  there_is (Value.Ptr Pointer.Null) x is = absurd (cc)
  there_is (Value.Ptr (Pointer.Func g)) x is = absurd (cc)
  there_is Value.Poison x is = absurd (cc)
  there_is (Value.Int w) x is = absurd (cc)

  abbrev freed_by : Value → State → Result State Cause
  freed_by p z = and_then (deallocated z.world.memory p) (λ memory. Ok (next (with_memory z memory)))

  freed_known : (p : Value) (z : State) → z.top ≡ t.top → z.below ≡ t.below
      → ((number : ℕ) (y : Instance) → slice_get z.instances number ≡ Some y → WasBefore t.instances number y)
      → KnownIf e (freed_by p z)
  freed_known p z top below was = on (deallocated z.world.memory p)
    where
      on : (r : Result (List MemoryBlock) Cause)
          → KnownIf e (and_then r (λ (memory : List MemoryBlock). Ok (next (with_memory z memory))))
      on (Err cause) = tt
      on (Ok memory) = next_on (with_memory z memory) top below was

  frees_known : (p : Value) → KnownIf e (deallocate t p)
  frees_known p = on (instance_at t.instances p) refl
    where
      by : (x : ℕ × Instance) → instance_at t.instances p ≡ Some x → (b : Bool)
          → KnownIf e (freed_by p (if b then let_go t x.0 x.1 else t))
      by x is true =
          freed_known p (let_go t x.0 x.1) refl refl
          (status_was t.instances x.0 x.1 (record x.1 { freed = true }) (there_is p x is) refl refl refl
          (λ going. going))
      by x is false = freed_known p t refl refl (was_itself t.instances)

      on : (o : Option (ℕ × Instance)) → instance_at t.instances p ≡ o → KnownIf e (freed_by p (if_let_go t o))
      on None is = freed_known p t refl refl (was_itself t.instances)
      on (Some x) is = by x is (may_be_freed x.1)

  pub allocators_known : (a : Allocator)
      → StandsAtInstr e t at (Instr.Call result must_tail ty (Callee.Allocator a) args)
      → AreCalled e (framed_step (elided e) t)
  allocators_known a k = next_known e t at (call_by (Callee.Allocator a)) k h (by a)
    where
      by : (a : Allocator) → KnownIf e (framed_next (elided e) t (AtInstr (call_by (Callee.Allocator a))))
      by Allocator.Malloc = allocated_known (nth vs 0)
      by Allocator.Znwm = allocated_known (nth vs 0)
      by Allocator.Free = frees_known (address (nth vs 0))
      by Allocator.ZdlPv = frees_known (address (nth vs 0))
      by Allocator.ZdlPvm = frees_known (address (nth vs 0))

  -- ---- a coroutine's own calls

  abbrev Kept : Intrinsic → Type 0
  Kept j = KnownIf e (framed_next (elided e) t (AtInstr (call_by (Callee.Intrinsic j))))

  plain_known : (v : Value) → AreCalled e (gives t result v)
  plain_known v = value_known t refl refl (was_itself t.instances) v

  release_known : (v : Value) → AreCalled e (gives (release t) result v)
  release_known v = on (own_instance t) refl
    where
      on : (o : Option (ℕ × Instance)) → own_instance t ≡ o
          → AreCalled e (gives (change_own t (λ x. record x { released = true }) o) result v)
      on None own = plain_known v
      on (Some y) own =
          value_known (with_instance t y.0 (record y.1 { released = true })) refl refl
          (status_was t.instances y.0 y.1 (record y.1 { released = true }) (own_there t y.0 y.1 own).1 refl refl refl
          (λ going. going)) v

  done_known_at : (p : Value) → KnownIf e (done_at (elided e).given t result p)
  done_known_at p = on (sleeper_at t p)
    where
      if_known : (b : Bool) (v : Value) → KnownIf e (ok_if b Cause.State (gives t result v))
      if_known true v = plain_known v
      if_known false v = tt

      on : (r : Result Sleeper Cause) → KnownIf e (and_then r (λ (y : Sleeper).
          let f = function_at (elided e).given.code y.instance.coroutine in
          ok_if (has_final f) Cause.State (gives t result (truth_value (is_final f y.suspend)))))
      on (Err cause) = tt
      on (Ok y) = if_known (has_final (function_at (elided e).given.code y.instance.coroutine)) _

  promise_known : (r : Result Value Cause) → KnownIf e (and_then r (λ v. Ok (gives t result v)))
  promise_known (Err cause) = tt
  promise_known (Ok v) = plain_known v

  given_known : (j : Intrinsic) → gives_only j ≡ true → Kept j
  given_known Intrinsic.CoroId is = next_on t refl refl (was_itself t.instances)
  given_known Intrinsic.CoroSizeI32 is = plain_known _
  given_known Intrinsic.CoroSizeI64 is = plain_known _
  given_known Intrinsic.CoroAlignI32 is = plain_known _
  given_known Intrinsic.CoroAlignI64 is = plain_known _
  given_known Intrinsic.CoroAlloc is = plain_known _
  given_known Intrinsic.CoroFrame is = plain_known _
  given_known Intrinsic.CoroFree is = release_known _
  given_known Intrinsic.CoroDone is = done_known_at (nth vs 0)
  given_known Intrinsic.CoroPromise is = promise_known (framed_promise (elided e) t (nth vs 0) (operand_at args 2))
  given_known Intrinsic.CoroBegin is = absurd (cc)
  given_known Intrinsic.CoroSave is = absurd (cc)
  given_known Intrinsic.CoroSuspend is = absurd (cc)
  given_known Intrinsic.CoroEnd is = absurd (cc)
  given_known Intrinsic.CoroResume is = absurd (cc)
  given_known Intrinsic.CoroDestroy is = absurd (cc)
  given_known Intrinsic.LifetimeStart is = absurd (cc)
  given_known Intrinsic.LifetimeEnd is = absurd (cc)
  given_known Intrinsic.MemcpyI64 is = absurd (cc)
  given_known Intrinsic.MemcpyI32 is = absurd (cc)

  pub gives_only_known : (j : Intrinsic) → gives_only j ≡ true
      → StandsAtInstr e t at (Instr.Call result must_tail ty (Callee.Intrinsic j) args)
      → AreCalled e (framed_step (elided e) t)
  gives_only_known j is k = next_known e t at (call_by (Callee.Intrinsic j)) k h (given_known j is)

  -- ---- markers

  pub markers_known : (j : Intrinsic) → (j ≡ Intrinsic.LifetimeStart) ⊎ (j ≡ Intrinsic.LifetimeEnd)
      → StandsAtInstr e t at (Instr.Call result must_tail ty (Callee.Intrinsic j) args)
      → AreCalled e (framed_step (elided e) t)
  markers_known j is k = next_known e t at (call_by (Callee.Intrinsic j)) k h (by is)
    where
      by : (j ≡ Intrinsic.LifetimeStart) ⊎ (j ≡ Intrinsic.LifetimeEnd) → Kept j
      by (inl first) =
          subst Kept (sym first) (top_known e t h _ refl refl refl refl refl (was_itself t.instances) (λ u is. refl))
      by (inr second) =
          subst Kept (sym second) (top_known e t h _ refl refl refl refl refl (was_itself t.instances) (λ u is. refl))
