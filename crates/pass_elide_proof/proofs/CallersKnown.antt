-- Calls, resumes, destroys and begins leave known what activations have by their calls.
use Rattle.std.proofs.Common.{◌≡◌, ◌<◌, ◌+◌, ◌∙◌, ap, arith, Bool, Err, false, inl, inr, length, List, not, Ok, Option, refl, Result, subst, suc, sym, true, ℕ}
use Rattle.std.specs.Prelude.{None, Some, slice_get, slice_set}
use Rattle.pass_elide_proof.proofs.Calls.{other_steps}
use Rattle.pass_elide_proof.proofs.CallersEdges.{status_was}
use Rattle.pass_elide_proof.proofs.CallersInstr.{fetched_at, was_itself}
use Rattle.pass_elide_proof.proofs.CallersLinks.{fresh_begun, links_pushed}
use Rattle.pass_elide_proof.proofs.Entered.{goes_on, woken}
use Rattle.pass_elide_proof.proofs.LastOnes.{is_found}
use Rattle.pass_elide_proof.proofs.SiteCalls.{has_address, other_steps as site_steps}
use Rattle.pass_elide_proof.specs.Callers.{StandsAtInstr}
use Rattle.pass_elide_proof.specs.CallersStack.{AreCalled, HasBegunIn, IsCalledBy}
use Rattle.pass_elide_proof.specs.Calling.{AreReady, IsAtCall, IsAtSite}
use Rattle.pass_elide_proof.specs.Elision.{Elision, elided, elided_code, function_in, rooms}
use Rattle.pass_elide_proof.specs.Invariant.{IsSiteOf, StandsAt}
use Rattle.pass_elide_proof.specs.Places.{front_at, instrs_of, name_at, room_at}
use Rattle.pass_elide.specs.declared.given.GivenFrame.{GivenFrame}
use Rattle.pass_proofs.specs.ir_base.declared.cause.Cause.{Cause}
use Rattle.pass_proofs.specs.ir_model.Names.{function_at}
use Rattle.pass_proofs.specs.ir_model.Ty.{Ty}
use Rattle.pass_proofs.specs.ir_model.declared.instr.Instr.{Instr}
use Rattle.pass_proofs.specs.ir_model.declared.module.Function.{Function}
use Rattle.pass_proofs.specs.ir_model.declared.module.Module.{Module}
use Rattle.pass_proofs.specs.ir_model.declared.operand.Arg.{Arg}
use Rattle.pass_proofs.specs.ir_model.declared.operand.Callee.{Callee}
use Rattle.pass_proofs.specs.ir_model.declared.operand.Intrinsic.{Intrinsic}
use Rattle.pass_proofs.specs.ir_parts.Contents.{result_of}
use Rattle.pass_proofs.specs.ir_paths.Windows.{destroy_label, resume_label}
use Rattle.pass_proofs.specs.ir_paths.declared.point.Point.{Point}
use Rattle.pass_proofs.specs.run_framed.Framed.{alloca_from, continue_framed, framed_advance, framed_next, framed_step}
use Rattle.pass_proofs.specs.run_memory.declared.pointer.Pointer.{Pointer}
use Rattle.pass_proofs.specs.run_memory.declared.pointer.Value.{Value}
use Rattle.pass_proofs.specs.run_source.Source.{Sleeper, sleeper_of}
use Rattle.pass_proofs.specs.run_source.State.{began_at, frame_address_of, instance_at, is_finished, or_undefined}
use Rattle.pass_proofs.specs.run_source.declared.state.Activation.{Activation}
use Rattle.pass_proofs.specs.run_source.declared.state.Instance.{Instance}
use Rattle.pass_proofs.specs.run_source.declared.state.Mode.{Mode}
use Rattle.pass_proofs.specs.run_source.declared.state.State.{State}
use Rattle.pass_proofs.specs.run_source.declared.state.Status.{Status}
use Rattle.pass_proofs.specs.run_source_tables.Given.{is_final}
use Rattle.pass_proofs.specs.run_step.Results.{and_then, found, ok_if}
use Rattle.pass_proofs.specs.run_step.Step.{AtInstr, Fetched}
use Rattle.pass_proofs.specs.run_step.Values.{Env, arg_values, nth, value_in}

-- ---- calls of functions

module _ (e : Elision) (s t : State) (r : AreReady e s t) where
  same : t.top.func ≡ s.top.func
  same = r.beside.top.func

  abbrev pub here : Point
  here = record { block = s.top.block; at = s.top.at }

  stands_behind : StandsAt e (record t.top { at = t.top.at + 1 })
      (record { block = s.top.block; at = s.top.at + 1 })
  stands_behind =
      let next : suc s.top.at ≡ s.top.at + 1 = omega arith in
      record {
        block = r.block;
        at = ap (λ (n : ℕ). n + 1) r.at
            ∙ (ap (front_at (rooms e s.top.func) (function_in e s.top.func) s.top.block) next
            ∙ (λ j. front_at (rooms e (sym same j)) (function_in e (sym same j)) s.top.block (s.top.at + 1)));
      }

  called_here : (new : Activation) (i : Instr)
      → slice_get (instrs_of (function_in e s.top.func) s.top.block) s.top.at ≡ Some i → new.result ≡ result_of i
      → ((v : ℕ) → new.result ≡ Some v → v < length t.top.values)
      → ((name : ℕ) → IsSiteOf e t.top.func (record { block = s.top.block; at = s.top.at }) i name
      → new.mode ≡ Mode.GivenRamp (value_in t.top.values name))
      → IsCalledBy e new (record t.top { at = t.top.at + 1 })
  called_here new i there result room given = record {
    call = record { block = s.top.block; at = s.top.at };
    instr = i;
    there = (λ j. slice_get (instrs_of (function_in e (same j)) s.top.block) s.top.at) ∙ there;
    stands = stands_behind;
    result = result;
    room = room;
    given = given;
  }

  pub calls_known : (k : IsAtCall e s t) → ((v : ℕ) → k.result ≡ Some v → v < length t.top.values)
      → AreCalled e t → AreCalled e (framed_step (elided e) t)
  calls_known k room h =
      subst (AreCalled e) (sym (other_steps e s t r k))
      (links_pushed e t _ t.instances (was_itself t.instances)
      (inr (called_here _ (Instr.Call k.result k.must_tail k.ty k.callee k.args) k.there refl room
      (λ name site. absurd (none_given name site))))
      (fresh_begun e t.instances _ refl) h)
    where
      none_given : (name : ℕ) → IsSiteOf e t.top.func (record { block = s.top.block; at = s.top.at })
          (Instr.Call k.result k.must_tail k.ty k.callee k.args) name → ⊥
      none_given name site =
          let no : None ≡ Some (GivenFrame.Alloca site.size site.align)
          = sym k.none
          ∙ ((λ j. room_at (rooms e (sym same j)) (function_in e (sym same j)) s.top.block s.top.at
          (Instr.Call k.result k.must_tail k.ty k.callee k.args)) ∙ site.room) in
          absurd (cc)

  pub sites_known : (k : IsAtSite e s t) → ((v : ℕ) → k.result ≡ Some v → v < length t.top.values)
      → AreCalled e t → AreCalled e (framed_step (elided e) t)
  sites_known k room h =
      subst (AreCalled e) (sym (site_steps e s t r k))
      (links_pushed e t _ t.instances (was_itself t.instances)
      (inr (called_here _ (Instr.Call k.result k.must_tail k.ty (Callee.Named k.name) k.args) k.there refl room
      (λ name site. ap Mode.GivenRamp (sym (ap (value_in t.top.values) (site.is_name
      ∙ (λ j. name_at (rooms e (same j)) (function_in e (same j)) s.top.block s.top.at)) ∙ has_address e s t r k)))))
      (fresh_begun e t.instances _ refl) h)

-- ---- what is known behind a part of a step

abbrev pub KnownIf : Elision → Result State Cause → Type 0
KnownIf e (Err cause) = Unit {0}
KnownIf e (Ok u) = AreCalled e u

pub or_known : (e : Elision) (t : State) (r : Result State Cause) → AreCalled e t → KnownIf e r
    → AreCalled e (or_undefined (elided e).given t r)
or_known e t (Err cause) h k = record { calls = h.calls; begun = h.begun }
or_known e t (Ok u) h k = k

pub next_known : (e : Elision) (t : State) (at : ℕ) (i : Instr) → StandsAtInstr e t at i → AreCalled e t
    → KnownIf e (framed_next (elided e) t (AtInstr i)) → AreCalled e (framed_step (elided e) t)
next_known e t at i k h known =
    subst (AreCalled e)
    (sym (ap (framed_advance (elided e) t) k.runs
    ∙ ap (λ (x : Fetched). or_undefined (elided e).given t (framed_next (elided e) t x)) (fetched_at e t at i k)))
    (or_known e t (framed_next (elided e) t (AtInstr i)) h known)

-- ---- resumes and destroys

woken_result : (m : Module) (f : Function) (func number : ℕ) (frame : Value) (from label : ℕ) (o : Option Point)
    → (woken m f func number frame from label o).result ≡ None
woken_result m f func number frame from label None = refl
woken_result m f func number frame from label (Some p) = refl

woken_begun : (e : Elision) (xs : List Instance) (m : Module) (f : Function) (func number : ℕ) (frame : Value)
    (from label : ℕ) (o : Option Point) → HasBegunIn e xs (woken m f func number frame from label o)
woken_begun e xs m f func number frame from label None = record {
  frame = λ given n x mode. absurd (cc);
  value = λ given n v mode. absurd (cc);
}
woken_begun e xs m f func number frame from label (Some p) = record {
  frame = λ given n x mode. absurd (cc);
  value = λ given n v mode. absurd (cc);
}

module _ (stops : Function → Point → Bool) (label : Function → Point → ℕ) (e : Elision) (t : State)
    (h : AreCalled e t) (p : Value) where
  abbrev goes : Sleeper → Result State Cause
  goes y =
      ok_if (not (stops (function_at (elided_code e) y.instance.coroutine) y.suspend)) Cause.State
      (continue_framed (elided e) t y.number y.instance y.suspend y.values
      (label (function_at (elided_code e) y.instance.coroutine) y.suspend))

  abbrev found_goes : Option (ℕ × Instance) → Result State Cause
  found_goes o =
      and_then (and_then (found Cause.Frame o) (λ (z : ℕ × Instance). sleeper_of z.0 z.1 z.1.status)) goes

  in_list : (p : Value) (n : ℕ) (x : Instance) → instance_at t.instances p ≡ Some (n, x)
      → slice_get t.instances n ≡ Some x
  in_list (Value.Ptr (Pointer.At b o)) n x finds = (is_found (began_at b o.bits) n x t.instances finds).0
  in_list (Value.Ptr Pointer.Null) n x finds = absurd (cc)
  in_list (Value.Ptr (Pointer.Func g)) n x finds = absurd (cc)
  in_list Value.Poison n x finds = absurd (cc)
  in_list (Value.Int w) n x finds = absurd (cc)

  wakes : (n : ℕ) (x : Instance) (q : Point) (env : Env) → instance_at t.instances p ≡ Some (n, x)
      → x.status ≡ Status.Suspended q env
      → AreCalled e (continue_framed (elided e) t n x q env (label (function_at (elided_code e) x.coroutine) q))
  wakes n x q env finds sleeps =
      let to = label (function_at (elided_code e) x.coroutine) q in
      let next = alloca_from (function_at (elided_code e) x.coroutine) 0 in
      subst (AreCalled e) (sym (goes_on (elided e) t n x q env to))
      (links_pushed e t _ (slice_set t.instances n (record x { status = Status.Running }))
      (status_was t.instances n x (record x { status = Status.Running }) (in_list p n x finds) refl refl refl
      (λ running. ap is_finished sleeps))
      (inl (woken_result (elided_code e) (function_at (elided_code e) x.coroutine) x.coroutine n (frame_address_of x)
      q.block to next))
      (woken_begun e (slice_set t.instances n (record x { status = Status.Running })) (elided_code e)
      (function_at (elided_code e) x.coroutine) x.coroutine n (frame_address_of x) q.block to next) h)

  by_stop : (n : ℕ) (x : Instance) (q : Point) (env : Env) → instance_at t.instances p ≡ Some (n, x)
      → x.status ≡ Status.Suspended q env → (b : Bool)
      → KnownIf e (ok_if (not b) Cause.State
      (continue_framed (elided e) t n x q env (label (function_at (elided_code e) x.coroutine) q)))
  by_stop n x q env finds sleeps true = tt
  by_stop n x q env finds sleeps false = wakes n x q env finds sleeps

  by_status : (n : ℕ) (x : Instance) → instance_at t.instances p ≡ Some (n, x) → (z : Status) → x.status ≡ z
      → KnownIf e (and_then (sleeper_of n x z) goes)
  by_status n x finds Status.Running is = tt
  by_status n x finds (Status.Suspended q env) is =
      by_stop n x q env finds is (stops (function_at (elided_code e) x.coroutine) q)
  by_status n x finds Status.Finished is = tt

  wake_known : KnownIf e (found_goes (instance_at t.instances p))
  wake_known = on (instance_at t.instances p) refl
    where
      on : (o : Option (ℕ × Instance)) → instance_at t.instances p ≡ o → KnownIf e (found_goes o)
      on None finds = tt
      on (Some z) finds = by_status z.0 z.1 finds z.1.status refl

module _ (e : Elision) (t : State) (at : ℕ) (result : Option ℕ) (must_tail : Bool) (ty : Option Ty)
    (args : List Arg) (h : AreCalled e t) where
  abbrev p : Value
  p = nth (arg_values (elided e).given.code t.top.values args) 0

  pub resumes_known : StandsAtInstr e t at
      (Instr.Call result must_tail ty (Callee.Intrinsic Intrinsic.CoroResume) args)
      → AreCalled e (framed_step (elided e) t)
  resumes_known k =
      next_known e t at (Instr.Call result must_tail ty (Callee.Intrinsic Intrinsic.CoroResume) args) k h
      (wake_known is_final resume_label e t h p)

  pub destroys_known : StandsAtInstr e t at
      (Instr.Call result must_tail ty (Callee.Intrinsic Intrinsic.CoroDestroy) args)
      → AreCalled e (framed_step (elided e) t)
  destroys_known k =
      next_known e t at (Instr.Call result must_tail ty (Callee.Intrinsic Intrinsic.CoroDestroy) args) k h
      (wake_known (λ f q. false) destroy_label e t h p)
