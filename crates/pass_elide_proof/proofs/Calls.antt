-- A call that gives its callee no frame enters the same function in both runs.
use Rattle.std.proofs.Common.{◌≡◌, ℕ, Bool, true, false, List, Option, Ok, refl, sym, ap, ◌∙◌, subst, if◌then◌else◌}
use Rattle.std.specs.Prelude.{None, Some, slice_get, unwrap_or}
use Rattle.pass_elide_proof.proofs.Called.{args_are, plain_called, plain_holds}
use Rattle.pass_elide_proof.proofs.Callers.{args_stand, ours, pushed, theirs}
use Rattle.pass_elide_proof.proofs.ElidedFound.{fits_same}
use Rattle.pass_elide_proof.proofs.Modules.{finds_alike}
use Rattle.pass_elide_proof.proofs.Sized.{stepped}
use Rattle.pass_elide_proof.proofs.Stacks.{pushed_callers}
use Rattle.pass_elide_proof.specs.Calling.{AreReady, CallsTo, IsAtCall}
use Rattle.pass_elide_proof.specs.Elision.{Elision, elided, elided_code, framed, function_in, function_in_elided, rooms}
use Rattle.pass_elide_proof.specs.Invariant.{HaveCallers}
use Rattle.pass_elide_proof.specs.Match.{AreElided, sides}
use Rattle.pass_elide_proof.specs.Places.{elided_instr, instrs_of, name_at, own_at}
use Rattle.pass_elide.specs.declared.given.GivenFrame.{GivenFrame}
use Rattle.elide_sites.specs.Sites.{is_destroy_of}
use Rattle.pass_proofs.specs.ir_base.declared.cause.Cause.{Cause}
use Rattle.pass_proofs.specs.ir_base.declared.name.Name.{Name}
use Rattle.pass_proofs.specs.ir_model.Names.{declaration_named, function_named}
use Rattle.pass_proofs.specs.ir_model.Ty.{Ty}
use Rattle.pass_proofs.specs.ir_model.declared.instr.Instr.{Instr}
use Rattle.pass_proofs.specs.ir_model.declared.module.Function.{Function}
use Rattle.pass_proofs.specs.ir_model.declared.operand.Arg.{Arg}
use Rattle.pass_proofs.specs.ir_model.declared.operand.Callee.{Callee}
use Rattle.pass_proofs.specs.run_framed.Framed.{FramedGiven, enter_given, framed_act, framed_context, framed_next, framed_step, given_ramp}
use Rattle.pass_proofs.specs.run_laws.memory.Pointers.{IsValue}
use Rattle.pass_proofs.specs.run_memory.declared.pointer.Pointer.{Pointer}
use Rattle.pass_proofs.specs.run_memory.declared.pointer.Value.{Value}
use Rattle.pass_proofs.specs.run_source.Source.{enter, mode_of}
use Rattle.pass_proofs.specs.run_source.State.{work_of}
use Rattle.pass_proofs.specs.run_source.declared.state.Mode.{Mode}
use Rattle.pass_proofs.specs.run_source.declared.state.State.{State}
use Rattle.pass_proofs.specs.run_step.Step.{AtInstr, Enter, Stuck, action_of, fits_function, indirect_call, named_call}
use Rattle.pass_proofs.specs.run_step.Values.{arg_values, value_in}

-- ---- what a call does

module _ (g : FramedGiven) (s : State) (result : Option ℕ) (must_tail : Bool) (ty : Option Ty) (args : List Arg)
    (func : ℕ) where
  abbrev vs : List Value
  vs = arg_values g.given.code s.top.values args

  pub named_enters : (n : Name) → function_named g.given.code n ≡ Some func → given_ramp g.given.code n ≡ None
      → framed_next g s (AtInstr (Instr.Call result must_tail ty (Callee.Named n) args))
      ≡ Ok (enter g.given s func (arg_values g.given.code s.top.values args) result)
  named_enters n is none =
      ap (λ (o : Option ℕ). unwrap_or (enter_given g s result vs o) (framed_act g s (action_of (framed_context g s)
      (work_of s) (AtInstr (Instr.Call result must_tail ty (Callee.Named n) args))))) none
      ∙ ap (λ (o : Option ℕ). framed_act g s (named_call (framed_context g s) (work_of s) o
      (declaration_named g.given.code n) ty result must_tail vs)) is

  pointed_enters : (v : ℕ) → value_in s.top.values v ≡ Value.Ptr (Pointer.Func func)
      → fits_function ty args (slice_get g.given.code.functions func) ≡ true
      → framed_next g s (AtInstr (Instr.Call result must_tail ty (Callee.Local v) args))
      ≡ Ok (enter g.given s func (arg_values g.given.code s.top.values args) result)
  pointed_enters v is fits =
      ap (λ (w : Value). framed_act g s (indirect_call (framed_context g s) w ty result must_tail args vs)) is
      ∙ ap (λ (b : Bool). framed_act g s (if b then Enter func vs result must_tail else Stuck Cause.Call)) fits

-- ---- both calls

module _ (e : Elision) (s t : State) (r : AreReady e s t) (k : IsAtCall e s t) where
  abbrev after : State
  after = enter (framed e).given s k.func (arg_values e.code s.top.values k.args) k.result

  abbrev other : State
  other = enter (elided e).given t k.func (arg_values (elided_code e) t.top.values k.args) k.result

  abbrev BothEnter : Callee → Type 0
  BothEnter callee =
      (framed_next (framed e) s (AtInstr (Instr.Call k.result k.must_tail k.ty callee k.args)) ≡ Ok after)
      × (framed_next (elided e) t (AtInstr (Instr.Call k.result k.must_tail k.ty callee k.args)) ≡ Ok other)

  -- a function's address is the same
  function_same : (v u : Value) → v ≡ Value.Ptr (Pointer.Func k.func) → IsValue r.beside.homes v u
      → u ≡ Value.Ptr (Pointer.Func k.func)
  function_same v u is h = (subst (λ (w : Value). IsValue r.beside.homes w u) is h).1

  both : (callee : Callee) → CallsTo e s t k.ty k.args k.func callee → BothEnter callee
  both (Callee.Named n) h = (
    named_enters (framed e) s k.result k.must_tail k.ty k.args k.func n h.0 h.1,
    named_enters (elided e) t k.result k.must_tail k.ty k.args k.func n ((finds_alike e).named n ∙ h.0)
        ((finds_alike e).ramps n ∙ h.1),
  )
  both (Callee.Local v) h = (
    pointed_enters (framed e) s k.result k.must_tail k.ty k.args k.func v h.1 h.2,
    pointed_enters (elided e) t k.result k.must_tail k.ty k.args k.func v
        (function_same (value_in s.top.values v) (value_in t.top.values v) h.1 (r.beside.top.values.each v h.0))
        (fits_same e k.ty k.args k.func ∙ h.2),
  )
  both (Callee.Allocator a) h = absurd h
  both (Callee.Intrinsic i) h = absurd h

  abbrev i : Instr
  i = Instr.Call k.result k.must_tail k.ty k.callee k.args

  steps : framed_step (framed e) s ≡ after
  steps = stepped (framed e) s after (AtInstr i) k.runs (ours e s t r i k.there) (both k.callee k.calls).0

  pub other_steps : framed_step (elided e) t ≡ other
  other_steps =
      stepped (elided e) t other (AtInstr i) (r.beside.outcome ∙ k.runs)
      (theirs e s t r i k.there ∙ ap (λ (o : Option GivenFrame). AtInstr (elided_instr (name_at (rooms e s.top.func)
      (function_in e s.top.func) s.top.block s.top.at) o i)) k.none)
      (both k.callee k.calls).1

  beside : AreElided e after other
  beside =
      pushed e s t r k.holds _ _
      (plain_called e r.beside.homes r.beside.hides (sides s t) k.func (arg_values e.code s.top.values k.args)
      (arg_values (elided_code e) t.top.values k.args) k.result
      (args_are r.beside.homes (function_in e k.func).params (arg_values e.code s.top.values k.args)
      (arg_values (elided_code e) t.top.values k.args) (args_stand e s t r k.args k.reads)))
      (plain_holds e r.beside.homes r.beside.hides (sides s t) k.func (arg_values e.code s.top.values k.args)
      (arg_values (elided_code e) t.top.values k.args) k.result
      (args_are r.beside.homes (function_in e k.func).params (arg_values e.code s.top.values k.args)
      (arg_values (elided_code e) t.top.values k.args) (args_stand e s t r k.args k.reads)))

  pub calls_beside : AreElided e (framed_step (framed e) s) (framed_step (elided e) t)
  calls_beside = subst (λ (p : State × State). AreElided e p.0 p.1) (λ j. (sym steps j, sym other_steps j)) beside

-- ---- callers of instances

destroys_none : (result : Option ℕ) (must_tail : Bool) (ty : Option Ty) (args : List Arg) (callee : Callee)
    (e : Elision) (s t : State) (func : ℕ) → CallsTo e s t ty args func callee → (v : Option ℕ)
    → is_destroy_of v (Instr.Call result must_tail ty callee args) ≡ false
destroys_none result must_tail ty args (Callee.Named n) e s t func h None = refl
destroys_none result must_tail ty args (Callee.Named n) e s t func h (Some v) = refl
destroys_none result must_tail ty args (Callee.Local n) e s t func h None = refl
destroys_none result must_tail ty args (Callee.Local n) e s t func h (Some v) = refl
destroys_none result must_tail ty args (Callee.Allocator a) e s t func h v = absurd h
destroys_none result must_tail ty args (Callee.Intrinsic i) e s t func h v = absurd h

module _ (e : Elision) (s t : State) (r : AreReady e s t) (k : IsAtCall e s t) where
  ungiven : (f : Function) (frame : Value) → mode_of f ≡ Mode.GivenRamp frame → ⊥
  ungiven f frame is = by f.coroutine is
    where
      by : (b : Bool) → (if b then Mode.Ramp else Mode.Plain) ≡ Mode.GivenRamp frame → ⊥
      by true is = absurd (cc)
      by false is = absurd (cc)

  pub calls_keep : HaveCallers e t → HaveCallers e (framed_step (elided e) t)
  calls_keep h =
      subst (HaveCallers e) (sym (other_steps e s t r k))
      (pushed_callers e t _ s.top.at (Instr.Call k.result k.must_tail k.ty k.callee k.args)
      ((λ j. slice_get (instrs_of (function_in e (r.beside.top.func j)) (r.block j)) s.top.at) ∙ k.there)
      (r.at ∙ (λ j. own_at (rooms e (sym r.beside.top.func j)) (function_in e (sym r.beside.top.func j))
      (sym r.block j) s.top.at))
      (destroys_none k.result k.must_tail k.ty k.args k.callee e s t k.func k.calls)
      (λ frame is none. absurd (ungiven (function_in_elided e k.func) frame is)) h)
