-- Behind each step of the run that gives frames it stays known what activations have by their calls.
use Rattle.std.proofs.Common.{◌≡◌, ◌<◌, ◌⊎◌, ◌∙◌, ◌∷◌, ap, sym, refl, subst, inl, inr, arith, ℕ, Bool, true, false, List, [], length, Option}
use Rattle.std.specs.Prelude.{None, Some, slice_get}
use Rattle.pass_elide_kept.proofs.Beside.{HasBeside}
use Rattle.pass_elide_kept.proofs.KnownSaves.{saves_stay_known}
use Rattle.pass_elide_kept.specs.Modules.{KeepsHandlesAndEnds}
use Rattle.pass_elide_kept.specs.Steps.{TakesStep}
use Rattle.pass_elide_proof.proofs.CallersBegun.{begin_known}
use Rattle.pass_elide_proof.proofs.CallersKnown.{calls_known, destroys_known, resumes_known, sites_known}
use Rattle.pass_elide_proof.proofs.CallersMoved.{allocas_known, edges_known, ramp_ends_known}
use Rattle.pass_elide_proof.proofs.CallersReturned.{resumed_ends_known, rets_known}
use Rattle.pass_elide_proof.proofs.CallersStay.{allocators_known, done_known, gives_only_known, markers_known}
use Rattle.pass_elide_proof.proofs.Facts.{not_both}
use Rattle.pass_elide_proof.specs.Callers.{gives_only, saves_by}
use Rattle.pass_elide_proof.specs.CallersStack.{AreCalled, ReturnsApart}
use Rattle.pass_elide_proof.specs.Elision.{Elision, elided, function_in}
use Rattle.pass_elide_proof.specs.Match.{AreBelow}
use Rattle.pass_elide_proof.specs.Places.{instrs_of}
use Rattle.pass_elide_proof.specs.Placing.{KeepsPlaces}
use Rattle.pass_elide_proof.specs.PlacingStates.{ComeFromCalls, IsBehindCall, IsKnownState, is_entering}
use Rattle.pass_elide_proof.specs.pass_proofs.ir_model.Ty.{Ty}
use Rattle.pass_elide_proof.specs.pass_proofs.ir_model.declared.instr.Instr.{Instr}
use Rattle.pass_elide_proof.specs.pass_proofs.ir_model.declared.operand.Arg.{Arg}
use Rattle.pass_elide_proof.specs.pass_proofs.ir_model.declared.operand.Callee.{Callee}
use Rattle.pass_elide_proof.specs.pass_proofs.ir_model.declared.operand.Intrinsic.{Intrinsic}
use Rattle.pass_elide_proof.specs.pass_proofs.ir_parts.Contents.{result_of}
use Rattle.pass_elide_proof.specs.pass_proofs.ir_paths.Windows.{is_call_of}
use Rattle.pass_elide_proof.specs.pass_proofs.run_framed.Framed.{begin_name, framed_context, framed_step}
use Rattle.pass_elide_proof.specs.pass_proofs.run_source.State.{work_of}
use Rattle.pass_elide_proof.specs.pass_proofs.run_source.declared.state.Activation.{Activation}
use Rattle.pass_elide_proof.specs.pass_proofs.run_source.declared.state.State.{State}
use Rattle.pass_elide_proof.specs.pass_proofs.run_step.Step.{AtInstr, Context, Done, Work, action_of}

-- ---- what is no call of coro.begin

done_begins : (c : Context) (w x : Work) (i : Instr) → action_of c w (AtInstr i) ≡ Done x
    → is_call_of Intrinsic.CoroBegin i ≡ false
done_begins c w x (Instr.Call result must_tail ty (Callee.Intrinsic j) args) does = by j does
  where
    by : (j : Intrinsic)
        → action_of c w (AtInstr (Instr.Call result must_tail ty (Callee.Intrinsic j) args)) ≡ Done x
        → is_call_of Intrinsic.CoroBegin (Instr.Call result must_tail ty (Callee.Intrinsic j) args) ≡ false
    by Intrinsic.CoroBegin does = absurd (cc)
    by _ does = refl
done_begins c w x (Instr.Call result must_tail ty (Callee.Named n) args) does = refl
done_begins c w x (Instr.Call result must_tail ty (Callee.Allocator a) args) does = refl
done_begins c w x (Instr.Call result must_tail ty (Callee.Local n) args) does = refl
done_begins c w x (Instr.Binary name op flags ty a b) does = refl
done_begins c w x (Instr.Icmp name pred ty a b) does = refl
done_begins c w x (Instr.Select name z a b) does = refl
done_begins c w x (Instr.Cast name op nneg arg to) does = refl
done_begins c w x (Instr.Alloca name ty align) does = refl
done_begins c w x (Instr.Load name ty p align) does = refl
done_begins c w x (Instr.Store arg p align) does = refl
done_begins c w x (Instr.Gep name inbounds ty base indices) does = refl

entering_begins : (i : Instr) → is_entering i ≡ true → is_call_of Intrinsic.CoroBegin i ≡ false
entering_begins (Instr.Call result must_tail ty (Callee.Intrinsic j) args) is = absurd (cc)
entering_begins (Instr.Call result must_tail ty (Callee.Named n) args) is = refl
entering_begins (Instr.Call result must_tail ty (Callee.Allocator a) args) is = refl
entering_begins (Instr.Call result must_tail ty (Callee.Local n) args) is = refl
entering_begins (Instr.Binary name op flags ty a b) is = refl
entering_begins (Instr.Icmp name pred ty a b) is = refl
entering_begins (Instr.Select name z a b) is = refl
entering_begins (Instr.Cast name op nneg arg to) is = refl
entering_begins (Instr.Alloca name ty align) is = refl
entering_begins (Instr.Load name ty p align) is = refl
entering_begins (Instr.Store arg p align) is = refl
entering_begins (Instr.Gep name inbounds ty base indices) is = refl

-- ---- both runs

module _ (e : Elision) (places : KeepsPlaces e) (keeps : KeepsHandlesAndEnds e) (s t : State)
    (known : IsKnownState e.code s) (b : HasBeside e s t) (h : AreCalled e t) where
  -- no other instruction gives begin's name
  other : (func block at : ℕ) (i : Instr) → slice_get (instrs_of (function_in e func) block) at ≡ Some i
      → is_call_of Intrinsic.CoroBegin i ≡ false → (v : ℕ) → begin_name (function_in e func) ≡ Some v
      → result_of i ≡ Some v → ⊥
  other func block at i there none v name gives =
      not_both (is_call_of Intrinsic.CoroBegin i) ((keeps.begins func).alone block at v i name there gives) none

  room : (block at : ℕ) (i : Instr) → slice_get (instrs_of (function_in e s.top.func) block) at ≡ Some i
      → (v : ℕ) → result_of i ≡ Some v → v < length t.top.values
  room block at i there v gives =
      let low = ((places.instrs s.top.func).sets block at v i there gives).low in
      let wide = known.acts.0.room in
      let more = b.room in
      omega (arith, low, wide, more)

  room_too : (block at : ℕ) (i : Instr) → slice_get (instrs_of (function_in e t.top.func) block) at ≡ Some i
      → (v : ℕ) → result_of i ≡ Some v → v < length t.top.values
  room_too block at i there =
      room block at i ((λ j. slice_get (instrs_of (function_in e (sym b.func j)) block) at) ∙ there)

  -- what returns gives its result to a call of a function
  apart : ReturnsApart e t
  apart c rest below w name gives = by s.below known.coming b.below
    where
      none_some : (o : Option ℕ) → o ≡ None → o ≡ Some w → ⊥
      none_some None n y = absurd (cc)
      none_some (Some z) n y = absurd (cc)

      behind : (a : Activation) → c.func ≡ a.func → (s.top.result ≡ None) ⊎ IsBehindCall e.code s.top.result a → ⊥
      behind a func (inl none) = none_some s.top.result none (sym b.result ∙ gives)
      behind a func (inr k) =
          other a.func a.block k.at k.instr k.there (entering_begins k.instr k.enters) w
          (ap (λ (n : ℕ). begin_name (function_in e n)) (sym func) ∙ name)
          (sym k.same ∙ (sym b.result ∙ gives))

      by : (rows : List Activation) → ComeFromCalls e.code (s.top ∷ rows)
          → AreBelow e b.homes b.hides b.sides rows t.below → ⊥
      by [] coming pairs = absurd (subst (λ (cs : List Activation). AreBelow e b.homes b.hides b.sides [] cs) below
          pairs)
      by (a ∷ more) coming pairs =
          behind a (subst (λ (cs : List Activation). AreBelow e b.homes b.hides b.sides (a ∷ more) cs) below
          pairs).0.1.func coming.0

  no_begin : (j : Intrinsic) → gives_only j ≡ true → (result : Option ℕ) (must_tail : Bool)
      (ty : Option Ty) (args : List Arg)
      → is_call_of Intrinsic.CoroBegin (Instr.Call result must_tail ty (Callee.Intrinsic j) args) ≡ false
  no_begin Intrinsic.CoroBegin is result must_tail ty args = absurd (cc)
  no_begin _ is result must_tail ty args = refl

  no_begin_saved : (j : Intrinsic) → saves_by j ≡ true → (result : Option ℕ) (must_tail : Bool)
      (ty : Option Ty) (args : List Arg)
      → is_call_of Intrinsic.CoroBegin (Instr.Call result must_tail ty (Callee.Intrinsic j) args) ≡ false
  no_begin_saved Intrinsic.CoroBegin is result must_tail ty args = absurd (cc)
  no_begin_saved _ is result must_tail ty args = refl

  no_begin_marked : (j : Intrinsic) → (j ≡ Intrinsic.LifetimeStart) ⊎ (j ≡ Intrinsic.LifetimeEnd)
      → (result : Option ℕ) (must_tail : Bool) (ty : Option Ty) (args : List Arg)
      → is_call_of Intrinsic.CoroBegin (Instr.Call result must_tail ty (Callee.Intrinsic j) args) ≡ false
  no_begin_marked j (inl is) result must_tail ty args =
      ap (λ (k : Intrinsic). is_call_of Intrinsic.CoroBegin (Instr.Call result must_tail ty (Callee.Intrinsic k)
      args)) is
  no_begin_marked j (inr is) result must_tail ty args =
      ap (λ (k : Intrinsic). is_call_of Intrinsic.CoroBegin (Instr.Call result must_tail ty (Callee.Intrinsic k)
      args)) is

  pub stays_known : TakesStep e s t → AreCalled e (framed_step (elided e) t)
  stays_known (TakesStep.Works at i w k) =
      done_known e t h at i
      (other t.top.func t.top.block at i k.place.there (done_begins (framed_context (elided e) t) (work_of t) w i k.does)) w k
  stays_known (TakesStep.Allocates at a result must_tail ty args k) =
      allocators_known e t h at result must_tail ty args (other t.top.func t.top.block at _ k.there refl) a k
  stays_known (TakesStep.Marks at j result must_tail ty args is k free) =
      markers_known e t h at result must_tail ty args
      (other t.top.func t.top.block at _ k.there (no_begin_marked j is result must_tail ty args)) j is k
  stays_known (TakesStep.Makes at name ty align k mode) =
      allocas_known e t at name ty align k h
      (λ is. other t.top.func t.top.block at (Instr.Alloca name ty align) k.there refl name is refl)
  stays_known (TakesStep.MakesAgain at name ty align from label k inside mode) =
      allocas_known e t at name ty align k h
      (λ is. other t.top.func t.top.block at (Instr.Alloca name ty align) k.there refl name is refl)
  stays_known (TakesStep.Gives at j result must_tail ty args is k) =
      gives_only_known e t h at result must_tail ty args
      (other t.top.func t.top.block at _ k.there (no_begin j is result must_tail ty args)) j is k
  stays_known (TakesStep.Saves at j result must_tail ty args is k m) =
      saves_stay_known e t h at result must_tail ty args
      (other t.top.func t.top.block at _ k.there (no_begin_saved j is result must_tail ty args)) j is k m
  stays_known (TakesStep.Begins at result must_tail ty args k inside those) =
      begin_known e t at result must_tail ty args k those.1
      (λ v name. (keeps.begins t.top.func).named t.top.block at v _ k.there refl name)
      (room_too t.top.block at _ k.there) h
  stays_known (TakesStep.EndsRamp at result must_tail ty args k ramp) =
      ramp_ends_known e t h at result must_tail ty args (other t.top.func t.top.block at _ k.there refl) ramp k
  stays_known (TakesStep.EndsResumed at result must_tail ty args k resumed inside ends) =
      resumed_ends_known e t h apart at result must_tail ty args k resumed
  stays_known (TakesStep.Enters label k past) = edges_known e t label k h (keeps.begins t.top.func).phis
  stays_known (TakesStep.Calls r k) =
      calls_known e s t r k (room s.top.block s.top.at _ k.there) h
  stays_known (TakesStep.Sites r k) =
      sites_known e s t r k (room s.top.block s.top.at _ k.there) h
  stays_known (TakesStep.Resumes at result must_tail ty args k none) =
      resumes_known e t at result must_tail ty args h k
  stays_known (TakesStep.Destroys at result must_tail ty args k none) =
      destroys_known e t at result must_tail ty args h k
  stays_known (TakesStep.Returns k) = rets_known e t h apart k
