-- Each activation was made by the instruction in front of the place of the one below it.
use Rattle.std.proofs.Common.{◌≡◌, ◌∙◌, ◌+◌, ℕ, Bool, true, false, List, [], ◌∷◌, None, Option, Some, ap, refl, sym, subst}
use Rattle.std.specs.Prelude.{negsuc}
use Rattle.pass_elide_proof.proofs.GoesOn.{instr_there}
use Rattle.pass_elide_proof.proofs.PlacingActions.{EntersNone, instr_none, term_none}
use Rattle.pass_elide_proof.proofs.PlacingFacts.{by_truth}
use Rattle.pass_elide_proof.specs.PlacingStates.{is_entering}
use Rattle.pass_elide_proof.specs.StepCases.{ActsBy, LeadsTo, ended, saved_at}
use Rattle.pass_elide_runs.proofs.Runs.{runs_keep}
use Rattle.pass_elide_runs.proofs.Stacks.{Comes, changed_stack, comes, ended_stack, gone_stack, slotted_on, woken_on}
use Rattle.pass_elide_runs.specs.Calls.{AreCalledFrom, CallsBy, HaveCallsBelow, IsCalledFrom}
use Rattle.pass_elide_proof.proofs.pass_proofs.run_states.sound_states.Fits.{Fits, calls_at, fits}
use Rattle.pass_elide_proof.specs.pass_proofs.ir_base.declared.outcome.Outcome.{Outcome}
use Rattle.pass_elide_proof.specs.pass_proofs.ir_base.declared.outcome.Word.{Word}
use Rattle.pass_elide_proof.specs.pass_proofs.ir_model.Names.{declaration_named, function_at, function_named}
use Rattle.pass_elide_proof.specs.pass_proofs.ir_model.Ty.{Ty}
use Rattle.pass_elide_proof.specs.pass_proofs.ir_model.declared.instr.Instr.{Instr}
use Rattle.pass_elide_proof.specs.pass_proofs.ir_model.declared.module.Module.{Module}
use Rattle.pass_elide_proof.specs.pass_proofs.ir_model.declared.operand.Arg.{Arg}
use Rattle.pass_elide_proof.specs.pass_proofs.ir_model.declared.operand.Callee.{Callee}
use Rattle.pass_elide_proof.specs.pass_proofs.ir_model.declared.operand.Intrinsic.{Intrinsic}
use Rattle.pass_elide_proof.specs.pass_proofs.ir_parts.Contents.{result_of}
use Rattle.pass_elide_proof.specs.pass_proofs.ir_paths.Windows.{is_call_of}
use Rattle.pass_elide_proof.specs.pass_proofs.run_agreement.Machines.{IsFine}
use Rattle.pass_elide_proof.specs.pass_proofs.run_framed.Framed.{FramedGiven, continue_framed, enter_given, framed_context, framed_slot, framed_state_at, given_call, given_ramp, last_value}
use Rattle.pass_elide_proof.specs.pass_proofs.run_laws.changed.Changed.{result_at, result_of as named_result}
use Rattle.pass_elide_proof.specs.pass_proofs.run_memory.declared.pointer.Value.{Value}
use Rattle.pass_elide_proof.specs.pass_proofs.run_source.Source.{begun, called, enter_block, given_back, if_let_go, mode_of, release, returned}
use Rattle.pass_elide_proof.specs.pass_proofs.run_source.State.{function_of, gives, instance_at, next, own_instance, settled, with_left, with_memory, with_status, work_of}
use Rattle.pass_elide_proof.specs.pass_proofs.run_source.declared.state.Activation.{Activation}
use Rattle.pass_elide_proof.specs.pass_proofs.run_source.declared.state.Mode.{Mode}
use Rattle.pass_elide_proof.specs.pass_proofs.run_source.declared.state.State.{State}
use Rattle.pass_elide_proof.specs.pass_proofs.run_source.declared.state.Status.{Status}
use Rattle.pass_elide_proof.specs.pass_proofs.run_step.Step.{Action, AtInstr, AtTerm, Context, Coro, Enter, Fetched, Nowhere, Work, action_of, fetch, named_call, observed, words_of}
use Rattle.pass_elide_proof.specs.pass_proofs.run_step.Values.{arg_values, integer, truth_value}

-- ---- the instruction that enters a function

observed_none : (c : Context) (w : Work) (d : ℕ) (ty : Option Ty) (result : Option ℕ) (args : Option (List Word))
    → EntersNone (observed c w d ty result args)
observed_none c w d ty result None = tt
observed_none c w d None result (Some args) = tt
observed_none c w d (Some ty) result (Some args) = tt

never_enters : (a : Action) (func : ℕ) (vs : List Value) (result : Option ℕ) (must_tail : Bool)
    → a ≡ Enter func vs result must_tail → EntersNone a → ⊥
never_enters a func vs result must_tail is none = subst EntersNone is none

named_is : (c : Context) (w : Work) (o d : Option ℕ) (ty : Option Ty) (r : Option ℕ) (t : Bool) (us : List Value)
    (func : ℕ) (vs : List Value) (result : Option ℕ) (must_tail : Bool)
    → named_call c w o d ty r t us ≡ Enter func vs result must_tail → o ≡ Some func
named_is c w (Some f) d ty r t us func vs result must_tail h = let same : f ≡ func = cc in ap Some same
named_is c w None (Some d) ty r t us func vs result must_tail h =
    absurd (never_enters (observed c w d ty r (words_of us)) func vs result must_tail h
    (observed_none c w d ty r (words_of us)))
named_is c w None None ty r t us func vs result must_tail h = absurd (cc)

-- ---- an instruction that calls an intrinsic

pub record CallsCoro (j : Intrinsic) (here : Fetched) : Type 0 where
  pub instr : Instr
  pub is : here ≡ AtInstr instr
  pub calls : is_call_of j instr ≡ true

coro_by : (j : Intrinsic) (here : Fetched) → calls_at j here ≡ true → CallsCoro j here
coro_by j Nowhere h = absurd (cc)
coro_by j (AtInstr i) h = record { instr = i; is = refl; calls = h }
coro_by j (AtTerm t) h = absurd (cc)

call_result_is : (j : Intrinsic) (i : Instr) → is_call_of j i ≡ true → named_result i ≡ result_of i
call_result_is j (Instr.Call r t ty (Callee.Intrinsic k) args) h = refl
call_result_is j _ h = absurd (cc)

-- what it sets is the name of its result
pub coro_result : (g : FramedGiven) (s : State) (j : Intrinsic) (args : List Arg) (result : Option ℕ)
    (acts : ActsBy g s (Coro j args result)) (i : Instr) → acts.here ≡ AtInstr i → result_of i ≡ result
coro_result g s j args result acts i is =
    let fit = subst (λ (a : Action). Fits s.top.values acts.here a) acts.acts
    (fits (framed_context g s) (work_of s) acts.here) in
    sym (call_result_is j i (sym (ap (calls_at j) is) ∙ fit.0)) ∙ (sym (ap result_at is) ∙ sym fit.1)

module _ (g : FramedGiven) where
  abbrev m : Module
  m = g.given.code

  none_given : (s : State) (result : Option ℕ) (vs : List Value) (o : Option ℕ) → enter_given g s result vs o ≡ None
      → o ≡ None
  none_given s result vs None h = refl
  none_given s result vs (Some func) h = absurd (cc)

  module _ (s : State) (func : ℕ) (vs : List Value) (result : Option ℕ) (must_tail : Bool) where
    abbrev c : Context
    c = framed_context g s

    abbrev w : Work
    w = work_of s

    pub record EntersBy (here : Fetched) : Type 0 where
      pub instr : Instr
      pub is : here ≡ AtInstr instr
      pub calls : CallsBy m func instr

    instr_enters : (i : Instr) → given_call g s (AtInstr i) ≡ None
        → action_of c w (AtInstr i) ≡ Enter func vs result must_tail → is_entering i ≡ true → CallsBy m func i
    instr_enters (Instr.Call r t ty (Callee.Named n) args) none acts enters =
        CallsBy.Names r t ty n args (none_given s r (arg_values m s.top.values args) (given_ramp m n) none)
        (named_is c w (function_named m n) (declaration_named m n) ty r t (arg_values m s.top.values args) func vs
        result must_tail acts)
    instr_enters (Instr.Call r t ty (Callee.Local v) args) none acts enters = CallsBy.Points r t ty v args
    instr_enters _ none acts enters = absurd (cc)

    pub enters_by : (here : Fetched) → given_call g s here ≡ None
        → action_of c w here ≡ Enter func vs result must_tail → EntersBy here
    enters_by Nowhere none acts = absurd (cc)
    enters_by (AtTerm t) none acts =
        absurd (never_enters (action_of c w (AtTerm t)) func vs result must_tail acts (term_none c w t))
    enters_by (AtInstr i) none acts =
        by_truth (is_entering i)
        (λ enters. record { instr = i; is = refl; calls = instr_enters i none acts enters })
        (λ stays. absurd (never_enters (action_of c w (AtInstr i)) func vs result must_tail acts
        (instr_none c w i stays)))

  -- ---- an instruction that calls an intrinsic

  pub calls_coro : (s : State) (j : Intrinsic) (args : List Arg) (result : Option ℕ) (here : Fetched)
      → action_of (framed_context g s) (work_of s) here ≡ Coro j args result → CallsCoro j here
  calls_coro s j args result here acts =
      coro_by j here
      (subst (λ (a : Action). Fits s.top.values here a) acts (fits (framed_context g s) (work_of s) here)).0

  coro_calls : (func : ℕ) (j : Intrinsic) (i : Instr) → is_call_of j i ≡ true → CallsBy m func i
  coro_calls func j (Instr.Call r t ty (Callee.Intrinsic k) args) h = CallsBy.Wakes r t ty k args
  coro_calls func j _ h = absurd (cc)

  -- ---- stacks

  top_same : (a c : Activation) (bs : List Activation) → c.func ≡ a.func → AreCalledFrom m (a ∷ bs)
      → AreCalledFrom m (c ∷ bs)
  top_same a c [] same h = tt
  top_same a c (b ∷ bs) same h = (subst (λ (n : ℕ). IsCalledFrom m n b) (sym same) h.0, h.1)

  abbrev waiting : State → Activation
  waiting s = record s.top { at = s.top.at + 1 }

  pushed : (s : State) (a : Activation) → IsCalledFrom m a.func (waiting s) → HaveCallsBelow m s
      → AreCalledFrom m (a ∷ waiting s ∷ s.below)
  pushed s a k h = (k, top_same s.top (waiting s) s.below refl h)

  stays : (s t : State) → t.top.func ≡ s.top.func → t.below ≡ s.below → HaveCallsBelow m s → HaveCallsBelow m t
  stays s t func below h =
      subst (λ (bs : List Activation). AreCalledFrom m (t.top ∷ bs)) (sym below) (top_same s.top t.top s.below func h)

  came : (s : State) (v : Option Value) (u : State) → Comes s v u → HaveCallsBelow m s → HaveCallsBelow m u
  came s v u (Comes.Ends k) h =
      subst (HaveCallsBelow m) (sym k.is) (stays s (record (returned s) { outcome = k.outcome }) refl refl h)
  came s v u (Comes.Back k) h =
      subst (HaveCallsBelow m) (sym k.is)
      (top_same k.caller (given_back k.caller s.top.result v) k.rest refl
      (subst (λ (bs : List Activation). AreCalledFrom m (s.top ∷ bs)) k.below h).1)

  behind : (s : State) (func : ℕ) (i : Instr) → fetch (function_of g.given s) s.top.block s.top.at ≡ AtInstr i
      → CallsBy m func i → IsCalledFrom m func (waiting s)
  behind s func i there calls = record {
    at = s.top.at;
    instr = i;
    behind = refl;
    there = instr_there (function_of g.given s) s.top.block s.top.at i there;
    calls = calls;
  }

  -- ---- steps

  pub calls_stay : (s u : State) → s.outcome ≡ Outcome.Running → Unit {0} → HaveCallsBelow m s → LeadsTo g s u
      → HaveCallsBelow m u
  calls_stay s _ runs q h (LeadsTo.Works w acts) = stays s (settled s w) refl refl h
  calls_stay s _ runs q h (LeadsTo.MakesSlot w slot acts) =
      let k = slotted_on g (settled s w) slot s.top.mode in
      stays s (framed_slot g (settled s w) slot s.top.mode) k.func k.below h
  calls_stay s _ runs q h (LeadsTo.Enters func args result must_tail acts) =
      let k = enters_by s func args result must_tail acts.here acts.none acts.acts in
      pushed s (called m func args result (mode_of (function_at m func)))
      (behind s func k.instr (acts.there ∙ k.is) k.calls) h
  calls_stay s _ runs q h (LeadsTo.EntersGiven func result args calls) =
      pushed s
      (called m func (arg_values m s.top.values args) result
      (Mode.GivenRamp (last_value (arg_values m s.top.values args))))
      (behind s func (Instr.Call result calls.must_tail calls.ty (Callee.Named calls.name) args) calls.there
      (CallsBy.Gives result calls.must_tail calls.ty calls.name args calls.ramp)) h
  calls_stay s _ runs q h (LeadsTo.Answers i args result v acts) = stays s (gives s result v) refl refl h
  calls_stay s _ runs q h (LeadsTo.Passes i args result acts) = stays s (next s) refl refl h
  calls_stay s _ runs q h (LeadsTo.Begins args result mem memory block start acts alone taken) =
      stays s (gives (begun g.given (with_memory s memory) block start) result mem) refl refl h
  calls_stay s _ runs q h (LeadsTo.Releases args result v acts) =
      let k = changed_stack s (λ x. record x { released = true }) (own_instance s) in
      stays s (gives (release s) result v) (ap (λ (a : Activation). a.func) k.top) k.below h
  calls_stay s _ runs q h (LeadsTo.Saves args result i x save suspend acts own unfreed) =
      stays s (next (saved_at s i x save suspend)) refl refl h
  calls_stay s _ runs q h (LeadsTo.Suspends args result i x save suspend acts own unfreed) =
      stays s (gives (saved_at s i x save suspend) result (integer 8 (negsuc 0))) refl refl h
  calls_stay s _ runs q h (LeadsTo.Wakes i args result y label acts sleeps) =
      let u = continue_framed g s y.number y.instance y.suspend y.values label in
      let k = woken_on g s y.number y.instance y.suspend y.values label in
      let by = calls_coro s i args result acts.here acts.acts in
      subst (λ (bs : List Activation). AreCalledFrom m (u.top ∷ bs)) (sym k.below)
      (pushed s u.top
      (behind s u.top.func by.instr (acts.there ∙ by.is) (coro_calls u.top.func i by.instr by.calls)) h)
  calls_stay s _ runs q h (LeadsTo.EndsRamp args result acts ramp) =
      let k = ended_stack s in
      stays s (gives (ended s) result (truth_value false)) (ap (λ (a : Activation). a.func) k.top) k.below h
  calls_stay s _ runs q h (LeadsTo.EndsResumed args result u acts mode back) =
      let k = ended_stack s in
      came (ended s) None u (comes (ended s) None u back)
      (stays s (ended s) (ap (λ (a : Activation). a.func) k.top) k.below h)
  calls_stay s _ runs q h (LeadsTo.Deallocates p memory acts dead) =
      let k = gone_stack s (instance_at s.instances p) in
      stays s (next (with_memory (if_let_go s (instance_at s.instances p)) memory))
      (ap (λ (a : Activation). a.func) k.top) k.below h
  calls_stay s _ runs q h (LeadsTo.GoesTo label acts none) = stays s (enter_block g.given s label) refl refl h
  calls_stay s _ runs q h (LeadsTo.Leaves label w ws i x acts leaves own may) =
      stays s (enter_block g.given (with_left (with_status s i x Status.Running) false) label) refl refl h
  calls_stay s _ runs q h (LeadsTo.Returns v u acts back) = came s v u (comes s v u back) h

  pub calls_in_runs : (entry : ℕ) (args : List Word) (n : ℕ) → IsFine (framed_state_at g entry args n).outcome
      → HaveCallsBelow m (framed_state_at g entry args n)
  calls_in_runs entry args n fine =
      runs_keep g (HaveCallsBelow m) (λ s. Unit {0}) calls_stay entry args tt (λ k ok. tt) n fine
