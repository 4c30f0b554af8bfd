-- A framed run returns from its last activation alone: where it has returned, none is below.
use Rattle.std.proofs.Common.{◌≡◌, ◌∙◌, ◌⊎◌, inl, inr, ℕ, zero, suc, Bool, true, false, List, [], ◌∷◌, Err, None, Ok, Option, Result, Some, ap, if◌then◌else◌, refl, subst, sym, ◌&&◌, ◌==◌}
use Rattle.pass_elide_proof.proofs.Checked.{framed_stays}
use Rattle.pass_elide_proof.proofs.StepCases.{leads_to, then_ok}
use Rattle.pass_elide_proof.specs.StepCases.{LeadsTo, ended}
use Rattle.pass_proofs.proofs.run_agreement.Compose.{returned_fine}
use Rattle.pass_proofs.proofs.run_agreement.Runs.{running_or}
use Rattle.pass_proofs.specs.ir_base.declared.cause.Cause.{Cause}
use Rattle.pass_proofs.specs.ir_base.declared.outcome.Outcome.{Outcome}
use Rattle.pass_proofs.specs.ir_base.declared.outcome.Word.{Word}
use Rattle.pass_proofs.specs.ir_model.Names.{function_at}
use Rattle.pass_proofs.specs.ir_paths.declared.point.Point.{Point}
use Rattle.pass_proofs.specs.run_agreement.Machines.{IsReturned, IsRunning, iterate}
use Rattle.pass_proofs.specs.run_framed.Framed.{FramedGiven, alloca_from, continue_framed, disown_given, enter_after, framed_finish, framed_slot, framed_state_at, framed_step, is_stack_block, reentry_values}
use Rattle.pass_proofs.specs.run_memory.Memory.{disown}
use Rattle.pass_proofs.specs.run_memory.declared.pointer.Value.{Value}
use Rattle.pass_proofs.specs.run_source.Source.{change_own, finish, first_state, if_let_go, let_go, may_be_freed, pop, push, resumed, return, returned}
use Rattle.pass_proofs.specs.run_source.State.{frame_address_of, own_instance, with_memory, with_slots, with_status}
use Rattle.pass_proofs.specs.run_source.declared.state.Activation.{Activation}
use Rattle.pass_proofs.specs.run_source.declared.state.Instance.{Instance}
use Rattle.pass_proofs.specs.run_source.declared.state.Mode.{Mode}
use Rattle.pass_proofs.specs.run_source.declared.state.State.{State}
use Rattle.pass_proofs.specs.run_source.declared.state.Status.{Status}
use Rattle.pass_proofs.specs.run_step.Step.{outcome_of}
use Rattle.pass_proofs.specs.run_step.Values.{Env}
use Rattle.pass_proofs.specs.run_step.declared.world.Slot.{Slot}

abbrev Runs : State → Type 0
Runs s = s.outcome ≡ Outcome.Running

-- it goes on, or none is below
abbrev IsLast : State → Type 0
IsLast s = Runs s ⊎ (s.below ≡ [])

-- ---- parts of a step

changed : (s : State) (f : Instance → Instance) (o : Option (ℕ × Instance)) → Runs s → Runs (change_own s f o)
changed s f None h = h
changed s f (Some (i, x)) h = h

disowned : (s : State) (o : Option (ℕ × Instance)) → Runs s → Runs (disown_given s o)
disowned s None h = h
disowned s (Some (i, x)) h = on (is_stack_block s.world.memory x.block && (x.start == 0))
  where
    on : (t : Bool) → Runs (if t then with_memory s (disown s.world.memory x.block) else s)
    on true = h
    on false = h

gone : (s : State) (o : Option (ℕ × Instance)) → Runs s → Runs (if_let_go s o)
gone s None h = h
gone s (Some (i, x)) h = on (may_be_freed x)
  where
    on : (t : Bool) → Runs (if t then let_go s i x else s)
    on true = h
    on false = h

over : (s : State) → Runs s → Runs (ended s)
over s h = on s.top.has_left
  where
    on : (t : Bool) → Runs (if t then s else framed_finish s)
    on true = h
    on false = disowned (finish s) (own_instance s) (changed s _ (own_instance s) h)

after : (g : FramedGiven) (s : State) (from label : ℕ) (o : Option Point) → Runs s → Runs (enter_after g s from label o)
after g s from label None h = h
after g s from label (Some p) h = h

woken : (g : FramedGiven) (s : State) (i : ℕ) (x : Instance) (p : Point) (values : Env) (label : ℕ) → Runs s
    → Runs (continue_framed g s i x p values label)
woken g s i x p values label h =
    after g (push (with_status s i x Status.Running) (resumed i x p (reentry_values
    (function_at g.given.code x.coroutine) (frame_address_of x)))) p.block label
    (alloca_from (function_at g.given.code x.coroutine) 0) h

slotted : (g : FramedGiven) (s : State) (slot : Slot) (mode : Mode) → Runs s → Runs (framed_slot g s slot mode)
slotted g s slot Mode.Plain h = h
slotted g s slot Mode.Ramp h = h
slotted g s slot Mode.Resumed h = h
slotted g s slot (Mode.GivenRamp frame) h = h
slotted g s slot (Mode.Entering from label) h = after g (with_slots s (slot ∷ s.top.slots)) from label _ h

-- a return leads to the caller, or none is below
popped : (s : State) (v : Option Value) (bs : List Activation) (u : State) → s.below ≡ bs → Runs s
    → pop s v bs ≡ Ok u → IsLast u
popped s v [] u is h e =
    let k = then_ok (outcome_of v) _ u e in inr (sym (ap (λ (r : Result State Cause). below_in r) k.2) ∙ is)
  where
    below_in : Result State Cause → List Activation
    below_in (Ok w) = w.below
    below_in (Err cause) = []
popped s v (a ∷ bs) u is h e = inl (ap (λ (r : Result State Cause). outcome_in r) (sym e) ∙ h)
  where
    outcome_in : Result State Cause → Outcome
    outcome_in (Ok w) = w.outcome
    outcome_in (Err cause) = Outcome.Running

returns : (s : State) (v : Option Value) (u : State) → Runs s → return s v ≡ Ok u → IsLast u
returns s v u h e = popped (returned s) v s.below u refl h e

-- ---- steps

module _ (g : FramedGiven) where
  last : (s u : State) → Runs s → LeadsTo g s u → IsLast u
  last s _ h (LeadsTo.Works w acts) = inl h
  last s _ h (LeadsTo.MakesSlot w slot acts) = inl (slotted g _ slot s.top.mode h)
  last s _ h (LeadsTo.Enters func args result must_tail acts) = inl h
  last s _ h (LeadsTo.EntersGiven func result args calls) = inl h
  last s _ h (LeadsTo.Answers i args result v acts) = inl h
  last s _ h (LeadsTo.Passes i args result acts) = inl h
  last s _ h (LeadsTo.Begins args result mem memory block start acts alone taken) = inl h
  last s _ h (LeadsTo.Releases args result v acts) = inl (changed s _ (own_instance s) h)
  last s _ h (LeadsTo.Saves args result i x save suspend acts own unfreed) = inl h
  last s _ h (LeadsTo.Suspends args result i x save suspend acts own unfreed) = inl h
  last s _ h (LeadsTo.Wakes i args result y label acts sleeps) = inl (woken g s y.number y.instance y.suspend y.values label h)
  last s _ h (LeadsTo.EndsRamp args result acts ramp) = inl (over s h)
  last s _ h (LeadsTo.EndsResumed args result u acts mode back) = returns (ended s) None u (over s h) back
  last s _ h (LeadsTo.Deallocates p memory acts dead) = inl (gone s _ h)
  last s _ h (LeadsTo.GoesTo label acts stays) = inl h
  last s _ h (LeadsTo.Leaves label w ws i x acts leaves own may) = inl h
  last s _ h (LeadsTo.Returns v u acts back) = returns s v u h back

  -- a state that has returned has none below
  abbrev pub IsOverAlone : State → Type 0
  IsOverAlone s = IsReturned s.outcome → s.below ≡ []

  none : (u : State) → IsLast u → IsOverAlone u
  none u (inl runs) ends = absurd (subst IsReturned runs ends)
  none u (inr below) ends = below

  running_is : (o : Outcome) → IsRunning o → o ≡ Outcome.Running
  running_is (Outcome.Returned v) h = absurd h
  running_is Outcome.Running h = refl
  running_is (Outcome.Undefined cause place) h = absurd h

  pub steps_over_alone : (s : State) → IsOverAlone s → IsOverAlone (framed_step g s)
  steps_over_alone s h ends = on (running_or s.outcome)
    where
      on : IsRunning s.outcome ⊎ (IsRunning s.outcome → ⊥) → (framed_step g s).below ≡ []
      on (inl runs) =
          let is = running_is s.outcome runs in
          none (framed_step g s)
          (last s (framed_step g s) is (leads_to g s is (returned_fine (framed_step g s).outcome ends))) ends
      on (inr stays) =
          let same = framed_stays g s stays in
          ap (λ (v : State). v.below) same ∙ h (subst (λ (v : State). IsReturned v.outcome) same ends)

  pub runs_over_alone : (entry : ℕ) (args : List Word) (n : ℕ)
      → IsReturned (framed_state_at g entry args n).outcome → (framed_state_at g entry args n).below ≡ []
  runs_over_alone entry args n = on n (first_state g.given.code entry args) (λ ends. refl)
    where
      on : (n : ℕ) (s : State) → IsOverAlone s → IsOverAlone (iterate (framed_step g) n s)
      on zero s h = h
      on (suc n) s h = on n (framed_step g s) (steps_over_alone s h)
