-- In which modes activations are.
use Rattle.std.proofs.Common.{◌≡◌, ◌∙◌, ◌+◌, ℕ, Bool, true, false, List, ◌∷◌, None, Ok, Option, Some, ap, if◌then◌else◌, refl, sym, subst}
use Rattle.std.specs.Prelude.{negsuc, slice_get, map}
use Rattle.pass_elide_proof.proofs.ElidedFound.{fetched}
use Rattle.pass_elide_proof.proofs.Facts.{not_both}
use Rattle.pass_elide_proof.proofs.GoesOn.{instr_there}
use Rattle.pass_elide_proof.specs.Places.{instrs_of}
use Rattle.pass_elide_proof.specs.StepCases.{ActsBy, CallsGiven, LeadsTo, ended, saved_at}
use Rattle.pass_elide_runs.proofs.Acts.{MakesOne, makes_one}
use Rattle.pass_elide_runs.proofs.Allocas.{alloca_is, next_alloca}
use Rattle.pass_elide_runs.proofs.Led.{sound_there, state_reached}
use Rattle.pass_elide_runs.proofs.Runs.{runs_keep}
use Rattle.pass_elide_runs.proofs.Stacks.{Comes, changed_stack, comes, ended_stack, gone_stack, woken_at}
use Rattle.pass_elide_runs.specs.Modes.{HasSuspend, IsEnteringAt, KnowModes, KnowsMode}
use Rattle.pass_elide_proof.specs.pass_proofs.ir_base.declared.cause.Cause.{Cause}
use Rattle.pass_elide_proof.specs.pass_proofs.ir_base.declared.outcome.Outcome.{Outcome}
use Rattle.pass_elide_proof.specs.pass_proofs.ir_base.declared.outcome.Word.{Word}
use Rattle.pass_elide_proof.specs.pass_proofs.ir_model.Names.{function_at}
use Rattle.pass_elide_proof.specs.pass_proofs.ir_model.Ty.{Ty}
use Rattle.pass_elide_proof.specs.pass_proofs.ir_model.declared.instr.Instr.{Instr}
use Rattle.pass_elide_proof.specs.pass_proofs.ir_model.declared.module.Module.{Module}
use Rattle.pass_elide_proof.specs.pass_proofs.ir_model.declared.operand.Arg.{Arg}
use Rattle.pass_elide_proof.specs.pass_proofs.ir_model.declared.operand.Callee.{Callee}
use Rattle.pass_elide_proof.specs.pass_proofs.ir_paths.declared.point.Point.{Point}
use Rattle.pass_elide_proof.specs.pass_proofs.pass_kept_proof.Related.{IsSoundStatus}
use Rattle.pass_elide_proof.specs.pass_proofs.run_agreement.Machines.{IsFine}
use Rattle.pass_elide_proof.specs.pass_proofs.run_framed.Framed.{FramedGiven, alloca_from, enter_after, framed_slot, framed_state_at, last_value}
use Rattle.pass_elide_proof.specs.pass_proofs.run_laws.changed.Changed.{Each}
use Rattle.pass_elide_proof.specs.pass_proofs.run_memory.declared.pointer.Value.{Value}
use Rattle.pass_elide_proof.specs.pass_proofs.run_source.Source.{Sleeper, called, enter_block, given_back, if_let_go, mode_of, release, returned, sleeper_at, sleeper_of}
use Rattle.pass_elide_proof.specs.pass_proofs.run_source.State.{function_of, gives, instance_at, next, own_instance, settled, with_left, with_memory, with_slots, with_status}
use Rattle.pass_elide_proof.specs.pass_proofs.run_source.declared.state.Activation.{Activation}
use Rattle.pass_elide_proof.specs.pass_proofs.run_source.declared.state.Instance.{Instance}
use Rattle.pass_elide_proof.specs.pass_proofs.run_source.declared.state.Mode.{Mode}
use Rattle.pass_elide_proof.specs.pass_proofs.run_source.declared.state.State.{State}
use Rattle.pass_elide_proof.specs.pass_proofs.run_source.declared.state.Status.{Status}
use Rattle.pass_elide_proof.specs.pass_proofs.run_step.Results.{and_then, found}
use Rattle.pass_elide_proof.specs.pass_proofs.run_step.Step.{Action, AtInstr, Coro, Done, Enter}
use Rattle.pass_elide_proof.specs.pass_proofs.run_step.Values.{Env, arg_values, integer, nth, truth_value}
use Rattle.run_hooks.proofs.Reached.{at_is}
use Rattle.run_hooks.specs.Reached.{AllHaveSwitches, IsReachedState}

-- ---- a sleeper

pub record IsAsleep (s : State) (y : Sleeper) : Type 0 where
  pub there : slice_get s.instances y.number ≡ Some y.instance
  pub status : y.instance.status ≡ Status.Suspended y.suspend y.values

pub asleep : (s : State) (p : Value) (y : Sleeper) → sleeper_at s p ≡ Ok y → IsAsleep s y
asleep s p y h = by (instance_at s.instances p) refl h
  where
    by_status : (i : ℕ) (x : Instance) (status : Status) → slice_get s.instances i ≡ Some x → x.status ≡ status
        → sleeper_of i x status ≡ Ok y → IsAsleep s y
    by_status i x Status.Running there is h = absurd (cc)
    by_status i x Status.Finished there is h = absurd (cc)
    by_status i x (Status.Suspended point values) there is h =
        let same : record { number = i; instance = x; suspend = point; values = values } ≡ y = cc in
        subst (IsAsleep s) same (record { there = there; status = is })

    by : (o : Option (ℕ × Instance)) → instance_at s.instances p ≡ o
        → and_then (found Cause.Frame o) (λ (i, x). sleeper_of i x x.status) ≡ Ok y → IsAsleep s y
    by None eo h = absurd (cc)
    by (Some (i, x)) eo h = by_status i x x.status (at_is s.instances p i x eo) refl h

-- ---- activations

mode_in : (b : Bool) (from label : ℕ) → (if b then Mode.Ramp else Mode.Plain) ≡ Mode.Entering from label → ⊥
mode_in true from label h = cc
mode_in false from label h = cc

mode_resumed : (b : Bool) → (if b then Mode.Ramp else Mode.Plain) ≡ Mode.Resumed → ⊥
mode_resumed true h = cc
mode_resumed false h = cc

mode_plain : (b : Bool) → b ≡ true → (if b then Mode.Ramp else Mode.Plain) ≡ Mode.Plain → ⊥
mode_plain true is h = cc
mode_plain false is h = cc

-- it doesn't execute its allocas again
abbrev IsCalm : Activation → Type 0
IsCalm a = (from label : ℕ) → a.mode ≡ Mode.Entering from label → ⊥

-- the same function, mode and instance
moved : (m : Module) (a c : Activation) → c.func ≡ a.func → c.mode ≡ a.mode → c.instance ≡ a.instance → IsCalm a
    → KnowsMode m a → KnowsMode m c
moved m a c func mode instance calm h = record {
  inside = λ is plain.
      h.inside (ap (λ (n : ℕ). (function_at m n).coroutine) (sym func) ∙ is) (sym mode ∙ plain);
  resumed = λ is none. h.resumed (sym mode ∙ is) (sym instance ∙ none);
  entering = λ from label is. absurd (calm from label (sym mode ∙ is));
}

-- a new one
called_knows : (m : Module) (func : ℕ) (args : List Value) (result : Option ℕ)
    → KnowsMode m (called m func args result (mode_of (function_at m func)))
called_knows m func args result = record {
  inside = λ is plain. absurd (mode_plain (function_at m func).coroutine is plain);
  resumed = λ is none. absurd (mode_resumed (function_at m func).coroutine is);
  entering = λ from label is. absurd (mode_in (function_at m func).coroutine from label is);
}

given_knows : (m : Module) (func : ℕ) (args : List Value) (result : Option ℕ) (frame : Value)
    → KnowsMode m (called m func args result (Mode.GivenRamp frame))
given_knows m func args result frame = record {
  inside = λ is plain. absurd (cc);
  resumed = λ is none. absurd (cc);
  entering = λ from label is. absurd (cc);
}

-- with other values
with_values : (m : Module) (a : Activation) (values : Env) → KnowsMode m a → KnowsMode m (record a { values = values })
with_values m a values h = record { inside = h.inside; resumed = h.resumed; entering = h.entering }

module _ (g : FramedGiven) where
  abbrev m : Module
  m = g.given.code

  -- what comes of an alloca is a slot alone
  pub calm_at : (s : State) (a : Action) → KnowsMode m s.top → ActsBy g s a → (MakesOne g s a → ⊥) → IsCalm s.top
  calm_at s a h acts never from label is =
      let k = h.entering from label is in
      never (makes_one g s a acts k.name k.ty k.align
      (sym acts.there
      ∙ fetched (function_of g.given s) s.top.block s.top.at (Instr.Alloca k.name k.ty k.align) k.alloca))

  pub calm_given : (s : State) (func : ℕ) (result : Option ℕ) (args : List Arg) → KnowsMode m s.top
      → CallsGiven g s func result args → IsCalm s.top
  calm_given s func result args h calls from label is =
      let k = h.entering from label is in
      no_alloca k.name k.ty k.align
      (sym (fetched (function_of g.given s) s.top.block s.top.at (Instr.Alloca k.name k.ty k.align) k.alloca)
      ∙ calls.there)
    where
      no_alloca : (name : ℕ) (ty : Ty) (align : ℕ)
          → AtInstr (Instr.Alloca name ty align)
          ≡ AtInstr (Instr.Call result calls.must_tail calls.ty (Callee.Named calls.name) args) → ⊥
      no_alloca name ty align h = cc

  -- behind the entry of a label, or at the next alloca
  entered : (s : State) (from label at : ℕ) → (s.top.instance ≡ None → ⊥) → HasSuspend (function_of g.given s) from
      → (o : Option Point) → alloca_from (function_of g.given s) at ≡ o
      → KnowsMode m (enter_after g s from label o).top
  entered s from label at owns suspends None eo = record {
    inside = λ is plain. absurd (cc);
    resumed = λ is none. owns none;
    entering = λ k l is. absurd (cc);
  }
  entered s from label at owns suspends (Some p) eo = record {
    inside = λ is plain. absurd (cc);
    resumed = λ is none. absurd (cc);
    entering = λ k l is. by k l is;
  }
    where
      by : (k l : ℕ) → Mode.Entering from label ≡ Mode.Entering k l
          → IsEnteringAt (function_of g.given s) p.block p.at k s.top.instance
      by k l is =
          let same : from ≡ k = cc in
          let q = next_alloca (function_of g.given s) at p eo in
          let x = alloca_is q.instr q.alloca in
          record {
            owns = owns;
            first = q.first;
            name = x.name;
            ty = x.ty;
            align = x.align;
            alloca = ap (λ (b : ℕ). slice_get (instrs_of (function_of g.given s) b) p.at) q.first
                ∙ (q.there ∙ ap Some x.is);
            from_suspend = subst (HasSuspend (function_of g.given s)) same suspends;
          }

  -- ---- states

  abbrev waiting : State → Activation
  waiting s = record s.top { at = s.top.at + 1 }

  abbrev Known : State → Type 0
  Known s = KnowModes m s

  waits : (s : State) → IsCalm s.top → KnowsMode m s.top → KnowsMode m (waiting s)
  waits s calm h = moved m s.top (waiting s) refl refl refl calm h

  onward : (s t : State) → t.top.func ≡ s.top.func → t.top.mode ≡ s.top.mode → t.top.instance ≡ s.top.instance
      → t.below ≡ s.below → IsCalm s.top → Known s → Known t
  onward s t func mode instance below calm h = (
    moved m s.top t.top func mode instance calm h.0,
    subst (λ (bs : List Activation). Each (KnowsMode m) bs) (sym below) h.1,
  )

  came : (s : State) (v : Option Value) (u : State) → Comes s v u → IsCalm s.top → Known s → Known u
  came s v u (Comes.Ends k) calm h =
      subst Known (sym k.is) (onward s (record (returned s) { outcome = k.outcome }) refl refl refl refl calm h)
  came s v u (Comes.Back k) calm h =
      let rest = subst (λ (bs : List Activation). Each (KnowsMode m) bs) k.below h.1 in
      subst Known (sym k.is)
      (with_values m k.caller (given_back k.caller s.top.result v).values rest.0, rest.1)

  pub modes_stay : (s u : State) → s.outcome ≡ Outcome.Running → IsReachedState g.given s → Known s → LeadsTo g s u
      → Known u
  modes_stay s _ runs q h (LeadsTo.Works w acts) =
      onward s (settled s w) refl refl refl refl (calm_at s (Done w) h.0 acts (λ k. k)) h
  modes_stay s _ runs q h (LeadsTo.MakesSlot w slot acts) = by s.top.mode refl
    where
      z : State
      z = settled s w

      none : (mode : Mode) → s.top.mode ≡ mode → ((from label : ℕ) → mode ≡ Mode.Entering from label → ⊥)
          → Known (with_slots z (slot ∷ s.top.slots))
      none mode is calm =
          onward s (with_slots z (slot ∷ s.top.slots)) refl refl refl refl
          (λ from label at. calm from label (sym is ∙ at)) h

      by : (mode : Mode) → s.top.mode ≡ mode → Known (framed_slot g z slot mode)
      by Mode.Plain is = none Mode.Plain is (λ from label e. absurd (cc))
      by Mode.Ramp is = none Mode.Ramp is (λ from label e. absurd (cc))
      by Mode.Resumed is = none Mode.Resumed is (λ from label e. absurd (cc))
      by (Mode.GivenRamp frame) is = none (Mode.GivenRamp frame) is (λ from label e. absurd (cc))
      by (Mode.Entering from label) is =
          let k = h.0.entering from label is in
          after (alloca_from (function_of g.given s) (s.top.at + 1)) refl k.owns k.from_suspend
        where
          after : (o : Option Point) → alloca_from (function_of g.given s) (s.top.at + 1) ≡ o
              → (s.top.instance ≡ None → ⊥) → HasSuspend (function_of g.given s) from
              → Known (enter_after g (with_slots z (slot ∷ s.top.slots)) from label o)
          after None eo owns suspends =
              (entered (with_slots z (slot ∷ s.top.slots)) from label (s.top.at + 1) owns suspends None eo, h.1)
          after (Some p) eo owns suspends =
              (entered (with_slots z (slot ∷ s.top.slots)) from label (s.top.at + 1) owns suspends (Some p) eo, h.1)
  modes_stay s _ runs q h (LeadsTo.Enters func args result must_tail acts) = (
    called_knows m func args result,
    (waits s (calm_at s (Enter func args result must_tail) h.0 acts (λ k. k)) h.0, h.1),
  )
  modes_stay s _ runs q h (LeadsTo.EntersGiven func result args calls) = (
    given_knows m func (arg_values m s.top.values args) result (last_value (arg_values m s.top.values args)),
    (waits s (calm_given s func result args h.0 calls) h.0, h.1),
  )
  modes_stay s _ runs q h (LeadsTo.Answers i args result v acts) =
      onward s (gives s result v) refl refl refl refl (calm_at s (Coro i args result) h.0 acts (λ k. k)) h
  modes_stay s _ runs q h (LeadsTo.Passes i args result acts) =
      onward s (next s) refl refl refl refl (calm_at s (Coro i args result) h.0 acts (λ k. k)) h
  modes_stay s _ runs q h (LeadsTo.Begins args result mem memory block start acts alone taken) = (
    record {
      inside = h.0.inside;
      resumed = λ is none. absurd (cc);
      entering = λ from label is. absurd (calm_at s _ h.0 acts (λ k. k) from label is);
    },
    h.1,
  )
  modes_stay s _ runs q h (LeadsTo.Releases args result v acts) =
      let k = changed_stack s (λ x. record x { released = true }) (own_instance s) in
      onward s (gives (release s) result v) (ap (λ (a : Activation). a.func) k.top)
      (ap (λ (a : Activation). a.mode) k.top) (ap (λ (a : Activation). a.instance) k.top) k.below
      (calm_at s _ h.0 acts (λ k. k)) h
  modes_stay s _ runs q h (LeadsTo.Saves args result i x save suspend acts own unfreed) =
      onward s (next (saved_at s i x save suspend)) refl refl refl refl (calm_at s _ h.0 acts (λ k. k)) h
  modes_stay s _ runs q h (LeadsTo.Suspends args result i x save suspend acts own unfreed) =
      onward s (gives (saved_at s i x save suspend) result (integer 8 (negsuc 0))) refl refl refl refl
      (calm_at s _ h.0 acts (λ k. k)) h
  modes_stay s _ runs q h (LeadsTo.Wakes i args result y label acts sleeps) =
      after (alloca_from (function_at m y.instance.coroutine) 0) refl
    where
      z : State
      z = woken_at g s y.number y.instance y.suspend

      sleeper : IsAsleep s y
      sleeper = asleep s (nth (arg_values m s.top.values args) 0) y sleeps

      suspends : HasSuspend (function_at m y.instance.coroutine) y.suspend.block
      suspends =
          let c = (subst (IsSoundStatus g.given y.instance.coroutine) sleeper.status
          (sound_there g.given s.instances q.instances y.number y.instance sleeper.there)).1 in
          record {
            at = y.suspend.at;
            suspend = c.instr;
            there = instr_there (function_at m y.instance.coroutine) y.suspend.block y.suspend.at c.instr c.stands;
            suspends = c.is;
          }

      rest : Each (KnowsMode m) (waiting s ∷ s.below)
      rest = (waits s (calm_at s (Coro i args result) h.0 acts (λ k. k)) h.0, h.1)

      owns : Some y.number ≡ None → ⊥
      owns e = cc

      after : (o : Option Point) → alloca_from (function_at m y.instance.coroutine) 0 ≡ o
          → Known (enter_after g z y.suspend.block label o)
      after None eo = (entered z y.suspend.block label 0 owns suspends None eo, rest)
      after (Some p) eo = (entered z y.suspend.block label 0 owns suspends (Some p) eo, rest)
  modes_stay s _ runs q h (LeadsTo.EndsRamp args result acts ramp) =
      let k = ended_stack s in
      onward s (gives (ended s) result (truth_value false)) (ap (λ (a : Activation). a.func) k.top)
      (ap (λ (a : Activation). a.mode) k.top) (ap (λ (a : Activation). a.instance) k.top) k.below
      (calm_at s _ h.0 acts (λ k. k)) h
  modes_stay s _ runs q h (LeadsTo.EndsResumed args result u acts mode back) =
      let k = ended_stack s in
      let calm = calm_at s _ h.0 acts (λ k. k) in
      came (ended s) None u (comes (ended s) None u back)
      (λ from label is. calm from label (sym (ap (λ (a : Activation). a.mode) k.top) ∙ is))
      (onward s (ended s) (ap (λ (a : Activation). a.func) k.top) (ap (λ (a : Activation). a.mode) k.top)
      (ap (λ (a : Activation). a.instance) k.top) k.below calm h)
  modes_stay s _ runs q h (LeadsTo.Deallocates p memory acts dead) =
      let k = gone_stack s (instance_at s.instances p) in
      onward s (next (with_memory (if_let_go s (instance_at s.instances p)) memory))
      (ap (λ (a : Activation). a.func) k.top) (ap (λ (a : Activation). a.mode) k.top)
      (ap (λ (a : Activation). a.instance) k.top) k.below (calm_at s _ h.0 acts (λ k. k)) h
  modes_stay s _ runs q h (LeadsTo.GoesTo label acts none) =
      onward s (enter_block g.given s label) refl refl refl refl (calm_at s _ h.0 acts (λ k. k)) h
  modes_stay s _ runs q h (LeadsTo.Leaves label w ws i x acts leaves own may) =
      onward s (enter_block g.given (with_left (with_status s i x Status.Running) false) label) refl refl refl refl
      (calm_at s _ h.0 acts (λ k. k)) h
  modes_stay s _ runs q h (LeadsTo.Returns v u acts back) =
      came s v u (comes s v u back) (calm_at s _ h.0 acts (λ k. k)) h

  pub modes_in_runs : AllHaveSwitches m → (entry : ℕ) (args : List Word) → (function_at m entry).coroutine ≡ false
      → (n : ℕ) → IsFine (framed_state_at g entry args n).outcome → Known (framed_state_at g entry args n)
  modes_in_runs switches entry args plain n fine =
      runs_keep g Known (IsReachedState g.given) modes_stay entry args (first, tt)
      (λ k ok. state_reached g switches entry args k) n fine
    where
      first : KnowsMode m (called m entry (map Value.Int args) None Mode.Plain)
      first = record {
        inside = λ is p. absurd (not_both (function_at m entry).coroutine is plain);
        resumed = λ is none. absurd (cc);
        entering = λ from label is. absurd (cc);
      }
