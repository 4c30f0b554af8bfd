-- In the run that gives frames a ramp that was given its frame alone is in the block beside the allocator's.
use Rattle.std.proofs.Common.{◌≡◌, ◌⊎◌, inl, inr, ◌∙◌, ◌+◌, ℕ, suc, Bool, true, false, List, ◌∷◌, length, None, Option, Some, ap, if◌then◌else◌, refl, sym, subst, arith}
use Rattle.pass_elide_meaning.proofs.pass_elide_edges.EdgesApart.{not_beside}
use Rattle.pass_elide_meaning.specs.pass_elide_edges.Keeping.{KeepsEnds}
use Rattle.pass_elide_lacks.proofs.Asking.{asks_alone, ends_asking, no_switch, not_entry, same_code}
use Rattle.pass_elide_lacks.specs.Aside.{IsAside, StandAside, StandsAside}
use Rattle.pass_elide_lacks.specs.Keeps.{KeepsAsked}
use Rattle.pass_elide_meaning.proofs.pass_elide_runs.Acts.{branches_to}
use Rattle.pass_elide_meaning.proofs.pass_elide_runs.Allocas.{next_alloca}
use Rattle.pass_elide_meaning.proofs.pass_elide_runs.Elided.{elided_switches}
use Rattle.pass_elide_meaning.proofs.pass_elide_runs.ElidedFirst.{elided_begins}
use Rattle.pass_elide_meaning.proofs.pass_elide_runs.KnownModes.{IsAsleep, asleep}
use Rattle.pass_elide_meaning.proofs.pass_elide_runs.Led.{sound_there, state_reached}
use Rattle.pass_elide_meaning.proofs.pass_elide_runs.Runs.{runs_keep_by}
use Rattle.pass_elide_meaning.proofs.pass_elide_runs.SizeNames.{FitsAlloc, answers_in_runs}
use Rattle.pass_elide_meaning.proofs.pass_elide_runs.Stacks.{Comes, changed_stack, comes, ended_stack, gone_stack, woken_at, woken_on}
use Rattle.pass_elide_meaning.proofs.pass_elide_runs.WakesBy.{IsWoken, wakes_by}
use Rattle.pass_elide_meaning.specs.pass_elide_runs.Keeps.{KeepsRuns}
use Rattle.pass_elide_meaning.specs.pass_elide_runs.Names.{AsksAlloc, HaveGiven, IsGivenBy}
use Rattle.pass_elide_meaning.proofs.pass_elide_edges.pass_elide_proof.ReleasingActs.{goto_there}
use Rattle.pass_elide_meaning.specs.pass_elide_edges.pass_elide_proof.Elision.{Elision, elided, elided_code, function_in}
use Rattle.pass_elide_meaning.specs.pass_elide_edges.pass_elide_proof.Match.{is_given_mode}
use Rattle.pass_elide_meaning.specs.pass_elide_edges.pass_elide_proof.Placing.{KeepsPlaces}
use Rattle.pass_elide_meaning.specs.pass_elide_edges.pass_elide_proof.Shapes.{AsksForFrame}
use Rattle.pass_elide_meaning.specs.pass_elide_edges.pass_elide_proof.StepCases.{ActsBy, LeadsTo, ended}
use Rattle.pass_elide_meaning.specs.pass_elide_edges.pass_elide_proof.pass_proofs.ir_base.declared.outcome.Outcome.{Outcome}
use Rattle.pass_elide_meaning.specs.pass_elide_edges.pass_elide_proof.pass_proofs.ir_base.declared.outcome.Word.{Word}
use Rattle.pass_elide_meaning.specs.pass_elide_edges.pass_elide_proof.pass_proofs.ir_model.Names.{function_at, position_of}
use Rattle.pass_elide_meaning.specs.pass_elide_edges.pass_elide_proof.pass_proofs.ir_model.declared.instr.Terminator.{Terminator}
use Rattle.pass_elide_meaning.specs.pass_elide_edges.pass_elide_proof.pass_proofs.ir_model.declared.module.Function.{Function}
use Rattle.pass_elide_meaning.specs.pass_elide_edges.pass_elide_proof.pass_proofs.ir_model.declared.module.Module.{Module}
use Rattle.pass_elide_meaning.specs.pass_elide_edges.pass_elide_proof.pass_proofs.ir_model.declared.operand.Intrinsic.{Intrinsic}
use Rattle.pass_elide_meaning.specs.pass_elide_edges.pass_elide_proof.pass_proofs.ir_model.declared.operand.Operand.{Operand}
use Rattle.pass_elide_meaning.specs.pass_elide_edges.pass_elide_proof.pass_proofs.ir_paths.Windows.{destroy_label, resume_label}
use Rattle.pass_elide_meaning.specs.pass_elide_edges.pass_elide_proof.pass_proofs.ir_paths.declared.point.Point.{Point}
use Rattle.pass_elide_meaning.specs.pass_elide_edges.pass_elide_proof.pass_proofs.pass_kept_proof.Needed.{BranchesTo}
use Rattle.pass_elide_meaning.specs.pass_elide_edges.pass_elide_proof.pass_proofs.pass_kept_proof.Related.{IsSoundStatus}
use Rattle.pass_elide_meaning.specs.pass_elide_edges.pass_elide_proof.pass_proofs.pass_kept_proof.SuspendRules.{IsCallAt}
use Rattle.pass_elide_meaning.specs.pass_elide_edges.pass_elide_proof.pass_proofs.run_agreement.Machines.{IsFine}
use Rattle.pass_elide_meaning.specs.pass_elide_edges.pass_elide_proof.pass_proofs.run_framed.Framed.{FramedGiven, alloca_from, allocates, continue_framed, enter_after, framed_context, framed_slot, framed_state_at, framed_step}
use Rattle.pass_elide_meaning.specs.pass_elide_edges.pass_elide_proof.pass_proofs.run_laws.changed.Changed.{Each}
use Rattle.pass_elide_meaning.specs.pass_elide_edges.pass_elide_proof.pass_proofs.run_memory.declared.pointer.Value.{Value}
use Rattle.pass_elide_meaning.specs.pass_elide_edges.pass_elide_proof.pass_proofs.run_source.State.{function_of, instance_at, own_instance, settled, with_slots, work_of}
use Rattle.pass_elide_meaning.specs.pass_elide_edges.pass_elide_proof.pass_proofs.run_source.declared.state.Activation.{Activation}
use Rattle.pass_elide_meaning.specs.pass_elide_edges.pass_elide_proof.pass_proofs.run_source.declared.state.Mode.{Mode}
use Rattle.pass_elide_meaning.specs.pass_elide_edges.pass_elide_proof.pass_proofs.run_source.declared.state.State.{State}
use Rattle.pass_elide_meaning.specs.pass_elide_edges.pass_elide_proof.pass_proofs.run_step.Step.{AtTerm, GoTo, action_of, branch, fetch, term_action}
use Rattle.pass_elide_meaning.specs.pass_elide_edges.pass_elide_proof.pass_proofs.run_step.Values.{truth_value, value_in, with_result}
use Rattle.run_slots.specs.run_hooks.Away.{HasStop}
use Rattle.run_slots.specs.run_hooks.Reached.{IsReachedState}

-- ---- answers, and modes of calls

stuck : (one other label : ℕ) → branch Value.Poison one other ≡ GoTo label → ⊥
stuck one other label h = cc

answered : (b : Bool) (one other label : ℕ) → branch (truth_value b) one other ≡ GoTo label
    → (if b then one else other) ≡ label
answered true one other label h = cc
answered false one other label h = cc

called_calm : (b : Bool) (from label : ℕ) → (if b then Mode.Ramp else Mode.Plain) ≡ Mode.Entering from label → ⊥
called_calm true from label h = cc
called_calm false from label h = cc

resumed_calm : (from label : ℕ) → Mode.Resumed ≡ Mode.Entering from label → ⊥
resumed_calm from label h = cc

same_label : (from k label l : ℕ) → Mode.Entering from label ≡ Mode.Entering k l → label ≡ l
same_label from k label l h = cc

module _ (e : Elision) (keeps : KeepsPlaces e) (ends : KeepsEnds e) (k : KeepsRuns e) (asked : KeepsAsked e) where
  abbrev g : FramedGiven
  g = elided e

  abbrev m : Module
  m = elided_code e

  abbrev Asks : ℕ → Type 0
  Asks func = AsksForFrame (function_in e func) (e.shape func)

  abbrev On : State → Type 0
  On s = Each (StandsAside e) (s.top ∷ s.below)

  -- what else holds of the states
  pub record IsAskedState (s : State) : Type 0 where
    pub reached : IsReachedState g.given s
    pub answers : HaveGiven FitsAlloc AsksAlloc m s

  position_in : (func label : ℕ) (a : Asks func) → position_of (function_at m func) label ≡ a.beside
      → position_of (function_in e func) label ≡ a.beside
  position_in func label a is =
      ap (λ (f : Function). position_of f label) (sym (same_code e keeps asked func a)) ∙ is

  -- ---- one activation

  -- in the entry block
  at_entry : (func block : ℕ) (mode : Mode) → block ≡ 0
      → ((from label : ℕ) → mode ≡ Mode.Entering from label → (a : Asks func)
      → position_of (function_in e func) label ≡ a.beside → ⊥) → IsAside e func block mode
  at_entry func block mode first past = record {
    given = λ a is. absurd (not_entry e keeps asked func a (sym first ∙ is));
    entering = past;
  }

  -- at a label behind a suspend
  at_label : (func label : ℕ)
      → ((a : Asks func) → position_of (function_in e func) label ≡ a.beside → ⊥)
      → IsAside e func (position_of (function_at m func) label) Mode.Resumed
  at_label func label past = record {
    given = λ a is. absurd (past a (position_in func label a is));
    entering = λ from l is a. absurd (resumed_calm from l is);
  }

  -- over an edge
  module _ (s : State) (label : ℕ) (acts : ActsBy g s (GoTo label)) (q : IsAskedState s) where
    last : (t : Terminator) × (acts.here ≡ AtTerm t)
    last = goto_there (framed_context g s) (work_of s) acts.here label acts.acts

    module _ (a : Asks s.top.func) (is : position_of (function_at m s.top.func) label ≡ a.beside) where
      abbrev f : Function
      f = function_in e s.top.func

      there : fetch f s.top.block s.top.at ≡ AtTerm last.0
      there =
          ap (λ (h : Function). fetch h s.top.block s.top.at) (sym (same_code e keeps asked s.top.func a))
          ∙ (acts.there ∙ last.1)

      term_is : last.0 ≡ Terminator.Branch (Operand.Local a.need) a.one a.other
      term_is =
          ends_asking e keeps asked s.top.func a s.top.block s.top.at label last.0 there
          (subst (BranchesTo label) last.1 (branches_to g s label acts)) (position_in s.top.func label a is)

      goes_by : branch (value_in s.top.values a.need) a.one a.other ≡ GoTo label
      goes_by =
          sym (ap (term_action (framed_context g s) (work_of s)) term_is)
          ∙ (ap (action_of (framed_context g s) (work_of s)) (sym last.1) ∙ acts.acts)

      alone : IsGivenBy AsksAlloc (function_at m s.top.func) a.need
      alone =
          subst (λ (h : Function). IsGivenBy AsksAlloc h a.need) (sym (same_code e keeps asked s.top.func a))
          (asks_alone e keeps asked s.top.func a ends)

      by_mode : (t : Bool) → allocates s.top.mode ≡ t → value_in s.top.values a.need ≡ truth_value t
          → is_given_mode s.top.mode ≡ true
      by_mode false mode fit = ap (λ (t : Bool). if t then false else true) mode
      by_mode true mode fit =
          let one = answered true a.one a.other label
          (sym (ap (λ (v : Value). branch v a.one a.other) fit) ∙ goes_by) in
          absurd (not_beside f (e.shape s.top.func) a (sym a.to_allocator ∙ (ap (position_of f) one
          ∙ position_in s.top.func label a is)))

      by_answer : (value_in s.top.values a.need ≡ Value.Poison)
          ⊎ (value_in s.top.values a.need ≡ truth_value (allocates s.top.mode)) → is_given_mode s.top.mode ≡ true
      by_answer (inl poison) =
          absurd (stuck a.one a.other label (sym (ap (λ (v : Value). branch v a.one a.other) poison) ∙ goes_by))
      by_answer (inr fit) = by_mode (allocates s.top.mode) refl fit

      asks_given : is_given_mode s.top.mode ≡ true
      asks_given = by_answer (q.answers.0 a.need alone)

    over : StandsAside e s.top → IsAside e s.top.func (position_of (function_at m s.top.func) label) s.top.mode
    over h = record { given = asks_given; entering = h.entering }

  -- behind a return
  came : (s : State) (v : Option Value) (u : State) → Comes s v u → On s → On u
  came s v u (Comes.Ends c) h = subst On (sym c.is) (h.0, h.1)
  came s v u (Comes.Back c) h =
      let rest = subst (λ (bs : List Activation). Each (StandsAside e) bs) c.below h.1 in
      subst On (sym c.is) (rest.0, rest.1)

  -- ---- steps

  pub aside_stays : (s u : State) → s.outcome ≡ Outcome.Running → framed_step g s ≡ u → IsFine u.outcome
      → IsAskedState s → On s → LeadsTo g s u → On u
  aside_stays s _ runs step fine q h (LeadsTo.Works w acts) = (h.0, h.1)
  aside_stays s _ runs step fine q h (LeadsTo.MakesSlot w slot acts) = by s.top.mode refl
    where
      by : (mode : Mode) → s.top.mode ≡ mode → On (framed_slot g (settled s w) slot mode)
      by Mode.Plain is = (h.0, h.1)
      by Mode.Ramp is = (h.0, h.1)
      by Mode.Resumed is = (h.0, h.1)
      by (Mode.GivenRamp frame) is = (h.0, h.1)
      by (Mode.Entering from label) is = after (alloca_from (function_of g.given s) (s.top.at + 1)) refl
        where
          after : (o : Option Point) → alloca_from (function_of g.given s) (s.top.at + 1) ≡ o
              → On (enter_after g (with_slots (settled s w) (slot ∷ s.top.slots)) from label o)
          after None eo = (at_label s.top.func label (λ a there. h.0.entering from label is a there), h.1)
          after (Some p) eo = (
            at_entry s.top.func p.block (Mode.Entering from label)
                (next_alloca (function_of g.given s) (s.top.at + 1) p eo).first
                (λ j l same a there.
                h.0.entering from label is a
                (ap (position_of (function_in e s.top.func)) (same_label from j label l same) ∙ there)),
            h.1,
          )
  aside_stays s _ runs step fine q h (LeadsTo.Enters func args result must_tail acts) = (
    at_entry func 0 _ refl (λ from label is a there. called_calm (function_at m func).coroutine from label is),
    (h.0, h.1),
  )
  aside_stays s _ runs step fine q h (LeadsTo.EntersGiven func result args calls) = (
    record { given = λ a is. refl; entering = λ from label is a there. absurd (cc) },
    (h.0, h.1),
  )
  aside_stays s _ runs step fine q h (LeadsTo.Answers j args result v acts) = (h.0, h.1)
  aside_stays s _ runs step fine q h (LeadsTo.Passes j args result acts) = (h.0, h.1)
  aside_stays s _ runs step fine q h (LeadsTo.Begins args result mem memory block start acts alone taken) =
      (h.0, h.1)
  aside_stays s _ runs step fine q h (LeadsTo.Releases args result v acts) =
      let c = changed_stack s (λ x. record x { released = true }) (own_instance s) in
      subst (λ (p : Activation × List Activation). Each (StandsAside e)
      (record p.0 { at = p.0.at + 1; values = with_result p.0.values result v } ∷ p.1))
      (λ j. (sym c.top j, sym c.below j)) (h.0, h.1)
  aside_stays s _ runs step fine q h (LeadsTo.Saves args result n x save suspend acts own unfreed) = (h.0, h.1)
  aside_stays s _ runs step fine q h (LeadsTo.Suspends args result n x save suspend acts own unfreed) = (h.0, h.1)
  aside_stays s _ runs step fine q h (LeadsTo.Wakes j args result y label acts sleeps) =
      subst On (sym w.is) (after (alloca_from (function_at m func) 0) refl)
    where
      u : State
      u = continue_framed g s y.number y.instance y.suspend y.values label

      longer : length u.below ≡ length s.below + 1
      longer =
          let one : suc (length s.below) ≡ length s.below + 1 = omega arith in
          ap length (woken_on g s y.number y.instance y.suspend y.values label).below ∙ one

      w : IsWoken g s u
      w = wakes_by g s u runs step fine j args result acts longer

      sleeper : IsAsleep s w.sleeper
      sleeper = asleep s w.from w.sleeper w.sleeps

      func : ℕ
      func = w.sleeper.instance.coroutine

      call : IsCallAt Intrinsic.CoroSuspend (function_at m func) w.sleeper.suspend
      call =
          (subst (IsSoundStatus g.given func) sleeper.status
          (sound_there g.given s.instances q.reached.instances w.sleeper.number w.sleeper.instance sleeper.there)).1

      past : (a : Asks func) → position_of (function_in e func) w.label ≡ a.beside → ⊥
      past a is =
          no_switch e keeps asked func a w.sleeper.suspend.block (w.sleeper.suspend.at + 1) w.label stop.default
          stop.arg stop.cases stop.stands (by w.at) is
        where
          same : function_at m func ≡ function_in e func
          same = same_code e keeps asked func a

          stop : HasStop e.code (function_in e func) w.sleeper.suspend
          stop =
              (k.places.each func).stops w.sleeper.suspend
              (subst (λ (f : Function). IsCallAt Intrinsic.CoroSuspend f w.sleeper.suspend) same call)

          by : (w.label ≡ resume_label (function_at m func) w.sleeper.suspend)
              ⊎ (w.label ≡ destroy_label (function_at m func) w.sleeper.suspend)
              → BranchesTo w.label (AtTerm (Terminator.Switch stop.arg stop.default stop.cases))
          by (inl at) =
              subst (λ (l : ℕ). BranchesTo l (AtTerm (Terminator.Switch stop.arg stop.default stop.cases)))
              (sym (at ∙ ap (λ (f : Function). resume_label f w.sleeper.suspend) same)) stop.own.0
          by (inr at) =
              subst (λ (l : ℕ). BranchesTo l (AtTerm (Terminator.Switch stop.arg stop.default stop.cases)))
              (sym (at ∙ ap (λ (f : Function). destroy_label f w.sleeper.suspend) same)) stop.own.1

      after : (o : Option Point) → alloca_from (function_at m func) 0 ≡ o
          → On (enter_after g (woken_at g s w.sleeper.number w.sleeper.instance w.sleeper.suspend)
          w.sleeper.suspend.block w.label o)
      after None eo = (at_label func w.label past, (h.0, h.1))
      after (Some p) eo = (
        at_entry func p.block (Mode.Entering w.sleeper.suspend.block w.label)
            (next_alloca (function_at m func) 0 p eo).first
            (λ from l same a there.
            past a
            (ap (position_of (function_in e func)) (same_label w.sleeper.suspend.block from w.label l same) ∙ there)),
        (h.0, h.1),
      )
  aside_stays s _ runs step fine q h (LeadsTo.EndsRamp args result acts ramp) =
      let c = ended_stack s in
      subst (λ (p : Activation × List Activation). Each (StandsAside e)
      (record p.0 { at = p.0.at + 1; values = with_result p.0.values result (truth_value false) } ∷ p.1))
      (λ j. (sym c.top j, sym c.below j)) (h.0, h.1)
  aside_stays s _ runs step fine q h (LeadsTo.EndsResumed args result u acts mode back) =
      let c = ended_stack s in
      came (ended s) None u (comes (ended s) None u back)
      (subst (λ (p : Activation × List Activation). Each (StandsAside e) (p.0 ∷ p.1))
      (λ j. (sym c.top j, sym c.below j)) h)
  aside_stays s _ runs step fine q h (LeadsTo.Deallocates p memory acts dead) =
      let c = gone_stack s (instance_at s.instances p) in
      subst (λ (p : Activation × List Activation). Each (StandsAside e) (record p.0 { at = p.0.at + 1 } ∷ p.1))
      (λ j. (sym c.top j, sym c.below j)) (h.0, h.1)
  aside_stays s _ runs step fine q h (LeadsTo.GoesTo label acts none) = (over s label acts q h.0, h.1)
  aside_stays s _ runs step fine q h (LeadsTo.Leaves label w ws n x acts leaves own may) =
      (over s label acts q h.0, h.1)
  aside_stays s _ runs step fine q h (LeadsTo.Returns v u acts back) = came s v u (comes s v u back) h

  -- ---- runs

  pub aside_in_runs : (entry : ℕ) (args : List Word) (n : ℕ) → IsFine (framed_state_at g entry args n).outcome
      → StandAside e (framed_state_at g entry args n)
  aside_in_runs entry args n fine =
      runs_keep_by g On IsAskedState aside_stays entry args
      (at_entry entry 0 Mode.Plain refl (λ from label is a there. absurd (cc)), tt)
      (λ j ok. record {
        reached = state_reached g (elided_switches e keeps k.switches) entry args j;
        answers = answers_in_runs g (elided_begins e keeps) entry args j ok;
      }) n fine
