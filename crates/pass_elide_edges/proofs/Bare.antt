-- An activation of a function that is no coroutine has no slots at its first place.
use Rattle.std.proofs.Common.{◌≡◌, ◌∙◌, ◌⊎◌, ◌<◌, ◌+◌, inl, inr, ℕ, zero, suc, Bool, true, false, List, [], ◌∷◌, length, Err, None, Ok, Option, Result, Some, ap, arith, if◌then◌else◌, refl, subst, sym, ◌&&◌, ◌==◌}
use Rattle.std.specs.Prelude.{◌≢◌, slice_get}
use Rattle.pass_elide.specs.Elided.{block_frames, elided_blocks, with_front}
use Rattle.pass_elide_edges.specs.Keeping.{HasEdge}
use Rattle.pass_elide_edges.specs.States.{EntersNoStart, StartsBare}
use Rattle.pass_elide_proof.proofs.Checked.{framed_stays}
use Rattle.pass_elide_proof.proofs.CallersEdges.{goes_listed}
use Rattle.pass_elide_proof.proofs.EdgeEntered.{code_of, end_at, term_end}
use Rattle.pass_elide_proof.proofs.Facts.{not_both}
use Rattle.pass_elide_proof.proofs.LastFound.{found_there}
use Rattle.pass_elide_proof.proofs.Modules.{finds_alike}
use Rattle.pass_elide_proof.proofs.PlacingKnown.{first_known, step_known}
use Rattle.pass_elide_proof.proofs.ReleasingActs.{goto_there}
use Rattle.pass_elide_proof.proofs.StepCases.{leads_to, then_ok}
use Rattle.pass_elide_proof.specs.Elision.{Elision, elided_code, function_in, function_in_elided, rooms}
use Rattle.pass_elide_proof.specs.Places.{Rooms, allocas_ahead, instrs_in, instrs_of}
use Rattle.pass_elide_proof.specs.PlacingStates.{BeginsInCoroutines, IsKnownState}
use Rattle.pass_elide_proof.specs.StepCases.{ActsBy, LeadsTo, ended}
use Rattle.pass_elide_proof.proofs.pass_proofs.ir_laws.facts.Truth.{itself}
use Rattle.pass_elide_proof.proofs.pass_proofs.run_agreement.Runs.{running_or}
use Rattle.pass_elide_proof.specs.pass_proofs.ir_base.declared.cause.Cause.{Cause}
use Rattle.pass_elide_proof.specs.pass_proofs.ir_base.declared.outcome.Outcome.{Outcome}
use Rattle.pass_elide_proof.specs.pass_proofs.ir_base.declared.outcome.Word.{Word}
use Rattle.pass_elide_proof.specs.pass_proofs.ir_model.Names.{function_at, position_of}
use Rattle.pass_elide_proof.specs.pass_proofs.ir_model.declared.instr.Instr.{Instr}
use Rattle.pass_elide_proof.specs.pass_proofs.ir_model.declared.instr.Terminator.{Terminator}
use Rattle.pass_elide_proof.specs.pass_proofs.ir_model.declared.module.Block.{Block}
use Rattle.pass_elide_proof.specs.pass_proofs.ir_model.declared.module.Function.{Function}
use Rattle.pass_elide_proof.specs.pass_proofs.ir_paths.declared.point.Point.{Point}
use Rattle.pass_elide_proof.specs.pass_proofs.run_agreement.Machines.{IsFine, IsRunning, iterate}
use Rattle.pass_elide_proof.specs.pass_proofs.run_framed.Framed.{FramedGiven, alloca_from, continue_framed, disown_given, enter_after, framed_context, framed_finish, framed_slot, framed_state_at, framed_step, is_stack_block, reentry_values}
use Rattle.pass_elide_proof.specs.pass_proofs.run_laws.changed.Changed.{Each}
use Rattle.pass_elide_proof.specs.pass_proofs.run_memory.Memory.{disown}
use Rattle.pass_elide_proof.specs.pass_proofs.run_memory.declared.pointer.Pointer.{Pointer}
use Rattle.pass_elide_proof.specs.pass_proofs.run_memory.declared.pointer.Value.{Value}
use Rattle.pass_elide_proof.specs.pass_proofs.run_source.Source.{Sleeper, change_own, finish, first_state, if_let_go, pop, push, release, resumed, return, returned, sleeper_at, sleeper_of}
use Rattle.pass_elide_proof.specs.pass_proofs.run_source.State.{began_at, frame_address_of, function_of, instance_at, own_instance, settled, with_memory, with_slots, with_status, work_of}
use Rattle.pass_elide_proof.specs.pass_proofs.run_source.declared.state.Activation.{Activation}
use Rattle.pass_elide_proof.specs.pass_proofs.run_source.declared.state.Instance.{Instance}
use Rattle.pass_elide_proof.specs.pass_proofs.run_source.declared.state.Mode.{Mode}
use Rattle.pass_elide_proof.specs.pass_proofs.run_source.declared.state.State.{State}
use Rattle.pass_elide_proof.specs.pass_proofs.run_source.declared.state.Status.{Status}
use Rattle.pass_elide_proof.specs.pass_proofs.run_step.Results.{and_then, found}
use Rattle.pass_elide_proof.specs.pass_proofs.run_step.Step.{AtTerm, Fetched, GoTo, action_of, fetch, fetch_in, fetch_or, outcome_of, term_action}
use Rattle.pass_elide_proof.specs.pass_proofs.run_step.Values.{Env}
use Rattle.pass_elide_proof.specs.pass_proofs.run_step.declared.world.Slot.{Slot}

-- ---- what is below stays

changed : (s : State) (f : Instance → Instance) (o : Option (ℕ × Instance)) → (change_own s f o).below ≡ s.below
changed s f None = refl
changed s f (Some (i, x)) = refl

disowned : (s : State) (o : Option (ℕ × Instance)) → (disown_given s o).below ≡ s.below
disowned s None = refl
disowned s (Some (i, x)) = on (is_stack_block s.world.memory x.block && (x.start == 0))
  where
    on : (t : Bool)
        → (if t then with_memory s (disown s.world.memory x.block) else s).below ≡ s.below
    on true = refl
    on false = refl

pub over : (s : State) → (ended s).below ≡ s.below
over s = on s.top.has_left
  where
    on : (t : Bool) → (if t then s else framed_finish s).below ≡ s.below
    on true = refl
    on false =
        disowned (finish s) (own_instance s)
        ∙ changed s (λ x. record x { status = Status.Finished }) (own_instance s)

-- ---- sleepers

sleeps_there : (s : State) (p : Value) (y : Sleeper) → sleeper_at s p ≡ Ok y
    → (i : ℕ) × (slice_get s.instances i ≡ Some y.instance)
sleeps_there s p y h = on (instance_at s.instances p) refl h
  where
    there : (v : Value) (x : ℕ × Instance) → instance_at s.instances v ≡ Some x
        → slice_get s.instances x.0 ≡ Some x.1
    there (Value.Ptr (Pointer.At b o)) x is = (found_there (began_at b o.bits) s.instances x is).0
    there (Value.Ptr Pointer.Null) x is = absurd (cc)
    there (Value.Ptr (Pointer.Func f)) x is = absurd (cc)
    there Value.Poison x is = absurd (cc)
    there (Value.Int w) x is = absurd (cc)

    same : (i : ℕ) (x : Instance) (status : Status) → sleeper_of i x status ≡ Ok y → x ≡ y.instance
    same i x Status.Running h = absurd (cc)
    same i x (Status.Suspended q values) h =
        let is : record { number = i; instance = x; suspend = q; values = values } ≡ y = cc in
        ap (λ (z : Sleeper). z.instance) is
    same i x Status.Finished h = absurd (cc)

    on : (o : Option (ℕ × Instance)) → instance_at s.instances p ≡ o
        → and_then (found Cause.Frame o) (λ (z : ℕ × Instance). sleeper_of z.0 z.1 z.1.status) ≡ Ok y
        → (i : ℕ) × (slice_get s.instances i ≡ Some y.instance)
    on None is h = absurd (cc)
    on (Some z) is h =
        (z.0, there p z is ∙ ap (λ (x : Instance). Some x) (same z.0 z.1 z.1.status h))

-- ---- one step

module _ (g : FramedGiven) (enters : EntersNoStart g.given.code) where
  abbrev Bare : State → Type 0
  Bare s = StartsBare g.given.code s

  -- a state behind an instruction
  further : (u : State) (n : ℕ) → u.top.at ≡ n + 1 → Bare u
  further u n is = record { slots = λ plain block at. absurd (omega (arith, is, at)) }

  popped : (s : State) (v : Option Value) (bs : List Activation) (u : State) → s.top.slots ≡ []
      → Each (λ (b : Activation). 0 < b.at) bs → pop s v bs ≡ Ok u → Bare u
  popped s v [] u none behind e =
      let k = then_ok (outcome_of v) _ u e in
      record { slots = λ plain block at. sym (ap (λ (r : Result State Cause). slots_in r) k.2) ∙ none }
    where
      slots_in : Result State Cause → List Slot
      slots_in (Ok w) = w.top.slots
      slots_in (Err cause) = []
  popped s v (a ∷ bs) u none behind e =
      record {
        slots = λ plain block at.
            let here : a.at ≡ 0 = ap (λ (r : Result State Cause). at_in r) e ∙ at in
            let lt = behind.0 in
            absurd (omega (arith, here, lt));
      }
    where
      at_in : Result State Cause → ℕ
      at_in (Ok w) = w.top.at
      at_in (Err cause) = 0

  returns : (s : State) (v : Option Value) (u : State) → Each (λ (b : Activation). 0 < b.at) s.below
      → return s v ≡ Ok u → Bare u
  returns s v u behind e = popped (returned s) v s.below u refl behind e

  -- over an edge
  entered : (s : State) (label : ℕ) → ActsBy g s (GoTo label) → (u : State) → u.top.func ≡ s.top.func
      → u.top.block ≡ position_of (function_of g.given s) label → Bare u
  entered s label acts u func to =
      let last = goto_there (framed_context g s) (work_of s) acts.here label acts.acts in
      record {
        slots = λ plain block at.
            absurd (enters s.top.func s.top.block label
            (leads last.0 (acts.there ∙ last.1)
            (ap (λ (x : Fetched). action_of (framed_context g s) (work_of s) x) (sym last.1) ∙ acts.acts))
            (sym to ∙ block));
      }
    where
      leads : (t : Terminator) → fetch (function_of g.given s) s.top.block s.top.at ≡ AtTerm t
          → term_action (framed_context g s) (work_of s) t ≡ GoTo label
          → HasEdge (function_of g.given s) s.top.block label
      leads t there goes = record {
        term = t;
        stands =
            (λ j. fetch (function_of g.given s) s.top.block
            (sym (end_at (function_of g.given s) s.top.block s.top.at t there) j))
            ∙ there;
        leads = goes_listed (framed_context g s) (work_of s) label t goes;
      }

  -- a woken activation is one of a coroutine
  after_func : (s : State) (from label : ℕ) (o : Option Point)
      → (enter_after g s from label o).top.func ≡ s.top.func
  after_func s from label None = refl
  after_func s from label (Some p) = refl

  woken : (s : State) (i : ℕ) (x : Instance) (p : Point) (values : Env) (label : ℕ)
      → (function_at g.given.code x.coroutine).coroutine ≡ true → Bare (continue_framed g s i x p values label)
  woken s i x p values label coroutine =
      let func = after_func
      (push (with_status s i x Status.Running) (resumed i x p (reentry_values
      (function_at g.given.code x.coroutine) (frame_address_of x)))) p.block label
      (alloca_from (function_at g.given.code x.coroutine) 0) in
      record {
        slots = λ plain block at.
            absurd (not_both (function_at g.given.code x.coroutine).coroutine coroutine
            (ap (λ (n : ℕ). (function_at g.given.code n).coroutine) (sym func) ∙ plain));
      }

  slotted : (s : State) (slot : Slot) (n : ℕ) (mode : Mode) → s.top.at ≡ n + 1
      → ((function_at g.given.code s.top.func).coroutine ≡ false → mode ≡ Mode.Plain)
      → Bare (framed_slot g s slot mode)
  slotted s slot n Mode.Plain is none = further _ n is
  slotted s slot n Mode.Ramp is none = further _ n is
  slotted s slot n Mode.Resumed is none = further _ n is
  slotted s slot n (Mode.GivenRamp frame) is none = further _ n is
  slotted s slot n (Mode.Entering from label) is none =
      let func = after_func (with_slots s (slot ∷ s.top.slots)) from label
      (alloca_from (function_of g.given s) s.top.at) in
      record {
        slots = λ plain block at.
            absurd (no_plain (none
            (ap (λ (f : ℕ). (function_at g.given.code f).coroutine) (sym func) ∙ plain)));
      }
    where
      no_plain : Mode.Entering from label ≡ Mode.Plain → ⊥
      no_plain e = cc

  module _ (s : State) (known : IsKnownState g.given.code s) where
    cases : (u : State) → LeadsTo g s u → Bare u
    cases _ (LeadsTo.Works w acts) = further _ s.top.at refl
    cases _ (LeadsTo.MakesSlot w slot acts) =
        slotted (settled s w) slot s.top.at s.top.mode refl (λ plain. (known.acts.0.plain plain).0)
    cases _ (LeadsTo.Enters func args result must_tail acts) = record { slots = λ plain block at. refl }
    cases _ (LeadsTo.EntersGiven func result args calls) = record { slots = λ plain block at. refl }
    cases _ (LeadsTo.Answers i args result v acts) = further _ s.top.at refl
    cases _ (LeadsTo.Passes i args result acts) = further _ s.top.at refl
    cases _ (LeadsTo.Begins args result mem memory block start acts alone taken) = further _ s.top.at refl
    cases _ (LeadsTo.Releases args result v acts) = further _ (release s).top.at refl
    cases _ (LeadsTo.Saves args result i x save suspend acts own unfreed) = further _ s.top.at refl
    cases _ (LeadsTo.Suspends args result i x save suspend acts own unfreed) = further _ s.top.at refl
    cases _ (LeadsTo.Wakes i args result y label acts sleeps) =
        let there = sleeps_there s _ y sleeps in
        woken s y.number y.instance y.suspend y.values label (known.instances there.0 y.instance there.1)
    cases _ (LeadsTo.EndsRamp args result acts ramp) = further _ (ended s).top.at refl
    cases _ (LeadsTo.EndsResumed args result u acts mode back) =
        returns (ended s) None u
        (subst (λ (bs : List Activation). Each (λ (b : Activation). 0 < b.at) bs) (sym (over s)) known.behind) back
    cases _ (LeadsTo.Deallocates p memory acts dead) =
        further _ (if_let_go s (instance_at s.instances p)).top.at refl
    cases _ (LeadsTo.GoesTo label acts stays) = entered s label acts _ refl refl
    cases _ (LeadsTo.Leaves label w ws i x acts leaves own may) = entered s label acts _ refl refl
    cases _ (LeadsTo.Returns v u acts back) = returns s v u known.behind back

    pub step_bare : s.outcome ≡ Outcome.Running → IsFine (framed_step g s).outcome
        → StartsBare g.given.code (framed_step g s)
    step_bare runs fine = cases (framed_step g s) (leads_to g s runs fine)

  -- ---- runs

  running_is : (o : Outcome) → IsRunning o → o ≡ Outcome.Running
  running_is (Outcome.Returned v) h = absurd h
  running_is Outcome.Running h = refl
  running_is (Outcome.Undefined cause place) h = absurd h

  module _ (begins : BeginsInCoroutines g.given.code) where
    one_more : (s : State) → IsKnownState g.given.code s → (IsFine s.outcome → Bare s)
        → IsFine (framed_step g s).outcome → Bare (framed_step g s)
    one_more s known h fine = on (running_or s.outcome)
      where
        on : IsRunning s.outcome ⊎ (IsRunning s.outcome → ⊥) → Bare (framed_step g s)
        on (inl runs) = step_bare s known (running_is s.outcome runs) fine
        on (inr stays) =
            let same = framed_stays g s stays in
            subst (λ (v : State). Bare v) (sym same) (h (subst (λ (v : State). IsFine v.outcome) same fine))

    many : (n : ℕ) (s : State) → IsKnownState g.given.code s → (IsFine s.outcome → Bare s)
        → IsFine (iterate (framed_step g) n s).outcome → Bare (iterate (framed_step g) n s)
    many zero s known h = h
    many (suc n) s known h = many n (framed_step g s) (step_known g begins s known) (one_more s known h)

    pub runs_bare : (entry : ℕ) (args : List Word) (n : ℕ) → IsFine (framed_state_at g entry args n).outcome
        → StartsBare g.given.code (framed_state_at g entry args n)
    runs_bare entry args n =
        many n (first_state g.given.code entry args) (first_known g.given.code entry args)
        (λ fine. record { slots = λ plain block at. refl })

-- ---- elided functions

-- a block of the framed function that ends as one of the elided one
record EndsSame (bs : List Block) (k : ℕ) (b : Block) : Type 0 where
  block : Block
  there : slice_get bs k ≡ Some block
  term : block.term ≡ b.term

blocks_end : (room : Rooms) (s n : ℕ) (bs : List Block) (k : ℕ) (b : Block)
    → slice_get (elided_blocks room s n bs) k ≡ Some b → EndsSame bs k b
blocks_end room s n [] k b is = absurd (cc)
blocks_end room s n (x ∷ xs) zero b is =
    record { block = x; there = refl; term = ap (λ (o : Option Block). term_in o) is }
  where
    term_in : Option Block → Terminator
    term_in None = Terminator.Unreachable
    term_in (Some y) = y.term
blocks_end room s n (x ∷ xs) (suc k) b is =
    let rest = blocks_end room (s + 1) (length (block_frames room s x) + n) xs k b is in
    record { block = rest.block; there = rest.there; term = rest.term }

front_ends : (front : List Instr) (bs : List Block) (k : ℕ) (b : Block)
    → slice_get (with_front front bs) k ≡ Some b → EndsSame bs k b
front_ends front [] k b is = absurd (cc)
front_ends front (x ∷ xs) zero b is =
    record { block = x; there = refl; term = ap (λ (o : Option Block). term_in o) is }
  where
    term_in : Option Block → Terminator
    term_in None = Terminator.Unreachable
    term_in (Some y) = y.term
front_ends front (x ∷ xs) (suc k) b is = record { block = b; there = is; term = refl }

past_end : {A : Type 0} (xs : List A) → slice_get xs (length xs) ≡ None
past_end [] = refl
past_end (x ∷ xs) = past_end xs

-- behind its instructions a block has its terminator
fetch_end : (f : Function) (block : ℕ) (b : Block) → slice_get f.blocks block ≡ Some b
    → fetch f block (length (instrs_of f block)) ≡ AtTerm b.term
fetch_end f block b is =
    (λ j. fetch_in (is j) (length (instrs_in (is j))))
    ∙ (λ j. fetch_or (past_end b.instrs j) (itself (length b.instrs) j) b.term)

module _ (e : Elision) (func block label : ℕ)
    (edge : HasEdge (function_at (elided_code e) func) block label) where
  abbrev f : Function
  f = function_in e func

  abbrev h : Function
  h = function_in_elided e func

  same_blocks : h.blocks ≡ with_front (allocas_ahead (rooms e func) f) (elided_blocks (rooms e func) 0
      (length f.names) f.blocks)
  same_blocks = ap (λ (y : Function). y.blocks) ((finds_alike e).functions func)

  pub framed_edge : HasEdge f block label
  framed_edge =
      let end = term_end h block (length (instrs_of h block)) edge.term edge.stands in
      let first = front_ends (allocas_ahead (rooms e func) f)
      (elided_blocks (rooms e func) 0 (length f.names) f.blocks) block end.own
      (ap (λ (bs : List Block). slice_get bs block) (sym same_blocks) ∙ end.there) in
      let second = blocks_end (rooms e func) 0 (length f.names) f.blocks block first.block first.there in
      let is : second.block.term ≡ edge.term = second.term ∙ (first.term ∙ end.is) in
      record {
        term = edge.term;
        stands = fetch_end f block second.block second.there ∙ ap AtTerm is;
        leads = edge.leads;
      }

  pub elided_enters : EntersNoStart e.code → position_of (function_at (elided_code e) func) label ≢ 0
  elided_enters enters is = enters func block label framed_edge (sym ((code_of e func).labels label) ∙ is)
