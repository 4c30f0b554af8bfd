-- Activations have the slots of the allocas that they have passed, in each state of a framed run.
use Rattle.std.proofs.Common.{◌≡◌, ◌⊎◌, inl, inr, ⊎_elim, ◌<◌, ◌≤◌, ◌∙◌, ◌+◌, ◌++◌, ℕ, suc, Bool, true, false, List, [], ◌∷◌, length, None, Option, Some, ap, if◌then◌else◌, refl, sym, subst, arith}
use Rattle.std.specs.Prelude.{filter, negsuc, slice_get, unwrap_or}
use Rattle.pass_elide_proof.proofs.CallersValues.{SetsOnly, result_elsewhere, sets_only}
use Rattle.pass_elide_proof.proofs.ElidedFound.{fetched}
use Rattle.pass_elide_proof.proofs.Facts.{not_both}
use Rattle.pass_elide_proof.proofs.GoesOn.{instr_there}
use Rattle.pass_elide_proof.proofs.PhiValues.{phis_elsewhere}
use Rattle.pass_elide_proof.proofs.PlacingFacts.{by_truth}
use Rattle.pass_elide_proof.proofs.PlacingKnown.{states_known}
use Rattle.pass_elide_proof.proofs.PlacingLeft.{ends}
use Rattle.pass_elide_proof.specs.Places.{instrs_in, instrs_of}
use Rattle.pass_elide_proof.specs.PlacingStates.{BeginsInCoroutines, ComeFromCalls, IsBehindCall, IsKnownState, is_entering}
use Rattle.pass_elide_proof.specs.Sound.{KnowsAllocas}
use Rattle.pass_elide_proof.specs.StepCases.{ActsBy, LeadsTo, ended}
use Rattle.pass_elide_runs.proofs.Acts.{MakesOne, branches_to, instr_of, makes_one}
use Rattle.pass_elide_runs.proofs.Allocas.{alloca_is, next_alloca, no_alloca}
use Rattle.pass_elide_runs.proofs.CalledFrom.{coro_result}
use Rattle.pass_elide_runs.proofs.KnownModes.{IsAsleep, asleep}
use Rattle.pass_elide_runs.proofs.Led.{sound_there, state_reached}
use Rattle.pass_elide_runs.proofs.NewSlots.{IsNewOf, new_of}
use Rattle.pass_elide_runs.proofs.Paths.{branch_term, edge_listed}
use Rattle.pass_elide_runs.proofs.Runs.{runs_keep_by}
use Rattle.pass_elide_runs.proofs.SlotsKept.{KeepsNames, further, grown, over, with_values}
use Rattle.pass_elide_runs.proofs.Stacks.{Comes, SameStack, comes, ended_stack, gone_stack, changed_stack, woken_at, woken_on}
use Rattle.pass_elide_runs.proofs.WakesBy.{IsWoken, wakes_by}
use Rattle.pass_elide_runs.specs.Slots.{AllocasFirst, HasItsSlots, HaveItsSlots, IsAllocaAt, IsSlotOf, NamesAllocas}
use Rattle.pass_elide_proof.specs.pass_proofs.flow_blocks.Edges.{block_edges}
use Rattle.pass_elide_proof.specs.pass_proofs.flow_solver.Paths.{IsListed}
use Rattle.pass_elide_proof.specs.pass_proofs.ir_base.declared.outcome.Outcome.{Outcome}
use Rattle.pass_elide_proof.specs.pass_proofs.ir_base.declared.outcome.Word.{Word}
use Rattle.pass_elide_proof.specs.pass_proofs.ir_model.Names.{function_at, position_of}
use Rattle.pass_elide_proof.specs.pass_proofs.ir_model.Ty.{Ty}
use Rattle.pass_elide_proof.specs.pass_proofs.ir_model.declared.instr.Instr.{Instr}
use Rattle.pass_elide_proof.specs.pass_proofs.ir_model.declared.module.Block.{Block}
use Rattle.pass_elide_proof.specs.pass_proofs.ir_model.declared.module.Function.{Function}
use Rattle.pass_elide_proof.specs.pass_proofs.ir_model.declared.module.Module.{Module}
use Rattle.pass_elide_proof.specs.pass_proofs.ir_model.declared.operand.Arg.{Arg}
use Rattle.pass_elide_proof.specs.pass_proofs.ir_model.declared.operand.Callee.{Callee}
use Rattle.pass_elide_proof.specs.pass_proofs.ir_model.declared.operand.Intrinsic.{Intrinsic}
use Rattle.pass_elide_proof.specs.pass_proofs.ir_parts.Contents.{result_of}
use Rattle.pass_elide_proof.specs.pass_proofs.ir_paths.Paths.{targets}
use Rattle.pass_elide_proof.specs.pass_proofs.ir_paths.Slots.{has_name}
use Rattle.pass_elide_proof.specs.pass_proofs.ir_paths.Windows.{destroy_label, resume_label}
use Rattle.pass_elide_proof.specs.pass_proofs.ir_paths.declared.point.Point.{Point}
use Rattle.pass_elide_proof.specs.pass_proofs.pass_kept_proof.Needed.{BranchesTo}
use Rattle.pass_elide_proof.specs.pass_proofs.pass_kept_proof.Related.{IsSoundStatus}
use Rattle.pass_elide_proof.specs.pass_proofs.pass_kept_proof.SuspendRules.{IsCallAt, IsSwitched}
use Rattle.pass_elide_proof.specs.pass_proofs.run_agreement.Machines.{IsFine, IsReturned}
use Rattle.pass_elide_proof.specs.pass_proofs.run_framed.Framed.{FramedGiven, alloca_from, continue_framed, enter_after, framed_context, framed_slot, framed_state_at, framed_step, last_value}
use Rattle.pass_elide_proof.specs.pass_proofs.run_laws.changed.Changed.{Each}
use Rattle.pass_elide_proof.specs.pass_proofs.run_memory.declared.pointer.Value.{Value}
use Rattle.pass_elide_proof.specs.pass_proofs.run_source.Source.{Sleeper, called, enter_block, is_among, mode_of}
use Rattle.pass_elide_proof.specs.pass_proofs.run_source.State.{function_of, gives, instance_at, own_instance, settled, with_left, with_slots, work_of}
use Rattle.pass_elide_proof.specs.pass_proofs.run_source.declared.state.Activation.{Activation}
use Rattle.pass_elide_proof.specs.pass_proofs.run_source.declared.state.Mode.{Mode}
use Rattle.pass_elide_proof.specs.pass_proofs.run_source.declared.state.State.{State}
use Rattle.pass_elide_proof.specs.pass_proofs.run_source_tables.Given.{facts_at}
use Rattle.pass_elide_proof.specs.pass_proofs.run_step.Effects.{is_alloca}
use Rattle.pass_elide_proof.specs.pass_proofs.run_step.Step.{Action, AtInstr, AtTerm, Coro, Deallocate, Done, Enter, Fetched, NewSlot, Nowhere, Work, action_of, fetch, label_of, phis_of, values_in}
use Rattle.pass_elide_proof.specs.pass_proofs.run_step.Values.{Env, arg_values, integer, truth_value, value_in, with_result}
use Rattle.pass_elide_proof.specs.pass_proofs.run_step.declared.world.Slot.{Slot}
use Rattle.run_hooks.specs.Reached.{AllHaveSwitches, IsReachedState}

-- ---- outcomes and modes

never_returned : (o : Outcome) → IsReturned o → o ≡ Outcome.Running → ⊥
never_returned o ends runs = subst IsReturned runs ends

modes_apart : (b : Bool) → (if b then Mode.Ramp else Mode.Plain) ≡ Mode.Resumed → ⊥
modes_apart true h = cc
modes_apart false h = cc

modes_calm : (b : Bool) (from label : ℕ) → (if b then Mode.Ramp else Mode.Plain) ≡ Mode.Entering from label → ⊥
modes_calm true from label h = cc
modes_calm false from label h = cc

module _ (g : FramedGiven) (firsts : (func : ℕ) → AllocasFirst (function_at g.given.code func))
    (knows : KnowsAllocas g) (switches : AllHaveSwitches g.given.code) where
  abbrev m : Module
  m = g.given.code

  abbrev Has : Activation → Type 0
  Has a = HasItsSlots m a

  abbrev On : State → Type 0
  On s = Each (HasItsSlots m) (s.top ∷ s.below)

  -- what else holds of the states
  pub record IsLongState (s : State) : Type 0 where
    pub known : IsKnownState m s
    pub reached : IsReachedState g.given s

  abbrev waiting : State → Activation
  waiting s = record s.top { at = s.top.at + 1 }

  -- ---- a place

  no_slot : (s : State) (a : Action) (acts : ActsBy g s a) → (MakesOne g s a → ⊥) → (i : Instr)
      → acts.here ≡ AtInstr i → is_alloca i ≡ false
  no_slot s a acts never i is =
      by_truth (is_alloca i)
      (λ yes.
      let x = alloca_is i yes in
      absurd (never (makes_one g s a acts x.name x.ty x.align (is ∙ ap AtInstr x.is)))) (λ no. no)

  there_at : (s : State) (i : Instr) → fetch (function_of g.given s) s.top.block s.top.at ≡ AtInstr i
      → slice_get (instrs_of (function_at m s.top.func) s.top.block) s.top.at ≡ Some i
  there_at s i there = instr_there (function_of g.given s) s.top.block s.top.at i there

  -- behind an instruction that is no alloca
  on : (s : State) (a : Action) (acts : ActsBy g s a) → (MakesOne g s a → ⊥) → (i : Instr) → acts.here ≡ AtInstr i
      → (values : Env) (instance : Option ℕ) (left : Bool)
      → ((v : ℕ) → (result_of i ≡ Some v → ⊥) → value_in values v ≡ value_in s.top.values v) → Has s.top
      → Has (record s.top { at = s.top.at + 1; values = values; instance = instance; has_left = left })
  on s a acts never i is values instance left keeps h =
      further m s.top i (there_at s i (acts.there ∙ is)) (no_slot s a acts never i is) values instance left keeps h

  -- behind a call of an intrinsic, which may set its result
  coro_on : (s : State) (j : Intrinsic) (args : List Arg) (result : Option ℕ) (acts : ActsBy g s (Coro j args result))
      → (v : Value) (instance : Option ℕ) (left : Bool) → Has s.top
      → Has (record s.top {
        at = s.top.at + 1;
        values = with_result s.top.values result v;
        instance = instance;
        has_left = left;
      })
  coro_on s j args result acts v instance left h =
      let k = instr_of g s (Coro j args result) acts refl in
      on s (Coro j args result) acts (λ no. no) k.instr k.is (with_result s.top.values result v) instance left
      (λ name none.
      result_elsewhere s.top.values result v name
      (λ is. none (coro_result g s j args result acts k.instr k.is ∙ is))) h

  -- it goes on without a result
  coro_next : (s : State) (j : Intrinsic) (args : List Arg) (result : Option ℕ) (acts : ActsBy g s
      (Coro j args result))
      → (left : Bool) → Has s.top → Has (record s.top { at = s.top.at + 1; has_left = left })
  coro_next s j args result acts left h =
      let k = instr_of g s (Coro j args result) acts refl in
      on s (Coro j args result) acts (λ no. no) k.instr k.is s.top.values s.top.instance left (λ name none. refl) h

  waits : (s : State) (i : Instr) → fetch (function_of g.given s) s.top.block s.top.at ≡ AtInstr i
      → is_alloca i ≡ false → Has s.top → Has (waiting s)
  waits s i there other h =
      further m s.top i (there_at s i there) other s.top.values s.top.instance s.top.has_left (λ v none. refl) h

  -- ---- edges

  out_of : (func block at label : ℕ) → BranchesTo label (fetch (function_at m func) block at)
      → position_of (function_at m func) label ≡ 0 → ⊥
  out_of func block at label to is =
      let term = branch_term (function_at m func) block at label to in
      (firsts func).entry block
      (subst (λ (n : ℕ). IsListed {X = ℕ × ℕ} (block, n) (block_edges (function_at m func))) is
      (edge_listed (function_at m func) block term.the_block label term.there term.listed))

  phis_keep : (a : Activation) (block from : ℕ)
      → KeepsNames m a (values_in m (slice_get (function_at m a.func).blocks block) from a.values)
  phis_keep a block from names place name al passed =
      phis_elsewhere m a.values from (phis_of (slice_get (function_at m a.func).blocks block)) a.values name
      (names.phis place name block al)

  at_end : (f : Function) (block at : ℕ) (label : ℕ) → BranchesTo label (fetch f block at) → block ≡ 0
      → at ≡ length (instrs_of f 0)
  at_end f block at label to first = by (fetch f block at) refl to
    where
      by : (x : Fetched) → fetch f block at ≡ x → BranchesTo label x → at ≡ length (instrs_of f 0)
      by Nowhere is h = absurd h
      by (AtInstr i) is h = absurd h
      by (AtTerm t) is h =
          let e = ends f block at t is in
          e.last
          ∙ ap (λ (o : Option Block). length (instrs_in o))
          (sym e.has_block ∙ ap (slice_get f.blocks) first)

  goes_over : (s : State) (label : ℕ) (left : Bool)
      → BranchesTo label (fetch (function_of g.given s) s.top.block s.top.at) → Has s.top
      → Has (enter_block g.given (with_left s left) label).top
  goes_over s label left to h =
      let f = function_of g.given s in
      over m s.top (position_of f label)
      (values_in m (slice_get f.blocks (position_of f label)) (label_of (slice_get f.blocks s.top.block)) s.top.values)
      left (out_of s.top.func s.top.block s.top.at label to) (at_end f s.top.block s.top.at label to)
      (phis_keep s.top (position_of f label) (label_of (slice_get f.blocks s.top.block))) h

  -- ---- activations below

  call_none : (b : Activation) (result : Option ℕ) (v : Value) → IsBehindCall m result b → Has b
      → Has (record b { values = with_result b.values result v })
  call_none b result v from h =
      with_values m b (with_result b.values result v)
      (λ names place name al passed.
      result_elsewhere b.values result v name (λ is. apart names place name al (sym from.same ∙ is))) h
    where
      no_call : (i : Instr) (name : ℕ) (ty : Ty) (align : ℕ) → i ≡ Instr.Alloca name ty align
          → is_entering i ≡ true → ⊥
      no_call i name ty align is enters =
          not_both (is_entering (Instr.Alloca name ty align)) (ap is_entering (sym is) ∙ enters) refl

      apart : NamesAllocas (function_at m b.func) → (place name : ℕ) → IsAllocaAt (function_at m b.func) place name
          → result_of from.instr ≡ Some name → ⊥
      apart names place name al gives =
          let one = names.once place name b.block from.at from.instr al from.there gives in
          no_call from.instr name al.ty al.align
          (same_one from.instr (Instr.Alloca name al.ty al.align)
          (sym from.there
          ∙ ((λ j. slice_get (instrs_of (function_at m b.func) (one.0 j)) (one.1 j)) ∙ al.there)))
          from.enters
        where
          same_one : (i j : Instr) → Some i ≡ Some j → i ≡ j
          same_one i j h = cc

  back_in : (b : Activation) (result : Option ℕ) (v : Value) → (result ≡ None) ⊎ IsBehindCall m result b → Has b
      → Has (record b { values = with_result b.values result v })
  back_in b result v (inl none) h =
      subst (λ (o : Option ℕ). Has (record b { values = with_result b.values o v })) (sym none)
      (with_values m b b.values (λ names place name al passed. refl) h)
  back_in b result v (inr from) h = call_none b result v from h

  came : (s : State) (v : Option Value) (u : State) → Comes s v u → ComeFromCalls m (s.top ∷ s.below)
      → Each (HasItsSlots m) s.below → HaveItsSlots m u
  came s v u (Comes.Ends k) coming h runs =
      absurd (never_returned k.outcome k.ends (sym (ap (λ (z : State). z.outcome) k.is) ∙ runs))
  came s v u (Comes.Back k) coming h runs =
      let rest = subst (λ (bs : List Activation). Each (HasItsSlots m) bs) k.below h in
      let from = subst (λ (bs : List Activation). ComeFromCalls m (s.top ∷ bs)) k.below coming in
      subst On (sym k.is) (back_in k.caller s.top.result (unwrap_or v Value.Poison) from.0 rest.0, rest.1)

  -- ---- begins

  among_all : (func : ℕ) (values : Env) (block at : ℕ) (zs : List Slot)
      → Each (IsSlotOf (function_at m func) values block at) zs
      → filter (is_among (facts_at g.given.facts func).ramp_slots) zs ++ [] ≡ zs
  among_all func values block at [] h = refl
  among_all func values block at (z ∷ zs) h =
      by (is_among (facts_at g.given.facts func).ramp_slots z)
      (knows func 0 h.0.place z.alloca h.0.alloca.align z.block h.0.alloca.ty
      (fetched (function_at m func) 0 h.0.place (Instr.Alloca z.alloca h.0.alloca.ty h.0.alloca.align)
      h.0.alloca.there))
      (among_all func values block at zs h.1)
    where
      by : (t : Bool) → t ≡ true → filter (is_among (facts_at g.given.facts func).ramp_slots) zs ++ [] ≡ zs
          → (if t then z ∷ filter (is_among (facts_at g.given.facts func).ramp_slots) zs
          else filter (is_among (facts_at g.given.facts func).ramp_slots) zs) ++ [] ≡ z ∷ zs
      by true is rest = ap (λ (ys : List Slot). z ∷ ys) rest
      by false is rest = absurd (cc)

  -- ---- new activations

  called_has : (func : ℕ) (args : List Value) (result : Option ℕ) (mode : Mode) → (mode ≡ Mode.Resumed → ⊥)
      → ((from label : ℕ) → mode ≡ Mode.Entering from label → ⊥) → Has (called m func args result mode)
  called_has func args result mode no_resumed calm = record {
    own = tt;
    made = λ place name al passed. absurd (none place (passed refl));
    resumed = λ is first. no_resumed is;
    entering = λ from label is first. calm from label is;
  }
    where
      none : (place : ℕ) → place < 0 → ⊥
      none place lt = omega (arith, lt)

  -- where an instance is woken, at the label of one of its suspend's edges
  module _ (s : State) (y : Sleeper) (label : ℕ)
      (out : position_of (function_at m y.instance.coroutine) label ≡ 0 → ⊥) where
    abbrev f : Function
    f = function_at m y.instance.coroutine

    abbrev z : State
    z = woken_at g s y.number y.instance y.suspend

    woken_has : (o : Option Point) → alloca_from (function_at m y.instance.coroutine) 0 ≡ o
        → Has (enter_after g z y.suspend.block label o).top
    woken_has None eo = record {
      own = tt;
      made = λ place name al passed.
          absurd (not_both (is_alloca (Instr.Alloca name al.ty al.align)) refl
          (no_alloca f 0 eo place (Instr.Alloca name al.ty al.align) (omega arith) al.there));
      resumed = λ is first. out first;
      entering = λ from l is. absurd (cc);
    }
    woken_has (Some p) eo = record {
      own = tt;
      made = λ place name al passed.
          let k = next_alloca f 0 p eo in
          absurd (not_both (is_alloca (Instr.Alloca name al.ty al.align)) refl
          (k.between place (Instr.Alloca name al.ty al.align) (omega arith) (passed k.first) al.there));
      resumed = λ is first. absurd (cc);
      entering = λ from l is first. out (ap (position_of f) (same from l is) ∙ first);
    }
      where
        same : (from l : ℕ) → Mode.Entering y.suspend.block label ≡ Mode.Entering from l → label ≡ l
        same from l is = cc

  -- ---- a new slot

  slot_has : (s : State) (w : Work) (slot : Slot) → ActsBy g s (NewSlot w slot) → IsKnownState m s → Has s.top
      → (mode : Mode) → s.top.mode ≡ mode → Has (framed_slot g (settled s w) slot mode).top
  slot_has s w slot acts known h mode is = by mode is
    where
      f : Function
      f = function_of g.given s

      new : IsNewOf (framed_context g s) (work_of s) acts.here w slot
      new = new_of g s w slot acts

      there : slice_get (instrs_of f s.top.block) s.top.at ≡ Some (Instr.Alloca slot.alloca new.ty new.align)
      there = there_at s (Instr.Alloca slot.alloca new.ty new.align) (acts.there ∙ new.is)

      entry : s.top.block ≡ 0
      entry = (firsts s.top.func).first s.top.block s.top.at slot.alloca new.align new.ty there

      room : length s.top.values ≡ length f.names
      room = known.acts.0.room

      next_has : (mode : Mode) → (mode ≡ Mode.Resumed → s.top.block ≡ 0 → ⊥)
          → ((from label : ℕ) → mode ≡ Mode.Entering from label → position_of f label ≡ 0 → ⊥)
          → Has (record s.top {
            block = s.top.block;
            at = s.top.at + 1;
            values = w.values;
            slots = slot ∷ s.top.slots;
            mode = mode;
          })
      next_has mode resumed entering =
          grown m s.top slot new.ty new.align there entry w.values new.values room w.values
          (λ names place name al. refl) s.top.block (s.top.at + 1) mode (λ first. omega arith)
          (λ place name al passed lt. let le = passed entry in omega (arith, le, lt)) resumed entering h

      plain : Has (with_slots (settled s w) (slot ∷ s.top.slots)).top
      plain = next_has s.top.mode h.resumed h.entering

      apart : (place : ℕ) → s.top.at < place → s.top.at + 1 ≤ place
      apart place lt = omega (arith, lt)

      after : (from label : ℕ) → s.top.mode ≡ Mode.Entering from label → (o : Option Point)
          → alloca_from f (s.top.at + 1) ≡ o
          → Has (enter_after g (with_slots (settled s w) (slot ∷ s.top.slots)) from label o).top
      after from label is None eo =
          let out = h.entering from label is in
          grown m s.top slot new.ty new.align there entry w.values new.values room
          (values_in m (slice_get f.blocks (position_of f label)) (label_of (slice_get f.blocks from)) w.values)
          (λ names place name al.
          phis_elsewhere m w.values (label_of (slice_get f.blocks from))
          (phis_of (slice_get f.blocks (position_of f label))) w.values name
          (names.phis place name (position_of f label) al))
          (position_of f label) 0 Mode.Resumed (λ first. absurd (out first))
          (λ place name al passed lt.
          not_both (is_alloca (Instr.Alloca name al.ty al.align)) refl
          (no_alloca f (s.top.at + 1) eo place (Instr.Alloca name al.ty al.align) (apart place lt) al.there))
          (λ e first. out first) (λ k l e. absurd (cc)) h
      after from label is (Some p) eo =
          let k = next_alloca f (s.top.at + 1) p eo in
          let further = k.further in
          grown m s.top slot new.ty new.align there entry w.values new.values room w.values
          (λ names place name al. refl) p.block p.at (Mode.Entering from label) (λ first. omega (arith, further))
          (λ place name al passed lt.
          not_both (is_alloca (Instr.Alloca name al.ty al.align)) refl
          (k.between place (Instr.Alloca name al.ty al.align) (apart place lt) (passed k.first) al.there))
          (λ e first. absurd (cc))
          (λ j l e first. h.entering from label is (ap (position_of f) (same from label j l e) ∙ first)) h
        where
          same : (from label j l : ℕ) → Mode.Entering from label ≡ Mode.Entering j l → label ≡ l
          same from label j l e = cc

      by : (mode : Mode) → s.top.mode ≡ mode → Has (framed_slot g (settled s w) slot mode).top
      by Mode.Plain is = plain
      by Mode.Ramp is = plain
      by Mode.Resumed is = plain
      by (Mode.GivenRamp frame) is = plain
      by (Mode.Entering from label) is = after from label is (alloca_from f (s.top.at + 1)) refl

  -- ---- steps

  -- the same activations
  stays : (s t : State) → SameStack s t → On s → On t
  stays s t k h =
      subst (λ (p : Activation × List Activation). Each (HasItsSlots m) (p.0 ∷ p.1)) (λ j.
      (sym k.top j, sym k.below j)) h

  pub slots_stay : (s u : State) → s.outcome ≡ Outcome.Running → framed_step g s ≡ u → IsFine u.outcome
      → IsLongState s → HaveItsSlots m s → LeadsTo g s u → HaveItsSlots m u
  slots_stay s _ runs step fine q all (LeadsTo.Works w acts) now =
      let h = all runs in
      let i = instr_of g s (Done w) acts refl in (
        on s (Done w) acts (λ no. no) i.instr i.is w.values s.top.instance s.top.has_left
            (subst (SetsOnly (framed_context g s) (work_of s) (result_of i.instr))
            (ap (action_of (framed_context g s) (work_of s)) (sym i.is) ∙ acts.acts)
            (sets_only (framed_context g s) (work_of s) i.instr)) h.0,
        h.1,
      )
  slots_stay s _ runs step fine q all (LeadsTo.MakesSlot w slot acts) now = by s.top.mode refl
    where
      h : On s
      h = all runs

      by : (mode : Mode) → s.top.mode ≡ mode → On (framed_slot g (settled s w) slot mode)
      by Mode.Plain is = (slot_has s w slot acts q.known h.0 Mode.Plain is, h.1)
      by Mode.Ramp is = (slot_has s w slot acts q.known h.0 Mode.Ramp is, h.1)
      by Mode.Resumed is = (slot_has s w slot acts q.known h.0 Mode.Resumed is, h.1)
      by (Mode.GivenRamp frame) is = (slot_has s w slot acts q.known h.0 (Mode.GivenRamp frame) is, h.1)
      by (Mode.Entering from label) is = after (alloca_from (function_of g.given s) (s.top.at + 1)) refl
        where
          after : (o : Option Point) → alloca_from (function_of g.given s) (s.top.at + 1) ≡ o
              → On (enter_after g (with_slots (settled s w) (slot ∷ s.top.slots)) from label o)
          after None eo = (first None eo, h.1)
            where
              first : (o : Option Point) → alloca_from (function_of g.given s) (s.top.at + 1) ≡ o
                  → Has (enter_after g (with_slots (settled s w) (slot ∷ s.top.slots)) from label o).top
              first o eo =
                  subst (λ (o : Option Point). Has (enter_after g (with_slots (settled s w)
                  (slot ∷ s.top.slots)) from label
                  o).top) eo (slot_has s w slot acts q.known h.0 (Mode.Entering from label) is)
          after (Some p) eo = (first (Some p) eo, h.1)
            where
              first : (o : Option Point) → alloca_from (function_of g.given s) (s.top.at + 1) ≡ o
                  → Has (enter_after g (with_slots (settled s w) (slot ∷ s.top.slots)) from label o).top
              first o eo =
                  subst (λ (o : Option Point). Has (enter_after g (with_slots (settled s w)
                  (slot ∷ s.top.slots)) from label
                  o).top) eo (slot_has s w slot acts q.known h.0 (Mode.Entering from label) is)
  slots_stay s _ runs step fine q all (LeadsTo.Enters func args result must_tail acts) now =
      let h = all runs in
      let i = instr_of g s (Enter func args result must_tail) acts refl in (
        called_has func args result (mode_of (function_at m func)) (modes_apart (function_at m func).coroutine)
            (modes_calm (function_at m func).coroutine),
        (
          waits s i.instr (acts.there ∙ i.is)
              (no_slot s (Enter func args result must_tail) acts (λ no. no) i.instr i.is) h.0,
          h.1,
        ),
      )
  slots_stay s _ runs step fine q all (LeadsTo.EntersGiven func result args calls) now =
      let h = all runs in
      let vs = arg_values m s.top.values args in (
        called_has func vs result (Mode.GivenRamp (last_value vs)) (λ e. absurd (cc)) (λ from label e. absurd (cc)),
        (
          waits s (Instr.Call result calls.must_tail calls.ty
              (Callee.Named calls.name) args) calls.there refl h.0,
          h.1,
        ),
      )
  slots_stay s _ runs step fine q all (LeadsTo.Answers j args result v acts) now =
      let h = all runs in (coro_on s j args result acts v s.top.instance s.top.has_left h.0, h.1)
  slots_stay s _ runs step fine q all (LeadsTo.Passes j args result acts) now =
      let h = all runs in (coro_next s j args result acts s.top.has_left h.0, h.1)
  slots_stay s _ runs step fine q all (LeadsTo.Begins args result mem memory block start acts alone taken) now =
      let h = all runs in
      let number = Some (length s.instances) in (
        subst (λ (zs : List Slot). Has (record s.top {
          at = s.top.at + 1;
          values = with_result s.top.values result mem;
          instance = number;
          slots = zs;
        })) (sym (among_all s.top.func s.top.values s.top.block s.top.at s.top.slots h.0.own))
            (coro_on s Intrinsic.CoroBegin args result acts mem number s.top.has_left h.0),
        h.1,
      )
  slots_stay s _ runs step fine q all (LeadsTo.Releases args result v acts) now =
      let h = all runs in
      let k = changed_stack s (λ x. record x { released = true }) (own_instance s) in
      subst (λ (p : Activation × List Activation). Each (HasItsSlots m)
      (record p.0 { at = p.0.at + 1; values = with_result p.0.values result v } ∷ p.1))
      (λ j. (sym k.top j, sym k.below j))
      (coro_on s Intrinsic.CoroFree args result acts v s.top.instance s.top.has_left h.0, h.1)
  slots_stay s _ runs step fine q all (LeadsTo.Saves args result n x save suspend acts own unfreed) now =
      let h = all runs in (coro_next s Intrinsic.CoroSave args result acts true h.0, h.1)
  slots_stay s _ runs step fine q all (LeadsTo.Suspends args result n x save suspend acts own unfreed) now =
      let h = all runs in
      (coro_on s Intrinsic.CoroSuspend args result acts (integer 8 (negsuc 0)) s.top.instance true h.0, h.1)
  slots_stay s _ runs step fine q all (LeadsTo.Wakes j args result y label acts sleeps) now =
      subst On (sym k.is) (after (alloca_from (function_at m k.sleeper.instance.coroutine) 0) refl)
    where
      h : On s
      h = all runs

      u : State
      u = continue_framed g s y.number y.instance y.suspend y.values label

      longer : length u.below ≡ length s.below + 1
      longer =
          let one : suc (length s.below) ≡ length s.below + 1 = omega arith in
          ap length (woken_on g s y.number y.instance y.suspend y.values label).below ∙ one

      k : IsWoken g s u
      k = wakes_by g s u runs step fine j args result acts longer

      sleeper : IsAsleep s k.sleeper
      sleeper = asleep s k.from k.sleeper k.sleeps

      func : ℕ
      func = k.sleeper.instance.coroutine

      call : IsCallAt Intrinsic.CoroSuspend (function_at m func) k.sleeper.suspend
      call =
          (subst (IsSoundStatus g.given func) sleeper.status
          (sound_there g.given s.instances q.reached.instances k.sleeper.number k.sleeper.instance sleeper.there)).1

      switch : IsSwitched (function_at m func) k.sleeper.suspend
      switch = (switches func).switched k.sleeper.suspend call

      target : (l : ℕ) → has_name (targets switch.term) l ≡ true → position_of (function_at m func) l ≡ 0 → ⊥
      target l listed =
          out_of func k.sleeper.suspend.block (k.sleeper.suspend.at + 1) l
          (subst (BranchesTo l) (sym switch.stands) listed)

      out : position_of (function_at m func) k.label ≡ 0 → ⊥
      out first =
          ⊎_elim
          (λ is. target (resume_label (function_at m func) k.sleeper.suspend) switch.to_resume
          (ap (position_of (function_at m func)) (sym is) ∙ first))
          (λ is. target (destroy_label (function_at m func) k.sleeper.suspend) switch.to_destroy
          (ap (position_of (function_at m func)) (sym is) ∙ first)) k.at

      rest : Each (HasItsSlots m) (waiting s ∷ s.below)
      rest =
          let i = instr_of g s (Coro j args result) acts refl in
          (waits s i.instr (acts.there ∙ i.is) (no_slot s (Coro j args result) acts (λ no. no) i.instr i.is) h.0, h.1)

      after : (o : Option Point) → alloca_from (function_at m k.sleeper.instance.coroutine) 0 ≡ o
          → On (enter_after g (woken_at g s k.sleeper.number k.sleeper.instance k.sleeper.suspend)
          k.sleeper.suspend.block k.label o)
      after None eo = (woken_has s k.sleeper k.label out None eo, rest)
      after (Some p) eo = (woken_has s k.sleeper k.label out (Some p) eo, rest)
  slots_stay s _ runs step fine q all (LeadsTo.EndsRamp args result acts ramp) now =
      let h = all runs in
      let k = ended_stack s in
      subst (λ (p : Activation × List Activation). Each (HasItsSlots m)
      (record p.0 { at = p.0.at + 1; values = with_result p.0.values result (truth_value false) } ∷ p.1))
      (λ j. (sym k.top j, sym k.below j))
      (coro_on s Intrinsic.CoroEnd args result acts (truth_value false) s.top.instance s.top.has_left h.0, h.1)
  slots_stay s _ runs step fine q all (LeadsTo.EndsResumed args result u acts mode back) now =
      let h = all runs in
      let k = ended_stack s in
      came (ended s) None u (comes (ended s) None u back)
      (subst (λ (p : Activation × List Activation). ComeFromCalls m (p.0 ∷ p.1)) (λ j. (sym k.top j, sym k.below j))
      q.known.coming)
      (subst (λ (bs : List Activation). Each (HasItsSlots m) bs) (sym k.below) h.1) now
  slots_stay s _ runs step fine q all (LeadsTo.Deallocates p memory acts dead) now =
      let h = all runs in
      let k = gone_stack s (instance_at s.instances p) in
      let i = instr_of g s (Deallocate p) acts refl in
      subst (λ (p : Activation × List Activation). Each (HasItsSlots m) (record p.0 { at = p.0.at + 1 } ∷ p.1))
      (λ j. (sym k.top j, sym k.below j)) (
        on s (Deallocate p) acts (λ no. no) i.instr i.is s.top.values s.top.instance s.top.has_left
            (λ v none. refl) h.0,
        h.1,
      )
  slots_stay s _ runs step fine q all (LeadsTo.GoesTo label acts none) now =
      let h = all runs in
      let to = subst (BranchesTo label) (sym acts.there) (branches_to g s label acts) in
      (goes_over s label s.top.has_left to h.0, h.1)
  slots_stay s _ runs step fine q all (LeadsTo.Leaves label w ws n x acts leaves own may) now =
      let h = all runs in
      let to = subst (BranchesTo label) (sym acts.there) (branches_to g s label acts) in
      (goes_over s label false to h.0, h.1)
  slots_stay s _ runs step fine q all (LeadsTo.Returns v u acts back) now =
      came s v u (comes s v u back) q.known.coming (all runs).1 now

  -- ---- runs

  pub slots_in_runs : BeginsInCoroutines m → (entry : ℕ) (args : List Word) (n : ℕ)
      → IsFine (framed_state_at g entry args n).outcome → HaveItsSlots m (framed_state_at g entry args n)
  slots_in_runs begins entry args n fine =
      runs_keep_by g (HaveItsSlots m) IsLongState slots_stay entry args
      (λ runs. (called_has entry _ None Mode.Plain (λ e. absurd (cc)) (λ from label e. absurd (cc)), tt))
      (λ k ok. record {
        known = states_known g begins entry args k;
        reached = state_reached g switches entry args k;
      }) n fine
