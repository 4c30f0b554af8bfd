-- A resumed activation comes to no ret: it returns at coro.end.
use Rattle.std.proofs.Common.{◌≡◌, ◌⊎◌, inl, inr, ◌∙◌, ◌+◌, ℕ, Bool, true, false, List, [], ◌∷◌, length, None, Ok, Err, Option, Result, ap, arith, if◌then◌else◌, refl, sym, subst, ◌||◌, ◌==◌}
use Rattle.std.specs.Prelude.{negsuc, unwrap_or}
use Rattle.pass_elide_apart.proofs.Ways.{enters_there, higher, wakes_there}
use Rattle.pass_elide_apart.specs.Behind.{EnterBehind, GoesBehind, IsBehindSuspend, SleepBehind}
use Rattle.pass_elide_apart.specs.Rets.{EndsBeforeRets, StandUnended, StandsUnended}
use Rattle.pass_elide_edges.proofs.pass_elide_proof.pass_proofs.ir_laws.facts.Truth.{itself}
use Rattle.pass_elide_edges.specs.pass_elide_proof.StepCases.{ActsBy, CallsGiven, LeadsTo, ended, saved_at}
use Rattle.pass_elide_runs.proofs.Acts.{branches_to, instr_of}
use Rattle.pass_elide_runs.proofs.KnownModes.{asleep}
use Rattle.pass_elide_runs.proofs.Runs.{runs_keep_by}
use Rattle.pass_elide_runs.proofs.Stacks.{Comes, changed_stack, comes, ended_stack, entered_on, gone_stack, woken_on}
use Rattle.pass_elide_runs.proofs.WakesBy.{IsWoken, wakes_by}
use Rattle.pass_elide_edges.specs.pass_elide_proof.pass_proofs.ir_base.declared.cause.Cause.{Cause}
use Rattle.pass_elide_edges.specs.pass_elide_proof.pass_proofs.ir_base.declared.outcome.Outcome.{Outcome}
use Rattle.pass_elide_edges.specs.pass_elide_proof.pass_proofs.ir_base.declared.outcome.Word.{Word}
use Rattle.pass_elide_edges.specs.pass_elide_proof.pass_proofs.ir_model.Names.{function_at, position_of, same_intrinsic}
use Rattle.pass_elide_edges.specs.pass_elide_proof.pass_proofs.ir_model.declared.instr.Instr.{Instr}
use Rattle.pass_elide_edges.specs.pass_elide_proof.pass_proofs.ir_model.declared.instr.Terminator.{Terminator}
use Rattle.pass_elide_edges.specs.pass_elide_proof.pass_proofs.ir_model.declared.module.Module.{Module}
use Rattle.pass_elide_edges.specs.pass_elide_proof.pass_proofs.ir_model.declared.operand.Arg.{Arg}
use Rattle.pass_elide_edges.specs.pass_elide_proof.pass_proofs.ir_model.declared.operand.Callee.{Callee}
use Rattle.pass_elide_edges.specs.pass_elide_proof.pass_proofs.ir_model.declared.operand.Intrinsic.{Intrinsic}
use Rattle.pass_elide_edges.specs.pass_elide_proof.pass_proofs.ir_paths.Windows.{is_call_of}
use Rattle.pass_elide_edges.specs.pass_elide_proof.pass_proofs.ir_paths.declared.point.Point.{Point}
use Rattle.pass_elide_edges.specs.pass_elide_proof.pass_proofs.pass_kept_proof.Needed.{BranchesTo}
use Rattle.pass_elide_edges.specs.pass_elide_proof.pass_proofs.run_agreement.Machines.{IsFine}
use Rattle.pass_elide_edges.specs.pass_elide_proof.pass_proofs.run_framed.Framed.{FramedGiven, alloca_from, continue_framed, enter_after, framed_act, framed_advance, framed_context, framed_next, framed_slot, framed_state_at, framed_step}
use Rattle.pass_elide_edges.specs.pass_elide_proof.pass_proofs.run_laws.changed.Changed.{Each}
use Rattle.pass_elide_edges.specs.pass_elide_proof.pass_proofs.run_memory.declared.pointer.Value.{Value}
use Rattle.pass_elide_edges.specs.pass_elide_proof.pass_proofs.run_source.Source.{after_end, begun, enter_block, if_let_go, release, return}
use Rattle.pass_elide_edges.specs.pass_elide_proof.pass_proofs.run_source.State.{function_of, gives, instance_at, next, or_undefined, own_instance, settled, with_left, with_memory, with_slots, with_status, work_of}
use Rattle.pass_elide_edges.specs.pass_elide_proof.pass_proofs.run_source.declared.state.Activation.{Activation}
use Rattle.pass_elide_edges.specs.pass_elide_proof.pass_proofs.run_source.declared.state.Instance.{Instance}
use Rattle.pass_elide_edges.specs.pass_elide_proof.pass_proofs.run_source.declared.state.Mode.{Mode}
use Rattle.pass_elide_edges.specs.pass_elide_proof.pass_proofs.run_source.declared.state.State.{State}
use Rattle.pass_elide_edges.specs.pass_elide_proof.pass_proofs.run_source.declared.state.Status.{Status}
use Rattle.pass_elide_edges.specs.pass_elide_proof.pass_proofs.run_step.Step.{Action, AtInstr, AtTerm, Coro, Deallocate, Done, Enter, GoTo, NewSlot, action_of, fetch}
use Rattle.pass_elide_edges.specs.pass_elide_proof.pass_proofs.run_step.Values.{integer}
use Rattle.pass_elide_edges.specs.pass_elide_proof.pass_proofs.flow_solver.Paths.{IsListed}
use Rattle.pass_elide_edges.specs.pass_elide_proof.pass_proofs.ir_model.declared.module.Function.{Function}
use Rattle.pass_elide_edges.specs.pass_elide_proof.pass_proofs.ir_paths.Paths.{entry_point, targets}
use Rattle.pass_elide_edges.specs.pass_elide_proof.pass_proofs.ir_paths.Slots.{has_name}
use Rattle.pass_elide_edges.specs.pass_elide_proof.pass_proofs.pass_kept_proof.SuspendRules.{IsCallAt}
use Rattle.pass_elide_edges.specs.pass_elide_proof.pass_proofs.rule_windows.Sets.{RunsOut}
use Rattle.run_hooks.proofs.Points.{branching, no_call, no_call_at_term, straight}
use Rattle.run_hooks.proofs.alive.Marks.{runs_on}
use Rattle.run_hooks.proofs.Reached.{IsOfInstr}

-- the action isn't that of coro.end
abbrev NotEnd : Action → Type 0
NotEnd (Coro Intrinsic.CoroEnd args result) = ⊥
NotEnd _ = Unit {0}

end_or : (i : Intrinsic) (args : List Arg) (result : Option ℕ) → (i ≡ Intrinsic.CoroEnd) ⊎ NotEnd (Coro i args result)
end_or Intrinsic.CoroEnd args result = inl refl
end_or _ args result = inr tt

called_plain : (b : Bool) → (if b then Mode.Ramp else Mode.Plain) ≡ Mode.Resumed → ⊥
called_plain true h = cc
called_plain false h = cc

-- ---- labels

listed_name : (l : ℕ) (ls : List ℕ) → IsListed l ls → has_name ls l ≡ true
listed_name l [] listed = absurd listed
listed_name l (k ∷ ls) (inl same) = ap (λ (b : Bool). b || has_name ls l) (ap (λ (n : ℕ). n == l) (sym same) ∙ itself l)
listed_name l (k ∷ ls) (inr listed) = on (k == l) (listed_name l ls listed)
  where
    on : (b : Bool) → has_name ls l ≡ true → (b || has_name ls l) ≡ true
    on true h = refl
    on false h = h

-- ---- behind a suspend

no_end_of_suspend : (i : Instr) → is_call_of Intrinsic.CoroSuspend i ≡ true → is_call_of Intrinsic.CoroEnd i ≡ false
no_end_of_suspend (Instr.Call result must_tail ty (Callee.Intrinsic j) args) h = by j h
  where
    by : (j : Intrinsic) → same_intrinsic Intrinsic.CoroSuspend j ≡ true → same_intrinsic Intrinsic.CoroEnd j ≡ false
    by Intrinsic.CoroSuspend is = refl
    by _ is = absurd (cc)
no_end_of_suspend _ h = absurd (cc)

-- a path without the end leads to a label behind a suspend
label_runs : (f : Function) → EndsBeforeRets f → (from label : ℕ) → IsBehindSuspend f from label
    → RunsOut f (entry_point f label)
label_runs f ends from label k =
    runs_on f (record { block = from; at = k.at + 1 }) (entry_point f label)
    (branching f (record { block = from; at = k.at + 1 }) label
    (subst (BranchesTo label) (sym stands) (listed_name label (targets k.edge.term) k.edge.leads)))
    (no_call_at_term Intrinsic.CoroEnd f (record { block = from; at = k.at + 1 }) k.edge.term stands)
    (runs_on f (record { block = from; at = k.at }) (record { block = from; at = k.at + 1 })
    (straight f (record { block = from; at = k.at }) k.suspends.instr k.suspends.stands)
    (no_call Intrinsic.CoroEnd f (record { block = from; at = k.at }) k.suspends.instr k.suspends.stands
    (no_end_of_suspend k.suspends.instr k.suspends.is))
    (ends.suspends (record { block = from; at = k.at }) k.reached k.suspends))
  where
    stands : fetch f from (k.at + 1) ≡ AtTerm k.edge.term
    stands = (λ j. fetch f from (k.last j)) ∙ k.edge.stands

-- an activation that goes on there
unended : (m : Module) (a : Activation) → EndsBeforeRets (function_at m a.func) → GoesBehind m a → StandsUnended m a
unended m a ends k resumed = on k.place
  where
    never : a.mode ≡ Mode.Entering k.from k.label → ⊥
    never is = absurd (cc)

    on : ((a.mode ≡ Mode.Entering k.from k.label) × (a.block ≡ 0))
        ⊎ ((a.mode ≡ Mode.Resumed) × (a.block ≡ position_of (function_at m a.func) k.label) × (a.at ≡ 0))
        → RunsOut (function_at m a.func) (record { block = a.block; at = a.at })
    on (inl h) = absurd (never h.0)
    on (inr h) =
        subst (λ (p : ℕ × ℕ). RunsOut (function_at m a.func) (record { block = p.0; at = p.1 }))
        (λ j. (sym h.1 j, sym h.2 j)) (label_runs (function_at m a.func) ends k.from k.label k.behind)

module _ (g : FramedGiven) (ends : (func : ℕ) → EndsBeforeRets (function_at g.given.code func)) where
  abbrev m : Module
  m = g.given.code

  abbrev Fine : State → Type 0
  Fine s = StandUnended g.given.code s

  -- ---- an instruction that isn't coro.end

  no_end : (s : State) (a : Action) (acts : ActsBy g s a) → NotEnd a → (i : Instr) → acts.here ≡ AtInstr i
      → is_call_of Intrinsic.CoroEnd i ≡ false
  no_end s a acts ne (Instr.Call result must_tail ty (Callee.Intrinsic j) args) is = by j is
    where
      by : (j : Intrinsic) → acts.here ≡ AtInstr (Instr.Call result must_tail ty (Callee.Intrinsic j) args)
          → same_intrinsic Intrinsic.CoroEnd j ≡ false
      by Intrinsic.CoroEnd is =
          absurd (subst NotEnd (sym acts.acts ∙ ap (action_of (framed_context g s) (work_of s)) is) ne)
      by _ is = refl
  no_end s a acts ne _ is = refl

  -- behind it
  abbrev here : State → Point
  here s = record { block = s.top.block; at = s.top.at }

  abbrev Further : State → Type 0
  Further s =
      s.top.mode ≡ Mode.Resumed → RunsOut (function_of g.given s) (record { block = s.top.block; at = s.top.at + 1 })

  further : (s : State) (a : Action) → ActsBy g s a → IsOfInstr a ≡ true → NotEnd a → Fine s → Further s
  further s a acts instr ne h mode =
      let k = instr_of g s a acts instr in
      let stands : fetch (function_of g.given s) s.top.block s.top.at ≡ AtInstr k.instr = acts.there ∙ k.is in
      runs_on (function_of g.given s) (here s) (record { block = s.top.block; at = s.top.at + 1 })
      (straight (function_of g.given s) (here s) k.instr stands)
      (no_call Intrinsic.CoroEnd (function_of g.given s) (here s) k.instr stands (no_end s a acts ne k.instr k.is))
      (h.0 mode)

  further_given : (s : State) (func : ℕ) (result : Option ℕ) (args : List Arg) → CallsGiven g s func result args
      → Fine s → Further s
  further_given s func result args calls h mode =
      runs_on (function_of g.given s) (here s) (record { block = s.top.block; at = s.top.at + 1 })
      (straight (function_of g.given s) (here s)
      (Instr.Call result calls.must_tail calls.ty (Callee.Named calls.name) args) calls.there)
      (no_call Intrinsic.CoroEnd (function_of g.given s) (here s)
      (Instr.Call result calls.must_tail calls.ty (Callee.Named calls.name) args) calls.there refl) (h.0 mode)

  -- ---- states

  onward : (s t : State) → t.top.func ≡ s.top.func → t.top.block ≡ s.top.block → t.top.at ≡ s.top.at + 1
      → t.top.mode ≡ s.top.mode → t.below ≡ s.below → Further s → Fine s → Fine t
  onward s t func block at mode below on h = (
    λ is.
        subst (λ (p : ℕ × (ℕ × ℕ)). RunsOut (function_at m p.0) (record { block = p.1.0; at = p.1.1 }))
        (λ j. (sym func j, (sym block j, sym at j))) (on (sym mode ∙ is)),
    subst (λ (rows : List Activation). Each (StandsUnended m) rows) (sym below) h.1,
  )

  -- over an edge
  entered : (s t : State) (label : ℕ) → ActsBy g s (GoTo label) → t.top.func ≡ s.top.func
      → t.top.block ≡ position_of (function_of g.given s) label → t.top.at ≡ 0 → t.top.mode ≡ s.top.mode
      → t.below ≡ s.below → Fine s → Fine t
  entered s t label acts func block at mode below h = (
    λ is.
        subst (λ (p : ℕ × (ℕ × ℕ)). RunsOut (function_at m p.0) (record { block = p.1.0; at = p.1.1 }))
        (λ j. (sym func j, (sym block j, sym at j)))
        (runs_on (function_of g.given s) (here s) (entry_point (function_of g.given s) label)
        (branching (function_of g.given s) (here s) label branches) no_end_there (h.0 (sym mode ∙ is))),
    subst (λ (rows : List Activation). Each (StandsUnended m) rows) (sym below) h.1,
  )
    where
      branches : BranchesTo label (fetch (function_of g.given s) s.top.block s.top.at)
      branches = subst (BranchesTo label) (sym acts.there) (branches_to g s label acts)

      no_end_there : IsCallAt Intrinsic.CoroEnd (function_of g.given s) (here s) → ⊥
      no_end_there c = subst (BranchesTo label) c.stands branches

  came : (s z : State) (v : Option Value) (u : State) → z.top ≡ s.top → z.below ≡ s.below → Comes z v u → Fine s
      → Fine u
  came s z v u top below (Comes.Ends k) h =
      subst Fine (sym k.is) (
        subst (StandsUnended m) (sym top) h.0,
        subst (λ (rows : List Activation). Each (StandsUnended m) rows) (sym below) h.1,
      )
  came s z v u top below (Comes.Back k) h =
      let rows = subst (λ (rows : List Activation). Each (StandsUnended m) rows) (sym below ∙ k.below) h.1 in
      subst Fine (sym k.is) (rows.0, rows.1)

  -- ---- coro.end

  fine_is : (s : State) (r : Result State Cause) (u : State) → or_undefined g.given s r ≡ u → IsFine u.outcome
      → r ≡ Ok u
  fine_is s (Ok v) u is fine = ap Ok is
  fine_is s (Err cause) u is fine = absurd (subst (λ (z : State). IsFine z.outcome) (sym is) fine)

  ended_fine : (s u : State) → s.outcome ≡ Outcome.Running → framed_step g s ≡ u → IsFine u.outcome
      → (args : List Arg) (result : Option ℕ) → ActsBy g s (Coro Intrinsic.CoroEnd args result)
      → s.top.mode ≡ Mode.Resumed → Fine s → Fine u
  ended_fine s u runs is fine args result acts mode h =
      came s (ended s) None u (ended_stack s).top (ended_stack s).below
      (comes (ended s) None u (fine_is s (return (ended s) None) u (sym does ∙ is) fine)) h
    where
      does : framed_step g s ≡ or_undefined g.given s (return (ended s) None)
      does =
          ap (framed_advance g s) runs
          ∙ ap (or_undefined g.given s)
          (ap (framed_next g s) acts.there
          ∙ (ap (λ (o : Option (Result State Cause)). unwrap_or o (framed_act g s
          (action_of (framed_context g s) (work_of s) acts.here))) acts.none
          ∙ (ap (framed_act g s) acts.acts
          ∙ ap (λ (by : Mode). after_end (ended s) result by) mode)))

  -- any other intrinsic is passed
  passed : (s u : State) → s.outcome ≡ Outcome.Running → framed_step g s ≡ u → IsFine u.outcome → (i : Intrinsic)
      (args : List Arg) (result : Option ℕ) → ActsBy g s (Coro i args result) → Fine s → Fine u ⊎ Further s
  passed s u runs is fine i args result acts h = by (end_or i args result)
    where
      at_end : (mode : Mode) → s.top.mode ≡ mode → ActsBy g s (Coro Intrinsic.CoroEnd args result)
          → Fine u ⊎ Further s
      at_end Mode.Resumed e here = inl (ended_fine s u runs is fine args result here e h)
      at_end Mode.Plain e here = inr (λ resumed. absurd (cc))
      at_end Mode.Ramp e here = inr (λ resumed. absurd (cc))
      at_end (Mode.GivenRamp frame) e here = inr (λ resumed. absurd (cc))
      at_end (Mode.Entering from label) e here = inr (λ resumed. absurd (cc))

      by : (i ≡ Intrinsic.CoroEnd) ⊎ NotEnd (Coro i args result) → Fine u ⊎ Further s
      by (inl e) =
          at_end s.top.mode refl (subst (λ (j : Intrinsic). ActsBy g s (Coro j args result)) e acts)
      by (inr ne) = inr (further s (Coro i args result) acts refl ne h)

  -- ---- steps

  stays : (s u : State) → s.outcome ≡ Outcome.Running → framed_step g s ≡ u → IsFine u.outcome
      → SleepBehind g.given.code s × EnterBehind g.given.code s → Fine s → LeadsTo g s u → Fine u
  stays s _ runs is fine q h (LeadsTo.Works w acts) =
      onward s (settled s w) refl refl refl refl refl (further s (Done w) acts refl tt h) h
  stays s _ runs is fine q h (LeadsTo.MakesSlot w slot acts) = by s.top.mode refl
    where
      z : State
      z = settled s w

      y : State
      y = with_slots z (slot ∷ z.top.slots)

      on : Fine y
      on = onward s y refl refl refl refl refl (further s (NewSlot w slot) acts refl tt h) h

      next_one : Option Point
      next_one = alloca_from (function_of g.given s) (s.top.at + 1)

      by : (mode : Mode) → s.top.mode ≡ mode → Fine (framed_slot g z slot mode)
      by Mode.Plain e = on
      by Mode.Ramp e = on
      by Mode.Resumed e = on
      by (Mode.GivenRamp frame) e = on
      by (Mode.Entering from label) e = (
        unended m (enter_after g y from label next_one).top (ends (enter_after g y from label next_one).top.func)
            (enters_there g y from label (s.top.at + 1) (q.1.0 from label e) next_one refl),
        subst (λ (rows : List Activation). Each (StandsUnended m) rows)
            (sym (entered_on g y from label next_one).below) h.1,
      )
  stays s _ runs is fine q h (LeadsTo.Enters func args result must_tail acts) = (
    λ mode. absurd (called_plain (function_at m func).coroutine mode),
    (further s (Enter func args result must_tail) acts refl tt h, h.1),
  )
  stays s _ runs is fine q h (LeadsTo.EntersGiven func result args calls) = (
    λ mode. absurd (cc),
    (further_given s func result args calls h, h.1),
  )
  stays s _ runs is fine q h (LeadsTo.Answers i args result v acts) =
      on (passed s (gives s result v) runs is fine i args result acts h)
    where
      on : Fine (gives s result v) ⊎ Further s → Fine (gives s result v)
      on (inl done) = done
      on (inr way) = onward s (gives s result v) refl refl refl refl refl way h
  stays s _ runs is fine q h (LeadsTo.Passes i args result acts) =
      on (passed s (next s) runs is fine i args result acts h)
    where
      on : Fine (next s) ⊎ Further s → Fine (next s)
      on (inl done) = done
      on (inr way) = onward s (next s) refl refl refl refl refl way h
  stays s _ runs is fine q h (LeadsTo.Begins args result mem memory block start acts alone taken) =
      onward s (gives (begun g.given (with_memory s memory) block start) result mem) refl refl refl refl refl
      (further s _ acts refl tt h) h
  stays s _ runs is fine q h (LeadsTo.Releases args result v acts) =
      let k = changed_stack s (λ (x : Instance). record x { released = true }) (own_instance s) in
      onward s (gives (release s) result v) (ap (λ (a : Activation). a.func) k.top)
      (ap (λ (a : Activation). a.block) k.top) (ap (λ (a : Activation). a.at + 1) k.top)
      (ap (λ (a : Activation). a.mode) k.top) k.below (further s _ acts refl tt h) h
  stays s _ runs is fine q h (LeadsTo.Saves args result i x save suspend acts own unfreed) =
      onward s (next (saved_at s i x save suspend)) refl refl refl refl refl (further s _ acts refl tt h) h
  stays s _ runs is fine q h (LeadsTo.Suspends args result i x save suspend acts own unfreed) =
      onward s (gives (saved_at s i x save suspend) result (integer 8 (negsuc 0))) refl refl refl refl refl
      (further s _ acts refl tt h) h
  stays s _ runs is fine q h (LeadsTo.Wakes i args result y label acts sleeps_there) =
      on (passed s u runs is fine i args result acts h)
    where
      u : State
      u = continue_framed g s y.number y.instance y.suspend y.values label

      longer : length u.below ≡ length s.below + 1
      longer =
          let up = higher _ (record s.top { at = s.top.at + 1 }) s.below
          (woken_on g s y.number y.instance y.suspend y.values label).below in
          omega (arith, up)

      k : IsWoken g s u
      k = wakes_by g s u runs is fine i args result acts longer

      w : State
      w =
          continue_framed g s k.sleeper.number k.sleeper.instance k.sleeper.suspend k.sleeper.values k.label

      woken : Further s → Fine w
      woken way = (
        unended m w.top (ends w.top.func)
            (wakes_there g s q.0 k.sleeper k.label (asleep s k.from k.sleeper k.sleeps) k.at),
        subst (λ (rows : List Activation). Each (StandsUnended m) rows)
            (sym (woken_on g s k.sleeper.number k.sleeper.instance k.sleeper.suspend k.sleeper.values k.label).below)
            (way, h.1),
      )

      on : Fine u ⊎ Further s → Fine u
      on (inl done) = done
      on (inr way) = subst Fine (sym k.is) (woken way)
  stays s _ runs is fine q h (LeadsTo.EndsRamp args result acts ramp) =
      let k = ended_stack s in (
        λ mode. absurd (ramp (sym (ap (λ (a : Activation). a.mode) k.top) ∙ mode)),
        subst (λ (rows : List Activation). Each (StandsUnended m) rows) (sym k.below) h.1,
      )
  stays s _ runs is fine q h (LeadsTo.EndsResumed args result u acts mode back) =
      came s (ended s) None u (ended_stack s).top (ended_stack s).below (comes (ended s) None u back) h
  stays s _ runs is fine q h (LeadsTo.Deallocates p memory acts dead) =
      let k = gone_stack s (instance_at s.instances p) in
      onward s (next (with_memory (if_let_go s (instance_at s.instances p)) memory))
      (ap (λ (a : Activation). a.func) k.top) (ap (λ (a : Activation). a.block) k.top)
      (ap (λ (a : Activation). a.at + 1) k.top) (ap (λ (a : Activation). a.mode) k.top) k.below
      (further s (Deallocate p) acts refl tt h) h
  stays s _ runs is fine q h (LeadsTo.GoesTo label acts none) =
      entered s (enter_block g.given s label) label acts refl refl refl refl refl h
  stays s _ runs is fine q h (LeadsTo.Leaves label w ws i x acts leaves own may) =
      entered s (enter_block g.given (with_left (with_status s i x Status.Running) false) label) label acts refl refl
      refl refl refl h
  stays s _ runs is fine q h (LeadsTo.Returns v u acts back) = came s s v u refl refl (comes s v u back) h

  -- ---- runs

  pub unended_in_runs : (entry : ℕ) (args : List Word)
      → ((n : ℕ) → SleepBehind g.given.code (framed_state_at g entry args n)
      × EnterBehind g.given.code (framed_state_at g entry args n)) → (n : ℕ)
      → IsFine (framed_state_at g entry args n).outcome
      → StandUnended g.given.code (framed_state_at g entry args n)
  unended_in_runs entry args known n fine =
      runs_keep_by g Fine (λ (s : State). SleepBehind g.given.code s × EnterBehind g.given.code s) stays entry args
      ((λ mode. absurd (cc)), tt) (λ k ok. known k) n fine

-- where no ret stands
pub no_ret : (g : FramedGiven) (s : State) → StandUnended g.given.code s → EndsBeforeRets (function_of g.given s)
    → (value : Option Arg) → s.top.mode ≡ Mode.Resumed
    → fetch (function_of g.given s) s.top.block s.top.at ≡ AtTerm (Terminator.Ret value) → ⊥
no_ret g s h ends value mode there =
    ends.returns (record { block = s.top.block; at = s.top.at }) value there (h.0 mode)
