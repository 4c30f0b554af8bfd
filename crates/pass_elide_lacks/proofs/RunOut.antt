-- A resumed activation stands where a path leads from begin without the end, in each state of a framed run.
use Rattle.std.proofs.Common.{◌≡◌, ◌⊎◌, inl, inr, ◌∙◌, ◌+◌, ℕ, suc, Bool, true, false, List, ◌∷◌, length, Err, None, Ok, Option, Result, Some, ap, if◌then◌else◌, refl, sym, subst, arith}
use Rattle.std.specs.Prelude.{unwrap_or}
use Rattle.pass_elide_lacks.proofs.EndPaths.{no_end, out_behind, out_on, term_apart}
use Rattle.pass_elide_lacks.specs.Ends.{HasRunOut, HaveRunOut, IsRunOut, EndsBeforeRets}
use Rattle.pass_elide_meaning.proofs.pass_elide_runs.Acts.{IsInstr, branches_to, instr_of}
use Rattle.pass_elide_meaning.proofs.pass_elide_runs.KnownModes.{IsAsleep, asleep}
use Rattle.pass_elide_meaning.proofs.pass_elide_runs.Led.{sound_there, state_reached}
use Rattle.pass_elide_meaning.proofs.pass_elide_runs.Runs.{runs_keep_by}
use Rattle.pass_elide_meaning.proofs.pass_elide_runs.Stacks.{Comes, changed_stack, comes, ended_stack, gone_stack, woken_at, woken_on}
use Rattle.pass_elide_meaning.proofs.pass_elide_runs.WakesBy.{IsWoken, wakes_by}
use Rattle.pass_elide_meaning.proofs.pass_elide_edges.pass_elide_proof.ReleasingActs.{goto_there}
use Rattle.pass_elide_meaning.specs.pass_elide_edges.pass_elide_proof.StepCases.{ActsBy, CallsGiven, LeadsTo, ended}
use Rattle.pass_elide_meaning.specs.pass_elide_edges.pass_elide_proof.pass_proofs.ir_base.declared.cause.Cause.{Cause}
use Rattle.pass_elide_meaning.specs.pass_elide_edges.pass_elide_proof.pass_proofs.ir_base.declared.outcome.Outcome.{Outcome}
use Rattle.pass_elide_meaning.specs.pass_elide_edges.pass_elide_proof.pass_proofs.ir_base.declared.outcome.Word.{Word}
use Rattle.pass_elide_meaning.specs.pass_elide_edges.pass_elide_proof.pass_proofs.ir_model.Names.{function_at, same_intrinsic}
use Rattle.pass_elide_meaning.specs.pass_elide_edges.pass_elide_proof.pass_proofs.ir_model.declared.instr.Instr.{Instr}
use Rattle.pass_elide_meaning.specs.pass_elide_edges.pass_elide_proof.pass_proofs.ir_model.declared.instr.Terminator.{Terminator}
use Rattle.pass_elide_meaning.specs.pass_elide_edges.pass_elide_proof.pass_proofs.ir_model.declared.module.Function.{Function}
use Rattle.pass_elide_meaning.specs.pass_elide_edges.pass_elide_proof.pass_proofs.ir_model.declared.module.Module.{Module}
use Rattle.pass_elide_meaning.specs.pass_elide_edges.pass_elide_proof.pass_proofs.ir_model.declared.operand.Arg.{Arg}
use Rattle.pass_elide_meaning.specs.pass_elide_edges.pass_elide_proof.pass_proofs.ir_model.declared.operand.Callee.{Callee}
use Rattle.pass_elide_meaning.specs.pass_elide_edges.pass_elide_proof.pass_proofs.ir_model.declared.operand.Intrinsic.{Intrinsic}
use Rattle.pass_elide_meaning.specs.pass_elide_edges.pass_elide_proof.pass_proofs.ir_paths.Paths.{entry_point, has_point}
use Rattle.pass_elide_meaning.specs.pass_elide_edges.pass_elide_proof.pass_proofs.ir_paths.Windows.{destroy_label, is_call_of, resume_label}
use Rattle.pass_elide_meaning.specs.pass_elide_edges.pass_elide_proof.pass_proofs.ir_paths.declared.point.Point.{Point}
use Rattle.pass_elide_meaning.specs.pass_elide_edges.pass_elide_proof.pass_proofs.pass_kept_proof.Needed.{BranchesTo, IsReached}
use Rattle.pass_elide_meaning.specs.pass_elide_edges.pass_elide_proof.pass_proofs.pass_kept_proof.Related.{IsSoundStatus}
use Rattle.pass_elide_meaning.specs.pass_elide_edges.pass_elide_proof.pass_proofs.pass_kept_proof.SuspendRules.{IsCallAt, IsSwitched}
use Rattle.pass_elide_meaning.specs.pass_elide_edges.pass_elide_proof.pass_proofs.rule_windows.Points.{ends}
use Rattle.pass_elide_meaning.specs.pass_elide_edges.pass_elide_proof.pass_proofs.rule_windows.Sets.{RunsOut}
use Rattle.pass_elide_meaning.specs.pass_elide_edges.pass_elide_proof.pass_proofs.run_agreement.Machines.{IsFine}
use Rattle.pass_elide_meaning.specs.pass_elide_edges.pass_elide_proof.pass_proofs.run_framed.Framed.{FramedGiven, alloca_from, continue_framed, enter_after, framed_act, framed_advance, framed_context, framed_coro, framed_next, framed_slot, framed_state_at, framed_step}
use Rattle.pass_elide_meaning.specs.pass_elide_edges.pass_elide_proof.pass_proofs.run_laws.changed.Changed.{Each}
use Rattle.pass_elide_meaning.specs.pass_elide_edges.pass_elide_proof.pass_proofs.run_memory.declared.pointer.Value.{Value}
use Rattle.pass_elide_meaning.specs.pass_elide_edges.pass_elide_proof.pass_proofs.run_source.Source.{after_end, mode_of}
use Rattle.pass_elide_meaning.specs.pass_elide_edges.pass_elide_proof.pass_proofs.run_source.State.{function_of, gives, instance_at, next, or_undefined, own_instance, settled, with_slots, work_of}
use Rattle.pass_elide_meaning.specs.pass_elide_edges.pass_elide_proof.pass_proofs.run_source.declared.state.Activation.{Activation}
use Rattle.pass_elide_meaning.specs.pass_elide_edges.pass_elide_proof.pass_proofs.run_source.declared.state.Mode.{Mode}
use Rattle.pass_elide_meaning.specs.pass_elide_edges.pass_elide_proof.pass_proofs.run_source.declared.state.State.{State}
use Rattle.pass_elide_meaning.specs.pass_elide_edges.pass_elide_proof.pass_proofs.run_step.Step.{Action, AtInstr, AtTerm, Coro, Deallocate, Done, Enter, GoTo, NewSlot, action_of, fetch}
use Rattle.pass_elide_meaning.specs.pass_elide_edges.pass_elide_proof.pass_proofs.run_step.Values.{arg_values, truth_value, with_result}
use Rattle.run_slots.proofs.run_hooks.pass_renewed_proof.Ahead.{branch_edge, next_edge}
use Rattle.run_slots.specs.run_hooks.Reached.{AllHaveSwitches, IsReachedState}

-- ---- modes and actions

called_plain : (b : Bool) → (if b then Mode.Ramp else Mode.Plain) ≡ Mode.Resumed → ⊥
called_plain true h = cc
called_plain false h = cc

called_calm : (b : Bool) (from label : ℕ) → (if b then Mode.Ramp else Mode.Plain) ≡ Mode.Entering from label → ⊥
called_calm true from label h = cc
called_calm false from label h = cc

same_label : (from k label l : ℕ) → Mode.Entering from label ≡ Mode.Entering k l → label ≡ l
same_label from k label l h = cc

ok_same : (x y : State) → ◌≡◌ {A = Result State Cause} (Ok x) (Ok y) → x ≡ y
ok_same x y h = cc

-- no end is called
abbrev IsNoEnd : Action → Type 0
IsNoEnd a = (args : List Arg) (result : Option ℕ) → a ≡ Coro Intrinsic.CoroEnd args result → ⊥

-- an intrinsic is the end, or another one
which : (j : Intrinsic) → (j ≡ Intrinsic.CoroEnd) ⊎ (j ≡ Intrinsic.CoroEnd → ⊥)
which Intrinsic.CoroEnd = inl refl
which _ = inr (λ is. absurd (cc))

module _ (g : FramedGiven) where
  abbrev m : Module
  m = g.given.code

  abbrev On : State → Type 0
  On s = Each (HasRunOut m) (s.top ∷ s.below)

  -- ---- where no end stands

  -- a call of coro.end does just that
  end_acts : (s : State) (i : Instr) → is_call_of Intrinsic.CoroEnd i ≡ true
      → (args : List Arg) × (result : Option ℕ)
      × (action_of (framed_context g s) (work_of s) (AtInstr i) ≡ Coro Intrinsic.CoroEnd args result)
  end_acts s (Instr.Call result must_tail ty (Callee.Intrinsic j) args) h = by j h
    where
      by : (j : Intrinsic) → same_intrinsic Intrinsic.CoroEnd j ≡ true
          → (xs : List Arg) × (r : Option ℕ)
          × (action_of (framed_context g s) (work_of s)
          (AtInstr (Instr.Call result must_tail ty (Callee.Intrinsic j) args)) ≡ Coro Intrinsic.CoroEnd xs r)
      by Intrinsic.CoroEnd is = (args, result, refl)
      by _ is = absurd (cc)
  end_acts s _ h = absurd (cc)

  abbrev here : State → Point
  here s = record { block = s.top.block; at = s.top.at }

  no_end_here : (s : State) (a : Action) → ActsBy g s a → IsNoEnd a
      → has_point (ends (function_of g.given s)) (here s) ≡ false
  no_end_here s a acts never = no_end (function_of g.given s) (here s) by
    where
      by : IsCallAt Intrinsic.CoroEnd (function_of g.given s) (here s) → ⊥
      by c =
          let k = end_acts s c.instr c.is in
          never k.0 k.1
          (sym acts.acts
          ∙ (ap (action_of (framed_context g s) (work_of s)) (sym acts.there ∙ c.stands) ∙ k.2))

  no_end_called : (s : State) (func : ℕ) (result : Option ℕ) (args : List Arg) → CallsGiven g s func result args
      → has_point (ends (function_of g.given s)) (here s) ≡ false
  no_end_called s func result args calls = no_end (function_of g.given s) (here s) by
    where
      call : Instr
      call = Instr.Call result calls.must_tail calls.ty (Callee.Named calls.name) args

      same : (i : Instr) → AtInstr i ≡ AtInstr call → i ≡ call
      same i h = cc

      by : IsCallAt Intrinsic.CoroEnd (function_of g.given s) (here s) → ⊥
      by c =
          let e : is_call_of Intrinsic.CoroEnd call ≡ true
          = ap (is_call_of Intrinsic.CoroEnd) (sym (same c.instr (sym c.stands ∙ calls.there))) ∙ c.is in
          absurd (cc)

  -- ---- one activation

  -- behind an instruction that is no end
  behind : (s : State) (i : Instr) → fetch (function_of g.given s) s.top.block s.top.at ≡ AtInstr i
      → has_point (ends (function_of g.given s)) (here s) ≡ false → HasRunOut m s.top
      → IsRunOut (function_at m s.top.func) s.top.mode (record { block = s.top.block; at = s.top.at + 1 })
  behind s i there none h = record {
    resumed = λ is.
        out_on (function_at m s.top.func) (here s) (record { block = s.top.block; at = s.top.at + 1 }) (h.resumed is)
        none (next_edge (function_at m s.top.func) s.top.block s.top.at i there);
    entering = h.entering;
  }

  acted : (s : State) (a : Action) (acts : ActsBy g s a) → IsNoEnd a → (i : IsInstr acts.here) → HasRunOut m s.top
      → IsRunOut (function_at m s.top.func) s.top.mode (record { block = s.top.block; at = s.top.at + 1 })
  acted s a acts never i h = behind s i.instr (acts.there ∙ i.is) (no_end_here s a acts never) h

  -- in a mode in which it wasn't resumed
  calm : (f : Function) (mode : Mode) (p q : Point) → (mode ≡ Mode.Resumed → ⊥) → IsRunOut f mode p
      → IsRunOut f mode q
  calm f mode p q never h = record { resumed = λ is. absurd (never is); entering = h.entering }

  new_one : (f : Function) (mode : Mode) (p : Point) → (mode ≡ Mode.Resumed → ⊥)
      → ((from label : ℕ) → mode ≡ Mode.Entering from label → ⊥) → IsRunOut f mode p
  new_one f mode p never quiet = record {
    resumed = λ is. absurd (never is);
    entering = λ from label is. absurd (quiet from label is);
  }

  -- at a label behind a suspend
  at_label : (f : Function) (label : ℕ) → RunsOut f (entry_point f label)
      → IsRunOut f Mode.Resumed (entry_point f label)
  at_label f label h = record { resumed = λ is. h; entering = λ from l is. absurd (cc) }

  on_way : (f : Function) (from label : ℕ) (p : Point) → RunsOut f (entry_point f label)
      → IsRunOut f (Mode.Entering from label) p
  on_way f from label p h = record {
    resumed = λ is. absurd (cc);
    entering = λ k l is. subst (λ (n : ℕ). RunsOut f (entry_point f n)) (same_label from k label l is) h;
  }

  -- over an edge
  over : (s : State) (label : ℕ) (acts : ActsBy g s (GoTo label)) → HasRunOut m s.top
      → IsRunOut (function_at m s.top.func) s.top.mode (entry_point (function_at m s.top.func) label)
  over s label acts h =
      let last = goto_there (framed_context g s) (work_of s) acts.here label acts.acts in
      record {
        resumed = λ is.
            out_on (function_at m s.top.func) (here s) (entry_point (function_at m s.top.func) label) (h.resumed is)
            (no_end (function_at m s.top.func) (here s)
            (term_apart (function_at m s.top.func) (here s) last.0 (acts.there ∙ last.1)))
            (branch_edge (function_at m s.top.func) s.top.block s.top.at label
            (subst (BranchesTo label) (sym acts.there) (branches_to g s label acts))).edge;
        entering = h.entering;
      }

  came : (s : State) (v : Option Value) (u : State) → Comes s v u → On s → On u
  came s v u (Comes.Ends c) h = subst On (sym c.is) (h.0, h.1)
  came s v u (Comes.Back c) h =
      let rest = subst (λ (bs : List Activation). Each (HasRunOut m) bs) c.below h.1 in
      subst On (sym c.is) (rest.0, rest.1)

  -- ---- the end

  fine_is : (s u : State) (r : Result State Cause) → or_undefined g.given s r ≡ u → IsFine u.outcome → r ≡ Ok u
  fine_is s u (Ok v) is fine = ap Ok is
  fine_is s u (Err cause) is fine = absurd (subst (λ (z : State). IsFine z.outcome) (sym is) fine)

  after_same : (s : State) → On s → On (ended s)
  after_same s h =
      let c = ended_stack s in
      subst (λ (p : Activation × List Activation). Each (HasRunOut m) (p.0 ∷ p.1))
      (λ j. (sym c.top j, sym c.below j)) h

  -- a ramp goes on
  ramp_goes : (s u : State) (result : Option ℕ) → (s.top.mode ≡ Mode.Resumed → ⊥)
      → gives (ended s) result (truth_value false) ≡ u → On s → On u
  ramp_goes s u result never is h =
      let c = ended_stack s in
      subst On is
      (subst (λ (p : Activation × List Activation). Each (HasRunOut m)
      (record p.0 { at = p.0.at + 1; values = with_result p.0.values result (truth_value false) } ∷ p.1))
      (λ j. (sym c.top j, sym c.below j)) (
        calm (function_at m s.top.func) s.top.mode (here s) (record { block = s.top.block; at = s.top.at + 1 }) never
            h.0,
        h.1,
      ))

  ends_by : (s u : State) (result : Option ℕ) (mode : Mode) → s.top.mode ≡ mode
      → after_end (ended s) result mode ≡ Ok u → On s → On u
  ends_by s u result Mode.Resumed is does h = came (ended s) None u (comes (ended s) None u does) (after_same s h)
  ends_by s u result Mode.Plain is does h = ramp_goes s u result (λ e. no (sym is ∙ e)) (ok_same _ u does) h
    where
      no : Mode.Plain ≡ Mode.Resumed → ⊥
      no e = cc
  ends_by s u result Mode.Ramp is does h = ramp_goes s u result (λ e. no (sym is ∙ e)) (ok_same _ u does) h
    where
      no : Mode.Ramp ≡ Mode.Resumed → ⊥
      no e = cc
  ends_by s u result (Mode.GivenRamp frame) is does h =
      ramp_goes s u result (λ e. no (sym is ∙ e)) (ok_same _ u does) h
    where
      no : Mode.GivenRamp frame ≡ Mode.Resumed → ⊥
      no e = cc
  ends_by s u result (Mode.Entering from label) is does h =
      ramp_goes s u result (λ e. no (sym is ∙ e)) (ok_same _ u does) h
    where
      no : Mode.Entering from label ≡ Mode.Resumed → ⊥
      no e = cc

  at_end : (s u : State) → s.outcome ≡ Outcome.Running → framed_step g s ≡ u → IsFine u.outcome → (args : List Arg)
      (result : Option ℕ) → ActsBy g s (Coro Intrinsic.CoroEnd args result) → On s → On u
  at_end s u runs step fine args result acts h =
      ends_by s u result s.top.mode refl
      (fine_is s u (framed_coro g s Intrinsic.CoroEnd args (arg_values m s.top.values args) result) (sym does ∙ step)
      fine) h
    where
      does : framed_step g s
          ≡ or_undefined g.given s
          (framed_coro g s Intrinsic.CoroEnd args (arg_values m s.top.values args) result)
      does =
          ap (framed_advance g s) runs
          ∙ ap (or_undefined g.given s)
          (ap (framed_next g s) acts.there
          ∙ (ap (λ (o : Option (Result State Cause)). unwrap_or o (framed_act g s
          (action_of (framed_context g s) (work_of s) acts.here))) acts.none
          ∙ ap (framed_act g s) acts.acts))

  -- any other intrinsic
  not_end : (j : Intrinsic) (args : List Arg) (result : Option ℕ) → (j ≡ Intrinsic.CoroEnd → ⊥)
      → IsNoEnd (Coro j args result)
  not_end j args result never xs r is = never (same is)
    where
      same : Coro j args result ≡ Coro Intrinsic.CoroEnd xs r → j ≡ Intrinsic.CoroEnd
      same e = cc

  -- ---- steps

  module _ (rets : (func : ℕ) → EndsBeforeRets (function_at m func)) (switches : AllHaveSwitches m) where
    -- the labels of a suspend
    woken_out : (s : State) (q : IsReachedState g.given s) (u : State) (w : IsWoken g s u)
        → RunsOut (function_at m w.sleeper.instance.coroutine)
        (entry_point (function_at m w.sleeper.instance.coroutine) w.label)
    woken_out s q u w =
        out_behind f p w.label status.1 switch.term switch.stands (by w.at)
        ((rets func).suspends p status.0 status.1)
      where
        func : ℕ
        func = w.sleeper.instance.coroutine

        f : Function
        f = function_at m func

        p : Point
        p = w.sleeper.suspend

        sleeper : IsAsleep s w.sleeper
        sleeper = asleep s w.from w.sleeper w.sleeps

        status : IsReached f p.block p.at × IsCallAt Intrinsic.CoroSuspend f p
        status =
            subst (IsSoundStatus g.given func) sleeper.status
            (sound_there g.given s.instances q.instances w.sleeper.number w.sleeper.instance sleeper.there)

        switch : IsSwitched f p
        switch = (switches func).switched p status.1

        by : (w.label ≡ resume_label f p) ⊎ (w.label ≡ destroy_label f p) → BranchesTo w.label (AtTerm switch.term)
        by (inl is) = subst (λ (l : ℕ). BranchesTo l (AtTerm switch.term)) (sym is) switch.to_resume
        by (inr is) = subst (λ (l : ℕ). BranchesTo l (AtTerm switch.term)) (sym is) switch.to_destroy

    pub out_stays : (s u : State) → s.outcome ≡ Outcome.Running → framed_step g s ≡ u → IsFine u.outcome
        → IsReachedState g.given s → On s → LeadsTo g s u → On u
    out_stays s _ runs step fine q h (LeadsTo.Works w acts) =
        (acted s (Done w) acts (λ xs r is. absurd (cc)) (instr_of g s (Done w) acts refl) h.0, h.1)
    out_stays s _ runs step fine q h (LeadsTo.MakesSlot w slot acts) = by s.top.mode refl
      where
        further : IsRunOut (function_at m s.top.func) s.top.mode (record { block = s.top.block; at = s.top.at + 1 })
        further =
            acted s (NewSlot w slot) acts (λ xs r is. absurd (cc)) (instr_of g s (NewSlot w slot) acts refl) h.0

        by : (mode : Mode) → s.top.mode ≡ mode → On (framed_slot g (settled s w) slot mode)
        by Mode.Plain is = (further, h.1)
        by Mode.Ramp is = (further, h.1)
        by Mode.Resumed is = (further, h.1)
        by (Mode.GivenRamp frame) is = (further, h.1)
        by (Mode.Entering from label) is = after (alloca_from (function_of g.given s) (s.top.at + 1))
          where
            after : (o : Option Point)
                → On (enter_after g (with_slots (settled s w) (slot ∷ s.top.slots)) from label o)
            after None = (at_label (function_at m s.top.func) label (h.0.entering from label is), h.1)
            after (Some p) = (on_way (function_at m s.top.func) from label p (h.0.entering from label is), h.1)
    out_stays s _ runs step fine q h (LeadsTo.Enters func args result must_tail acts) = (
      new_one (function_at m func) (mode_of (function_at m func)) (record { block = 0; at = 0 })
          (called_plain (function_at m func).coroutine) (called_calm (function_at m func).coroutine),
      (
        acted s (Enter func args result must_tail) acts (λ xs r is. absurd (cc))
            (instr_of g s (Enter func args result must_tail) acts refl) h.0,
        h.1,
      ),
    )
    out_stays s _ runs step fine q h (LeadsTo.EntersGiven func result args calls) = (
      new_one (function_at m func) _ (record { block = 0; at = 0 }) (λ is. absurd (cc))
          (λ from label is. absurd (cc)),
      (
        behind s (Instr.Call result calls.must_tail calls.ty (Callee.Named calls.name) args) calls.there
            (no_end_called s func result args calls) h.0,
        h.1,
      ),
    )
    out_stays s _ runs step fine q h (LeadsTo.Answers j args result v acts) = by (which j)
      where
        by : (j ≡ Intrinsic.CoroEnd) ⊎ (j ≡ Intrinsic.CoroEnd → ⊥) → On (gives s result v)
        by (inl is) =
            at_end s (gives s result v) runs step fine args result
            (subst (λ (k : Intrinsic). ActsBy g s (Coro k args result)) is acts) h
        by (inr other) = (
          acted s (Coro j args result) acts (not_end j args result other)
              (instr_of g s (Coro j args result) acts refl) h.0,
          h.1,
        )
    out_stays s _ runs step fine q h (LeadsTo.Passes j args result acts) = by (which j)
      where
        by : (j ≡ Intrinsic.CoroEnd) ⊎ (j ≡ Intrinsic.CoroEnd → ⊥) → On (next s)
        by (inl is) =
            at_end s (next s) runs step fine args result
            (subst (λ (k : Intrinsic). ActsBy g s (Coro k args result)) is acts) h
        by (inr other) = (
          acted s (Coro j args result) acts (not_end j args result other)
              (instr_of g s (Coro j args result) acts refl) h.0,
          h.1,
        )
    out_stays s _ runs step fine q h (LeadsTo.Begins args result mem memory block start acts alone taken) = (
      acted s (Coro Intrinsic.CoroBegin args result) acts (λ xs r is. absurd (cc))
          (instr_of g s (Coro Intrinsic.CoroBegin args result) acts refl) h.0,
      h.1,
    )
    out_stays s _ runs step fine q h (LeadsTo.Releases args result v acts) =
        let c = changed_stack s (λ x. record x { released = true }) (own_instance s) in
        subst (λ (p : Activation × List Activation). Each (HasRunOut m)
        (record p.0 { at = p.0.at + 1; values = with_result p.0.values result v } ∷ p.1))
        (λ j. (sym c.top j, sym c.below j)) (
          acted s (Coro Intrinsic.CoroFree args result) acts (λ xs r is. absurd (cc))
              (instr_of g s (Coro Intrinsic.CoroFree args result) acts refl) h.0,
          h.1,
        )
    out_stays s _ runs step fine q h (LeadsTo.Saves args result n x save suspend acts own unfreed) = (
      acted s (Coro Intrinsic.CoroSave args result) acts (λ xs r is. absurd (cc))
          (instr_of g s (Coro Intrinsic.CoroSave args result) acts refl) h.0,
      h.1,
    )
    out_stays s _ runs step fine q h (LeadsTo.Suspends args result n x save suspend acts own unfreed) = (
      acted s (Coro Intrinsic.CoroSuspend args result) acts (λ xs r is. absurd (cc))
          (instr_of g s (Coro Intrinsic.CoroSuspend args result) acts refl) h.0,
      h.1,
    )
    out_stays s _ runs step fine q h (LeadsTo.Wakes j args result y label acts sleeps) = by (which j)
      where
        u : State
        u = continue_framed g s y.number y.instance y.suspend y.values label

        longer : length u.below ≡ length s.below + 1
        longer =
            let one : suc (length s.below) ≡ length s.below + 1 = omega arith in
            ap length (woken_on g s y.number y.instance y.suspend y.values label).below ∙ one

        w : IsWoken g s u
        w = wakes_by g s u runs step fine j args result acts longer

        waits : (j ≡ Intrinsic.CoroEnd → ⊥)
            → IsRunOut (function_at m s.top.func) s.top.mode (record { block = s.top.block; at = s.top.at + 1 })
        waits other =
            acted s (Coro j args result) acts (not_end j args result other)
            (instr_of g s (Coro j args result) acts refl) h.0

        after : (j ≡ Intrinsic.CoroEnd → ⊥) → (o : Option Point)
            → On (enter_after g (woken_at g s w.sleeper.number w.sleeper.instance w.sleeper.suspend)
            w.sleeper.suspend.block w.label o)
        after other None = (
          at_label (function_at m w.sleeper.instance.coroutine) w.label (woken_out s q u w),
          (waits other, h.1),
        )
        after other (Some p) = (
          on_way (function_at m w.sleeper.instance.coroutine) w.sleeper.suspend.block w.label p (woken_out s q u w),
          (waits other, h.1),
        )

        by : (j ≡ Intrinsic.CoroEnd) ⊎ (j ≡ Intrinsic.CoroEnd → ⊥) → On u
        by (inl is) =
            at_end s u runs step fine args result (subst (λ (k : Intrinsic). ActsBy g s (Coro k args result)) is acts) h
        by (inr other) = subst On (sym w.is) (after other (alloca_from (function_at m w.sleeper.instance.coroutine) 0))
    out_stays s _ runs step fine q h (LeadsTo.EndsRamp args result acts ramp) =
        at_end s (gives (ended s) result (truth_value false)) runs step fine args result acts h
    out_stays s _ runs step fine q h (LeadsTo.EndsResumed args result u acts mode back) =
        at_end s u runs step fine args result acts h
    out_stays s _ runs step fine q h (LeadsTo.Deallocates p memory acts dead) =
        let c = gone_stack s (instance_at s.instances p) in
        subst (λ (p : Activation × List Activation). Each (HasRunOut m) (record p.0 { at = p.0.at + 1 } ∷ p.1))
        (λ j. (sym c.top j, sym c.below j)) (
          acted s (Deallocate p) acts (λ xs r is. absurd (cc)) (instr_of g s (Deallocate p) acts refl) h.0,
          h.1,
        )
    out_stays s _ runs step fine q h (LeadsTo.GoesTo label acts none) = (over s label acts h.0, h.1)
    out_stays s _ runs step fine q h (LeadsTo.Leaves label w ws n x acts leaves own may) =
        (over s label acts h.0, h.1)
    out_stays s _ runs step fine q h (LeadsTo.Returns v u acts back) = came s v u (comes s v u back) h

    -- ---- runs

    pub out_in_runs : (entry : ℕ) (args : List Word) (n : ℕ) → IsFine (framed_state_at g entry args n).outcome
        → HaveRunOut m (framed_state_at g entry args n)
    out_in_runs entry args n fine =
        runs_keep_by g On (IsReachedState g.given) out_stays entry args (
          new_one (function_at m entry) Mode.Plain (record { block = 0; at = 0 }) (λ is. absurd (cc))
              (λ from label is. absurd (cc)),
          tt,
        ) (λ j ok. state_reached g switches entry args j) n fine

    -- a resumed activation comes to no ret
    pub no_ret : (s : State) → HaveRunOut m s → (value : Option Arg) → s.top.mode ≡ Mode.Resumed
        → fetch (function_at m s.top.func) s.top.block s.top.at ≡ AtTerm (Terminator.Ret value) → ⊥
    no_ret s h value mode there = (rets s.top.func).returns (here s) value there (h.0.resumed mode)
