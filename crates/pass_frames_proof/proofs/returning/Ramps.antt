-- The return of a coroutine's ramp is followed: what it returns is fetched at the end of its block.
use Rattle.std.proofs.Common.{◌≡◌, ℕ, ◌+◌, ◌-◌, ◌<◌, ◌≤◌, Bool, List, ◌++◌, length, refl, sym, ap, ◌∙◌, subst, arith}
use Rattle.std.specs.Prelude.{None, Option, Some, if◌then◌else◌}
use Rattle.pass_frames_steps.specs.ir_base.declared.outcome.Outcome.{Outcome}
use Rattle.pass_frames_steps.specs.ir_model.Names.{function_at}
use Rattle.pass_frames_steps.specs.ir_model.declared.instr.Instr.{Instr}
use Rattle.pass_frames_steps.specs.ir_model.declared.instr.Terminator.{Terminator}
use Rattle.pass_frames_steps.specs.ir_model.declared.module.Function.{Function}
use Rattle.pass_frames_steps.specs.ir_model.declared.operand.Arg.{Arg}
use Rattle.pass_frames_steps.specs.ir_paths.declared.point.Point.{Point}
use Rattle.pass_frames_steps.specs.pass_cells.Cells.{fetches_of}
use Rattle.pass_frames_steps.specs.pass_fetch.Blocks.{end_at}
use Rattle.pass_frames_steps.specs.pass_fetch.Fetching.{fetch_into, fetches_of_all, next_after_all}
use Rattle.pass_frames_steps.specs.pass_fetch.Instrs.{fetched_return, fetched_term, term_operands}
use Rattle.pass_frames_steps.specs.pass_fetch.declared.fetch.Fetch.{Fetch}
use Rattle.pass_frames_steps.proofs.code.Left.{Far, far_named}
use Rattle.pass_frames_steps.proofs.code.Names.{far_left}
use Rattle.pass_frames_proof.proofs.jumping.Ends.{end_each, into_gives, into_still}
use Rattle.pass_frames_proof.proofs.jumping.Goes.{one_at_end}
use Rattle.pass_frames_proof.proofs.jumping.Places.{ends_there}
use Rattle.pass_frames_steps.proofs.led.Steps.{still_through}
use Rattle.pass_frames_steps.proofs.lined.Lines.{each_between, framed_does, line_leads}
use Rattle.pass_frames_steps.proofs.phis.Rows.{ends as ends_run}
use Rattle.pass_frames_proof.proofs.returning.Back.{GoesBack, goes_back}
use Rattle.pass_frames_proof.proofs.returning.Returns.{returns_value}
use Rattle.pass_frames_steps.proofs.stepping.Onward.{onward_followed}
use Rattle.pass_frames_proof.proofs.jumping.Placed.{between_label}
use Rattle.pass_frames_steps.proofs.stepping.Shown.{still_shown}
use Rattle.pass_frames_steps.proofs.stepping.Stands.{cost_is, renewed_does, top_is}
use Rattle.pass_frames_steps.specs.Code.{address_state, end_code, end_loads, end_term, last_state, load_name, slot_table}
use Rattle.pass_frames_steps.specs.Distances.{IsBelow}
use Rattle.pass_frames_steps.specs.Edges.{EndsInPlace}
use Rattle.pass_frames_steps.specs.Fetched.{AreSeenAs}
use Rattle.pass_frames_steps.specs.Followed.{IsFollowed, IsOn}
use Rattle.pass_frames_steps.specs.Framings.{IsFraming}
use Rattle.pass_frames_steps.specs.Jumps.{EndsAt, label_at}
use Rattle.pass_frames_steps.specs.Led.{IsStill, IsTwiceFor, RunsThrough}
use Rattle.pass_frames_steps.specs.Lined.{GivesNone, lined}
use Rattle.pass_frames_steps.specs.Meaning.{action_at, coroutine_cost, other_cost, step_cost}
use Rattle.pass_frames_steps.specs.Passes.{block_at, phi_ends}
use Rattle.pass_frames_steps.specs.Places.{Framing, edged, framed, instrs_at, named, place, plan, unmarked}
use Rattle.pass_frames_steps.specs.Related.{AreBuiltOf, Building, point_of}
use Rattle.pass_frames_steps.specs.Returning.{IsAtReturn, MayReturn, OwnsSlots, given_value, value_of}
use Rattle.pass_frames_steps.specs.Stepping.{AreGiven}
use Rattle.pass_frames_steps.specs.pass_renewed_proof.Renewed.{RenewedGiven, renewed_step}
use Rattle.pass_frames_steps.specs.run_agreement.Machines.{iterate}
use Rattle.pass_frames_steps.specs.run_framed.Framed.{framed_context, framed_step}
use Rattle.pass_frames_steps.specs.run_laws.access.Lines.{Runs, StandAt}
use Rattle.pass_frames_steps.specs.run_laws.changed.Changed.{Each}
use Rattle.pass_frames_steps.specs.run_laws.memory.Pointers.{IsValue}
use Rattle.pass_frames_steps.specs.run_memory.declared.pointer.Value.{Value}
use Rattle.pass_frames_steps.specs.run_source.Source.{context_of}
use Rattle.pass_frames_steps.specs.run_source.State.{function_of, or_undefined, work_of}
use Rattle.pass_frames_steps.specs.run_source.declared.state.Activation.{Activation}
use Rattle.pass_frames_steps.specs.run_source.declared.state.State.{State}
use Rattle.pass_frames_steps.specs.run_step.Step.{AtTerm, Context, Return, Work, action_of, fetch}
use Rattle.pass_frames_steps.specs.run_step.Values.{arg_value}

module _ (b : Building) (g : RenewedGiven) (given : AreGiven b g) (s t : State) (r : AreBuiltOf b s t)
    (arg : Option Arg) (a : Activation) (more : List Activation) (h : IsAtReturn b g s arg a more)
    (q : MayReturn b g s t r arg) (owns : OwnsSlots b s t r) where
  abbrev x : Framing
  x = b.framing s.top.func

  abbrev T : List (Option Fetch)
  T = fetches_of (plan x)

  abbrev U : List (Option Fetch)
  U = slot_table x

  abbrev c : Context
  c = context_of g.given s

  abbrev d : Context
  d = framed_context b.given t

  abbrev k : ℕ
  k = s.top.block

  abbrev n : ℕ
  n = load_name (last_state x k)

  abbrev m : ℕ
  m = (address_state (last_state x k)).0

  is : IsFraming x
  is = given.framings s.top.func q.coroutine

  running : t.outcome ≡ Outcome.Running
  running = r.outcome ∙ h.runs

  run : EndsAt x q.given q.reached d k (work_of t)
  run =
      ends_run T U q.given q.reached d (named x) (unmarked x) (label_at x k) n m
      (term_operands (block_at (edged x) k).term) (term_operands (block_at (unmarked x) k).term) (work_of t) q.ends

  -- ---- the line at the end of the block

  abbrev line_by : ℕ → List Instr
  line_by l =
      end_loads x k (last_state x k)
      ++ (end_at (phi_ends (unmarked x) U) l
      ++ fetches_of_all U m (term_operands (block_at (unmarked x) k).term))

  abbrev line : List Instr
  line = end_code x k (last_state x k)

  label_same : (block_at (unmarked x) k).label ≡ label_at x k
  label_same = between_label x k q.block

  all : (P : Instr → Type 0) → ((j : ℕ) (y : Fetch) → P (fetch_into j y)) → Each P line
  all P one =
      subst (λ (l : ℕ). Each P (line_by l)) (sym label_same)
      (end_each P one T U (named x) (unmarked x) (label_at x k) n m
      (term_operands (block_at (edged x) k).term) (term_operands (block_at (unmarked x) k).term))

  runs_line : Runs d line (work_of t) run.work
  runs_line = subst (λ (l : ℕ). Runs d (line_by l) (work_of t) run.work) (sym label_same) run.runs

  abbrev P : Work → Type 0
  P u = u.world ≡ t.world

  through : RunsThrough d P line (work_of t) run.work
  through = still_through d P (work_of t) (λ u same. same) line (work_of t) run.work (all IsStill into_still) refl
      runs_line

  gives : Each (GivesNone b.given.given.code) line
  gives = all (GivesNone b.given.given.code) (into_gives b.given.given.code)

  -- ---- where it stands

  abbrev here : Point
  here = record { block = k; at = length (instrs_at x k) }

  places : EndsInPlace x k line (end_term x (last_state x k) (block_at (edged x) k).term)
  places = ends_there x is k q.block q.unreturned

  framed_is : function_of b.given.given t ≡ framed x
  framed_is = (λ i. function_at (given.code i) (r.top.func i)) ∙ (given.built.coroutines s.top.func q.coroutine).is

  at_place : point_of t.top ≡ place x here
  at_place =
      r.top.place ∙ top_is b s.top q.coroutine h.mode
      ∙ ap (λ (j : ℕ). place x (record { block = k; at = j })) q.at

  stand : StandAt (function_of b.given.given t) t.top.block t.top.at line
  stand =
      subst (λ (f : Function). StandAt f t.top.block t.top.at line) (sym framed_is)
      (subst (λ (p : Point). StandAt (framed x) p.block p.at line) (sym at_place) places.stand)

  leads : iterate (framed_step b.given) (length line) t ≡ lined t (length line) run.work
  leads = line_leads b.given t P line run.work running stand gives through

  abbrev last : State
  last = lined t (length line) run.work

  line_shown : (i : ℕ) → i < length line → IsOn b s (iterate (framed_step b.given) i t)
  line_shown i lt =
      let z = each_between b.given t P line run.work running stand gives through i lt in
      subst (IsOn b s) (sym z.1.0) (still_shown b s t r given.framings running i z.0 z.1.1)

  last_shown : IsOn b s last
  last_shown = still_shown b s t r given.framings running (length line) run.work run.along.world

  -- ---- what is returned

  abbrev now : Option Arg
  now = fetched_return U m (fetched_return T n arg)

  term_is : end_term x (last_state x k) (block_at (edged x) k).term ≡ Terminator.Ret now
  term_is = ap (λ (e : Terminator). end_term x (last_state x k) e) q.go.term

  loaded_seen : AreSeenAs T q.given d run.first run.loaded n (term_operands (Terminator.Ret arg))
  loaded_seen =
      subst (λ (e : Terminator). AreSeenAs T q.given d run.first run.loaded n (term_operands e)) q.go.term
      run.end_loaded

  reached_seen : AreSeenAs U q.reached d run.third run.work m
      (term_operands (fetched_term T n (Terminator.Ret arg)))
  reached_seen =
      subst (λ (e : Terminator). AreSeenAs U q.reached d run.third run.work m (term_operands e)) q.go.between
      run.end_reached

  value_stands : (p : Option Arg) → Each (IsBelow (length (named x).names)) (term_operands (Terminator.Ret p))
      → next_after_all T n (term_operands (Terminator.Ret p)) ≤ length (unmarked x).names
      → Each (IsTwiceFor r.homes T U q.given q.reached c d (work_of s) (work_of t)) (term_operands (Terminator.Ret p))
      → AreSeenAs T q.given d run.first run.loaded n (term_operands (Terminator.Ret p))
      → AreSeenAs U q.reached d run.third run.work m (term_operands (fetched_term T n (Terminator.Ret p)))
      → IsValue r.homes (given_value c.code s.top.values p)
      (given_value d.code run.work.values (fetched_return U m (fetched_return T n p)))
  value_stands None below fit seen one two = tt
  value_stands (Some p) below fit seen one two =
      subst (IsValue r.homes (arg_value c.code s.top.values p))
      (sym (one_at_end T U q.given q.reached d (length (named x).names) (length (unmarked x).names)
      (λ j le. let f : Far x is ≤ length (named x).names = far_named x is in
      (far_left x is j (omega (arith, f, le))).0) (work_of t) run.first run.loaded run.third run.work
      run.along_first run.along_third run.on_third n m q.go.low p.value p.ty below.0 fit one.0 two.0))
      (seen.0 p.ty)

  abbrev v : Option Value
  v = value_of c.code s.top.values arg

  abbrev y : Option Value
  y = value_of d.code run.work.values now

  back : GoesBack b s t v y
  back =
      goes_back b g given s t r running owns a more h.below v y
      (value_stands arg q.go.below q.go.fit q.go.seen loaded_seen reached_seen) h.goes

  -- ---- the step

  source : renewed_step g s ≡ back.ends.source
  source =
      renewed_does g s (AtTerm (Terminator.Ret arg)) (Return v) h.runs h.there refl (returns_value c (work_of s) arg)
      ∙ ap (or_undefined g.given s) back.source_is

  at_term : fetch (function_of b.given.given t) t.top.block (t.top.at + length line) ≡ AtTerm (Terminator.Ret now)
  at_term =
      ap (λ (f : Function). fetch f t.top.block (t.top.at + length line)) framed_is
      ∙ ap (λ (p : Point). fetch (framed x) p.block (p.at + length line)) at_place ∙ places.term ∙ ap AtTerm term_is

  next : framed_step b.given last ≡ back.ends.target
  next =
      framed_does b.given last (AtTerm (Terminator.Ret now)) (Return y) running at_term refl
      (returns_value d run.work now)
      ∙ ap (or_undefined b.given.given last)
      (back.target_is (t.top.at + length line) run.work.values run.work.world run.along.world)

  cost : step_cost b g s s.top.mode ≡ length line + 1 + back.ends.steps
  cost =
      cost_is b g s s.top.mode h.mode
      ∙ ap (λ (j : Bool). if j then coroutine_cost b g s (action_at g s) else other_cost b g s (action_at g s))
      q.coroutine
      ∙ ap (coroutine_cost b g s) (ap (action_of c (work_of s)) h.there ∙ returns_value c (work_of s) arg)
      ∙ (λ i. places.whole i - (place x (record { block = k; at = q.at i })).at + back.cost i)
      ∙ behind (place x here).at (length line) back.ends.steps
    where
      behind : (p l e : ℕ) → (p + l + 1) - p + e ≡ l + 1 + e
      behind p l e = omega arith

  pub ramp_return_followed : IsFollowed b g s t
  ramp_return_followed =
      onward_followed b g s t back.ends (length line) last leads line_shown last_shown next source cost
