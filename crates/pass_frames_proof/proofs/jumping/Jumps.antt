-- A jump of a coroutine is followed.
use Rattle.std.proofs.Common.{◌≡◌, ℕ, ◌+◌, ◌-◌, ◌<◌, Bool, List, length, refl, sym, ap, ◌∙◌, subst, arith}
use Rattle.std.specs.Prelude.{Ok, slice_get, if◌then◌else◌}
use Rattle.pass_frames_steps.specs.ir_base.declared.outcome.Outcome.{Outcome}
use Rattle.pass_frames_steps.specs.ir_model.Names.{function_at, position_of}
use Rattle.pass_frames_steps.specs.ir_model.declared.instr.Instr.{Instr}
use Rattle.pass_frames_steps.specs.ir_model.declared.instr.Terminator.{Terminator}
use Rattle.pass_frames_steps.specs.ir_model.declared.module.Function.{Function}
use Rattle.pass_frames_steps.specs.ir_paths.declared.point.Point.{Point}
use Rattle.pass_frames_proof.proofs.jumping.Landed.{a', c', landed}
use Rattle.pass_frames_steps.proofs.lined.Lines.{each_between, framed_does, line_leads}
use Rattle.pass_frames_steps.proofs.stepping.Shown.{still_shown}
use Rattle.pass_frames_steps.proofs.stepping.Stands.{cost_is, renewed_does, top_is}
use Rattle.pass_frames_steps.specs.Costs.{jump_cost}
use Rattle.pass_frames_steps.specs.Edges.{AreEndsLed, AreFrontsLed, EndsInPlace, FrontsInPlace, IsAtJump, IsOnFront, block_to, entered_work}
use Rattle.pass_frames_steps.specs.Followed.{IsFollowed, IsOn}
use Rattle.pass_frames_steps.specs.Lined.{lined}
use Rattle.pass_frames_steps.specs.Meaning.{action_at, coroutine_cost, other_cost, step_cost}
use Rattle.pass_frames_steps.specs.Places.{Framing, edged, framed, instrs_at, place}
use Rattle.pass_frames_steps.specs.Related.{AreBuiltOf, Building, point_of}
use Rattle.pass_frames_steps.specs.Stepping.{AreGiven}
use Rattle.pass_frames_steps.specs.pass_renewed_proof.Renewed.{RenewedGiven, renewed_step}
use Rattle.pass_frames_steps.specs.run_agreement.Machines.{iterate}
use Rattle.pass_frames_steps.specs.run_framed.Framed.{framed_context, framed_step}
use Rattle.pass_frames_steps.specs.run_laws.access.Lines.{StandAt}
use Rattle.pass_frames_steps.specs.run_source.Source.{context_of, enter_block, go_to}
use Rattle.pass_frames_steps.specs.run_source.State.{function_of, or_undefined, work_of}
use Rattle.pass_frames_steps.specs.run_source.declared.state.State.{State}
use Rattle.pass_frames_steps.specs.run_step.Step.{AtTerm, Context, GoTo, Work, action_of, fetch, label_of, values_in}
use Rattle.pass_frames_proof.proofs.leaving.Branches.{Branches, branches, changed_by}
use Rattle.pass_frames_proof.proofs.leaving.Left.{left_by}
use Rattle.pass_frames_steps.proofs.stepping.Landing.{spared_shown}
use Rattle.pass_frames_steps.proofs.stepping.Onward.{EndsUp, onward_followed}
use Rattle.pass_frames_steps.specs.Leaving.{IsBranch, further}
use Rattle.pass_frames_steps.specs.Led.{RunsThrough}
use Rattle.pass_frames_steps.specs.run_memory.Memory.{Rights}

module _ (b : Building) (g : RenewedGiven) (given : AreGiven b g) (s t : State) (r : AreBuiltOf b s t)
    (e other : Terminator) (label : ℕ) (line front : List Instr) (h : IsAtJump b g s e label)
    (places : EndsInPlace (b.framing s.top.func) s.top.block line other)
    (fronts : FrontsInPlace (b.framing s.top.func) (block_to (b.framing s.top.func) label) front)
    (ends : AreEndsLed b g s t r label line other) (led : AreFrontsLed b g s t r label ends.work front)
    (branch : IsBranch b g s (further t (length line)) label) where
  abbrev x : Framing
  x = b.framing s.top.func

  abbrev k : ℕ
  k = block_to x label

  abbrev here : Point
  here = record { block = s.top.block; at = length (instrs_at x s.top.block) }

  abbrev d : Context
  d = framed_context b.given t

  abbrev w : Work
  w = ends.work

  abbrev y : Work
  y = entered_work b t x s.top.block label w

  abbrev z : Work
  z = led.work

  -- what becomes of instances, and whether the activation has left
  both : Branches b g s t (further t (length line)) label
  both = branches b g s t (further t (length line)) r given.framings label (refl, refl, refl) refl branch

  -- the first run behind its step
  abbrev s'' : State
  s'' = record s {
    instances = both.xs;
    top = left_by both.left (a' b g given s t r e other label line front h fronts ends led);
  }

  -- ---- the first run

  edged_is : function_of g.given s ≡ edged x
  edged_is = given.coroutines s.top.func h.coroutine

  source_is : renewed_step g s ≡ s''
  source_is =
      renewed_does g s (AtTerm e) (GoTo label) h.runs h.there refl h.does
      ∙ ap (or_undefined g.given s) both.source
      ∙ ap (λ (f : Function). record s {
        instances = both.xs;
        top = record s.top {
          block = position_of f label;
          at = 0;
          values = values_in g.given.code (slice_get f.blocks (position_of f label))
              (label_of (slice_get f.blocks s.top.block)) s.top.values;
          has_left = both.left;
        };
      }) edged_is

  -- ---- where the framed run stands

  framed_is : function_of b.given.given t ≡ framed x
  framed_is = (λ i. function_at (given.code i) (r.top.func i)) ∙ (given.built.coroutines s.top.func h.coroutine).is

  at_place : point_of t.top ≡ place x here
  at_place =
      r.top.place ∙ top_is b s.top h.coroutine h.mode
      ∙ ap (λ (n : ℕ). place x (record { block = s.top.block; at = n })) h.at

  running : t.outcome ≡ Outcome.Running
  running = r.outcome ∙ h.runs

  stand : StandAt (function_of b.given.given t) t.top.block t.top.at line
  stand =
      subst (λ (f : Function). StandAt f t.top.block t.top.at line) (sym framed_is)
      (subst (λ (p : Point). StandAt (framed x) p.block p.at line) (sym at_place) places.stand)

  leads : iterate (framed_step b.given) (length line) t ≡ lined t (length line) w
  leads =
      line_leads b.given t (λ (u : Work). u.world ≡ t.world) line w running stand ends.gives ends.runs

  abbrev t1 : State
  t1 = lined t (length line) w

  at_term : fetch (function_of b.given.given t) t.top.block (t.top.at + length line) ≡ AtTerm other
  at_term =
      ap (λ (f : Function). fetch f t.top.block (t.top.at + length line)) framed_is
      ∙ ap (λ (p : Point). fetch (framed x) p.block (p.at + length line)) at_place ∙ places.term

  abbrev t2 : State
  t2 = record t {
    world = w.world;
    instances = both.ys;
    top = record t.top { block = k; at = 0; values = y.values; has_left = both.left };
  }

  -- it does the same where it has other values
  target_goes : go_to b.given.given t1 label ≡ Ok (enter_block b.given.given (changed_by t1 both.ys both.left) label)
  target_goes = both.at_values w.world w.values

  entered : framed_step b.given t1 ≡ t2
  entered =
      framed_does b.given t1 (AtTerm other) (GoTo label) running at_term refl ends.goes
      ∙ ap (or_undefined b.given.given t1) target_goes
      ∙ ap (λ (f : Function). record t2 {
        top = record t2.top {
          block = position_of f label;
          values = values_in b.given.given.code (slice_get f.blocks (position_of f label))
              (label_of (slice_get f.blocks t.top.block)) w.values;
        };
      }) framed_is
      ∙ ap (λ (n : ℕ). record t2 {
        top = record t2.top {
          block = n;
          values = values_in b.given.given.code (slice_get (framed x).blocks n)
              (label_of (slice_get (framed x).blocks t.top.block)) w.values;
        };
      }) ends.block
      ∙ ap (λ (p : Point). record t2 {
        top = record t2.top {
          values = values_in b.given.given.code (slice_get (framed x).blocks k)
              (label_of (slice_get (framed x).blocks p.block)) w.values;
        };
      }) at_place

  front_stand : StandAt (function_of b.given.given t2) k 0 front
  front_stand = subst (λ (f : Function). StandAt f k 0 front) (sym framed_is) fronts.stand

  abbrev OnFront : Work → Type 0
  OnFront = IsOnFront x t

  front_runs : RunsThrough (framed_context b.given t2) OnFront front y z
  front_runs =
      subst (λ (q : Rights). RunsThrough (record (framed_context b.given t) { rights = q }) OnFront front y z)
      (sym both.frames) led.runs

  front_leads : iterate (framed_step b.given) (length front) t2 ≡ lined t2 (length front) z
  front_leads = line_leads b.given t2 OnFront front z running front_stand led.gives front_runs

  related : AreBuiltOf b s'' (iterate (framed_step b.given) (length front) t2)
  related =
      subst (AreBuiltOf b s'')
      (sym (front_leads
      ∙ ap (λ (n : ℕ). record t2 { world = z.world; top = record t2.top { at = n; values = z.values } })
      (from_none (length front))))
      (both.turned s.world z.world (a' b g given s t r e other label line front h fronts ends led)
      (c' b g given s t r e other label line front h fronts ends led)
      (landed b g given s t r e other label line front h fronts ends led))
    where
      from_none : (n : ℕ) → 0 + n ≡ n
      from_none n = omega arith

  -- ---- what is shown on the way

  -- where the instance runs again
  related_behind : AreBuiltOf b (changed_by s both.xs both.left) (changed_by t both.ys both.left)
  related_behind = both.turned s.world t.world s.top t.top r

  shown_front : (j : ℕ) → j < length front → IsOn b s'' (iterate (framed_step b.given) j t2)
  shown_front j lt =
      let q = each_between b.given t2 OnFront front z running front_stand led.gives front_runs j lt in
      subst (IsOn b s'') (sym q.1.0)
      (on_again (spared_shown b (changed_by s both.xs both.left) (changed_by t both.ys both.left) related_behind
      given.framings h.coroutine running q.0.world (lined t2 j q.0).top q.1.1.events
      (record { same = q.1.1.spares.same })))
    where
      on_again : {u : State} → IsOn b (changed_by s both.xs both.left) u → IsOn b s'' u
      on_again k = record {
        running = k.running;
        shown = record {
          homes = k.shown.homes;
          events = k.shown.events;
          outcome = k.shown.outcome;
          instances = k.shown.instances;
        };
      }

  shown_line : (i : ℕ) → i < length line → IsOn b s (iterate (framed_step b.given) i t)
  shown_line i lt =
      let q = each_between b.given t (λ
      (u : Work). u.world ≡ t.world) line w running stand ends.gives ends.runs i lt in
      subst (IsOn b s) (sym q.1.0) (still_shown b s t r given.framings running i q.0 q.1.1)

  shown_end : IsOn b s t1
  shown_end = still_shown b s t r given.framings running (length line) w ends.world

  -- ---- the account

  cost : step_cost b g s s.top.mode ≡ length line + 1 + length front
  cost =
      cost_is b g s s.top.mode h.mode
      ∙ ap (λ (q : Bool). if q then coroutine_cost b g s (action_at g s) else other_cost b g s (action_at g s))
      h.coroutine
      ∙ ap (coroutine_cost b g s) (ap (action_of (context_of g.given s) (work_of s)) h.there ∙ h.does)
      ∙ ap (λ (f : Function). jump_cost x s.top.block (position_of f label)) edged_is
      ∙ (λ i. (places.whole i) - (place x here).at + (fronts.place i))
      ∙ behind (place x here).at (length line) (length front)
    where
      behind : (p m n : ℕ) → (p + m + 1) - p + n ≡ m + 1 + n
      behind p m n = omega arith

  ends_up : EndsUp b
  ends_up = record {
    source = s'';
    target = t2;
    steps = length front;
    shown = shown_front;
    related = related;
  }

  pub jump_followed : IsFollowed b g s t
  unfolding ends_up
  jump_followed =
      onward_followed b g s t ends_up (length line) t1 leads shown_line shown_end entered source_is cost
