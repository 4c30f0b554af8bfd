-- An instruction of a coroutine that is done is followed, where its line fills cells alone.
use Rattle.std.proofs.Common.{◌≡◌, inl, ℕ, ◌+◌, ◌-◌, ◌<◌, ◌≤◌, Bool, false, List, length, sym, ap, ◌∙◌, subst, arith}
use Rattle.std.specs.Prelude.{if◌then◌else◌}
use Rattle.pass_proofs.specs.ir_base.declared.outcome.Outcome.{Outcome}
use Rattle.pass_proofs.specs.ir_model.Names.{function_at}
use Rattle.pass_proofs.specs.ir_model.declared.instr.Instr.{Instr}
use Rattle.pass_proofs.specs.ir_model.declared.module.Function.{Function}
use Rattle.pass_proofs.specs.ir_paths.declared.point.Point.{Point}
use Rattle.pass_frames_code.proofs.lined.Lines.{each_between, line_leads}
use Rattle.pass_frames_code.proofs.stepping.Codes.{instr_there}
use Rattle.pass_frames_code.proofs.stepping.Landing.{landed, spared_shown}
use Rattle.pass_frames_code.proofs.stepping.Stands.{cost_is, renewed_does, top_is}
use Rattle.pass_frames_code.specs.Edges.{IsOnFront}
use Rattle.pass_frames_code.specs.Followed.{IsFollowed, IsOn}
use Rattle.pass_frames_code.specs.Landing.{LeavesCells}
use Rattle.pass_frames_code.specs.Led.{RunsThrough}
use Rattle.pass_frames_code.specs.Lined.{GivesNone, lined}
use Rattle.pass_frames_code.specs.Meaning.{action_at, coroutine_cost, other_cost, step_cost}
use Rattle.pass_frames_code.specs.Operands.{IsAtFetch}
use Rattle.pass_frames_code.specs.Places.{Framing, edged, framed, place}
use Rattle.pass_frames_code.specs.Related.{AreBuiltOf, Building, point_of}
use Rattle.pass_frames_code.specs.Stepping.{AreGiven, StandsInPlace}
use Rattle.pass_renewed_proof.specs.Renewed.{RenewedGiven, is_idle, renewed_step}
use Rattle.pass_proofs.specs.run_agreement.Machines.{iterate}
use Rattle.pass_proofs.specs.run_framed.Framed.{framed_context, framed_step}
use Rattle.pass_proofs.specs.run_laws.access.Lines.{StandAt}
use Rattle.pass_proofs.specs.run_laws.changed.Changed.{Each}
use Rattle.pass_proofs.specs.run_source.Source.{context_of}
use Rattle.pass_proofs.specs.run_source.State.{function_of, settled, work_of}
use Rattle.pass_proofs.specs.run_source.declared.state.State.{State}
use Rattle.pass_proofs.specs.run_step.Step.{AtInstr, Done, Work, action_of, fetch, instr_action}

-- ---- where a coroutine stands

module _ (b : Building) (g : RenewedGiven) (given : AreGiven b g) (s t : State) (r : AreBuiltOf b s t) (i : Instr)
    (h : IsAtFetch b s i) where
  abbrev x : Framing
  x = b.framing s.top.func

  abbrev here : Point
  here = record { block = s.top.block; at = s.top.at }

  pub at_place : point_of t.top ≡ place x here
  at_place = r.top.place ∙ top_is b s.top h.coroutine h.mode

  pub code_framed : function_of b.given.given t ≡ framed x
  code_framed =
      (λ k. function_at (given.code k) (r.top.func k)) ∙ (given.built.coroutines s.top.func h.coroutine).is

  pub stand_there : (line : List Instr) → StandAt (framed x) s.top.block (place x here).at line
      → StandAt (function_of b.given.given t) t.top.block t.top.at line
  stand_there line stand =
      subst (λ (f : Function). StandAt f t.top.block t.top.at line) (sym code_framed)
      (subst (λ (p : Point). StandAt (framed x) p.block p.at line) (sym at_place) stand)

  pub fetched_is : fetch (function_of g.given s) s.top.block s.top.at ≡ AtInstr i
  fetched_is =
      ap (λ (f : Function). fetch f s.top.block s.top.at) (given.coroutines s.top.func h.coroutine)
      ∙ instr_there (edged x) s.top.block s.top.at i h.there

-- ---- the step

module _ (b : Building) (g : RenewedGiven) (given : AreGiven b g) (s t : State) (r : AreBuiltOf b s t) (i : Instr)
    (h : IsAtFetch b s i) (runs : s.outcome ≡ Outcome.Running) (v : Work)
    (does : instr_action (context_of g.given s) (work_of s) i ≡ Done v)
    (never : is_idle (g.flags s.top.func) (AtInstr i) ≡ false) (line : List Instr)
    (gives : Each (GivesNone b.given.given.code) line)
    (stands : StandsInPlace (b.framing s.top.func) s.top.block s.top.at line) (some : 0 < length line) (work : Work)
    (through : RunsThrough (framed_context b.given t) (IsOnFront (b.framing s.top.func) t) line (work_of t) work)
    (leaves : LeavesCells b s t r v.world v.values work) where
  abbrev x2 : Framing
  x2 = b.framing s.top.func

  abbrev here2 : Point
  here2 = record { block = s.top.block; at = s.top.at }

  abbrev P : Work → Type 0
  P = IsOnFront x2 t

  running : t.outcome ≡ Outcome.Running
  running = r.outcome ∙ runs

  stand : StandAt (function_of b.given.given t) t.top.block t.top.at line
  stand = stand_there b g given s t r i h line stands.0

  leads : iterate (framed_step b.given) (length line) t ≡ lined t (length line) work
  leads = line_leads b.given t P line work running stand gives through

  source : renewed_step g s ≡ settled s v
  source = renewed_does g s (AtInstr i) (Done v) runs (fetched_is b g given s t r i h) never does

  next_place : ◌≡◌ {A = Point} (record { block = t.top.block; at = t.top.at + length line })
      (place x2 (record { block = s.top.block; at = s.top.at + 1 }))
  next_place =
      ap (λ (p : Point). record { block = p.block; at = p.at + length line }) (at_place b g given s t r i h)
      ∙ ap (λ (k : ℕ). record { block = s.top.block; at = k }) (sym stands.1)

  related : AreBuiltOf b (settled s v) (lined t (length line) work)
  related =
      landed b s t r given.framings h.coroutine h.mode h.unreturned v.world v.values work leaves s.top.block
      (s.top.at + 1) t.top.block (t.top.at + length line) h.unreturned (λ zero. (zero, further s.top.at))
      (next_place ∙ sym (top_is b (record s.top { at = s.top.at + 1; values = v.values }) h.coroutine h.mode))
    where
      further : (k : ℕ) → k ≤ k + 1
      further k = omega arith

  on_way : (k : ℕ) → k < length line → IsOn b s (iterate (framed_step b.given) k t)
  on_way k lt =
      let z = each_between b.given t P line work running stand gives through k lt in
      subst (IsOn b s) (sym z.1.0)
      (spared_shown b s t r given.framings h.coroutine running z.0.world (lined t k z.0).top z.1.1.events z.1.1.spares)

  cost : step_cost b g s s.top.mode ≡ length line
  cost =
      cost_is b g s s.top.mode h.mode
      ∙ ap (λ (k : Bool). if k then coroutine_cost b g s (action_at g s) else other_cost b g s (action_at g s))
      h.coroutine
      ∙ ap (coroutine_cost b g s)
      (ap (action_of (context_of g.given s) (work_of s)) (fetched_is b g given s t r i h) ∙ does)
      ∙ ap (λ (k : ℕ). k - (place x2 here2).at) stands.1
      ∙ behind (place x2 here2).at (length line)
    where
      behind : (a len : ℕ) → (a + len) - a ≡ len
      behind a len = omega arith

  pub doing_followed : IsFollowed b g s t
  doing_followed = record {
    steps = length line;
    few = subst (λ (k : ℕ). length line ≤ k) (sym cost) (same (length line));
    goes_on = inl some;
    passes = λ k pos lt. inl (on_way k lt);
    related = subst (λ (p : State × State). AreBuiltOf b p.0 p.1) (λ j. (sym source j, sym leads j)) related;
  }
    where
      same : (k : ℕ) → k ≤ k
      same k = omega arith
