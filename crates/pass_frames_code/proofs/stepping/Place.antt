-- Where the line of an ordinary instruction stands, what the step of the first run is, and what it costs.
use Rattle.std.proofs.Common.{◌≡◌, ℕ, ◌+◌, ◌-◌, Bool, List, length, sym, ap, ◌∙◌, subst, arith}
use Rattle.std.specs.Prelude.{if◌then◌else◌}
use Rattle.pass_proofs.specs.ir_base.declared.outcome.Outcome.{Outcome}
use Rattle.pass_proofs.specs.ir_model.Names.{function_at}
use Rattle.pass_proofs.specs.ir_model.declared.instr.Instr.{Instr}
use Rattle.pass_proofs.specs.ir_model.declared.module.Function.{Function}
use Rattle.pass_proofs.specs.ir_model.declared.module.Module.{Module}
use Rattle.pass_proofs.specs.ir_paths.declared.point.Point.{Point}
use Rattle.pass_frames_code.proofs.stepping.Codes.{instr_there}
use Rattle.pass_frames_code.proofs.stepping.Line.{line_gives, never_idle}
use Rattle.pass_frames_code.proofs.stepping.May.{is}
use Rattle.pass_frames_code.proofs.stepping.Stands.{cost_is, renewed_does, top_is}
use Rattle.pass_frames_code.specs.Framings.{IsFraming}
use Rattle.pass_frames_code.specs.Lined.{GivesNone}
use Rattle.pass_frames_code.specs.Meaning.{action_at, coroutine_cost, other_cost, step_cost}
use Rattle.pass_frames_code.specs.Places.{Framing, Placed, edged, framed, place}
use Rattle.pass_frames_code.specs.Related.{AreBuiltOf, Building, point_of}
use Rattle.pass_frames_code.specs.Stepping.{AreGiven, IsAtOrdinary, StandsInPlace, placed_line, state_in}
use Rattle.pass_renewed_proof.specs.Renewed.{RenewedGiven, renewed_step}
use Rattle.pass_proofs.specs.run_framed.Framed.{frame_rights}
use Rattle.pass_proofs.specs.run_laws.access.Lines.{StandAt}
use Rattle.pass_proofs.specs.run_laws.changed.Changed.{Each}
use Rattle.pass_proofs.specs.run_memory.Memory.{Rights}
use Rattle.pass_proofs.specs.run_source.Source.{context_of}
use Rattle.pass_proofs.specs.run_source.State.{function_of, settled, work_of}
use Rattle.pass_proofs.specs.run_source.declared.state.State.{State}
use Rattle.pass_proofs.specs.run_step.Step.{AtInstr, Context, Done, Work, action_of, fetch}

module _ (b : Building) (g : RenewedGiven) (given : AreGiven b g) (s t : State) (r : AreBuiltOf b s t) (i : Instr)
    (v : Work) (h : IsAtOrdinary b g s i v)
    (stands : StandsInPlace (b.framing s.top.func) s.top.block s.top.at
    (placed_line (b.framing s.top.func) (state_in (b.framing s.top.func) s.top.block s.top.at) i)) where
  abbrev x : Framing
  x = b.framing s.top.func

  abbrev n : Placed
  n = state_in x s.top.block s.top.at

  abbrev R : Rights
  R = frame_rights b.given t.instances

  abbrev c : Context
  c = context_of g.given s

  abbrev line : List Instr
  line = placed_line x n i

  framing : IsFraming x
  framing = is b g given s t r i v h

  abbrev here : Point
  here = record { block = s.top.block; at = s.top.at }

  abbrev next : Point
  next = record { block = s.top.block; at = s.top.at + 1 }

  pub at_place : point_of t.top ≡ place x here
  at_place = r.top.place ∙ top_is b s.top h.coroutine h.mode

  pub block_is : t.top.block ≡ s.top.block
  block_is = ap (λ (p : Point). p.block) at_place

  pub at_is : t.top.at ≡ (place x here).at
  at_is = ap (λ (p : Point). p.at) at_place

  code_framed : function_of b.given.given t ≡ framed x
  code_framed =
      (λ k. function_at (given.code k) (r.top.func k)) ∙ (given.built.coroutines s.top.func h.coroutine).is

  pub stand_there : StandAt (function_of b.given.given t) t.top.block t.top.at line
  stand_there =
      subst (λ (f : Function). StandAt f t.top.block t.top.at line) (sym code_framed)
      (subst (λ (k : ℕ). StandAt (framed x) k t.top.at line) (sym block_is)
      (subst (λ (k : ℕ). StandAt (framed x) s.top.block k line) (sym at_is) stands.0))

  pub gives : Each (GivesNone b.given.given.code) line
  gives = subst (λ (k : Module). Each (GivesNone k) line) (sym given.code)
      (line_gives x n i h.common b.framed_code h.gives)

  pub runs : t.outcome ≡ Outcome.Running
  runs = r.outcome ∙ h.runs

  -- ---- the source's step

  pub fetched_is : fetch (function_of g.given s) s.top.block s.top.at ≡ AtInstr i
  fetched_is =
      ap (λ (f : Function). fetch f s.top.block s.top.at) (given.coroutines s.top.func h.coroutine)
      ∙ instr_there (edged x) s.top.block s.top.at i h.there

  pub steps_is : renewed_step g s ≡ settled s v
  steps_is =
      renewed_does g s (AtInstr i) (Done v) h.runs fetched_is (never_idle (g.flags s.top.func) i h.common) h.does

  -- ---- the account

  pub cost : step_cost b g s s.top.mode ≡ length line
  cost =
      cost_is b g s s.top.mode h.mode
      ∙ ap (λ (k : Bool). if k then coroutine_cost b g s (action_at g s) else other_cost b g s (action_at g s))
      h.coroutine
      ∙ ap (coroutine_cost b g s) (ap (action_of c (work_of s)) fetched_is ∙ h.does)
      ∙ ap (λ (k : ℕ). k - (place x here).at) stands.1
      ∙ behind (place x here).at (length line)
    where
      behind : (a len : ℕ) → (a + len) - a ≡ len
      behind a len = omega arith
