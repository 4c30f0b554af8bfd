-- An activation of a coroutine on top of related states: its values, cells and place.
use Rattle.std.proofs.Common.{◌≡◌, ◌+◌, ◌-◌, ◌∙◌, if◌then◌else◌, Bool, List, Option, Some, ap, arith, length, subst}
use Rattle.std.proofs.Common.{sym, true, ℕ}
use Rattle.std.specs.List.{Contains}
use Rattle.std.specs.Prelude.{slice_get}
use Rattle.pass_frames_code.specs.ir_model.Names.{function_at}
use Rattle.pass_frames_code.specs.ir_model.declared.instr.Instr.{Instr}
use Rattle.pass_frames_code.specs.ir_model.declared.module.Function.{Function}
use Rattle.pass_frames_code.specs.ir_paths.declared.point.Point.{Point}
use Rattle.pass_frames_code.proofs.stepping.Codes.{instr_there}
use Rattle.pass_frames_code.proofs.stepping.Fetch.{coroutine_values, not_returned}
use Rattle.pass_frames_code.proofs.stepping.Stands.{cost_is, top_is}
use Rattle.pass_frames_code.specs.Framings.{IsFraming}
use Rattle.pass_frames_code.specs.Fronted.{IsGoing}
use Rattle.pass_frames_code.specs.Meaning.{action_at, coroutine_cost, other_cost, step_cost}
use Rattle.pass_frames_code.specs.Places.{Framing, edged, framed, instrs_at, place}
use Rattle.pass_frames_code.specs.Related.{AreBuiltOf, AreCellsRight, AreCoroutines, AreWheresRight, Building}
use Rattle.pass_frames_code.specs.Related.{HasCells, IsCellName, IsFreeOf, instance_in, is_coroutine, point_of}
use Rattle.pass_frames_code.specs.Stepping.{AreGiven, StandsInPlace}
use Rattle.pass_frames_code.specs.pass_renewed_proof.Renewed.{RenewedGiven}
use Rattle.pass_frames_code.specs.run_framed.Framed.{frame_rights}
use Rattle.pass_frames_code.specs.run_laws.access.Lines.{StandAt}
use Rattle.pass_frames_code.specs.run_memory.Memory.{Rights}
use Rattle.pass_frames_code.specs.run_source.Source.{context_of}
use Rattle.pass_frames_code.specs.run_source.State.{function_of, work_of}
use Rattle.pass_frames_code.specs.run_source.declared.state.State.{State}
use Rattle.pass_frames_code.specs.run_step.Step.{AtInstr, Done, Work, action_of, fetch, instr_action}
use Rattle.pass_frames_code.specs.run_step.declared.world.Slot.{Slot}

module _ (b : Building) (s t : State) (r : AreBuiltOf b s t)
    (framings : (func : ℕ) → is_coroutine b func ≡ true → IsFraming (b.framing func)) (h : IsGoing b s.top) where
  abbrev pub x : Framing
  x = b.framing s.top.func

  abbrev pub R : Rights
  R = frame_rights b.given t.instances

  pub is : IsFraming x
  is = framings s.top.func h.coroutine

  pub values : AreCoroutines x r.homes R t s.top t.top
  values = coroutine_values b r.homes R t s.top t.top (is_coroutine b s.top.func) h.coroutine r.top.values

  pub cells : AreCellsRight x r.homes R t.world.memory s.top.values t.top
      × AreWheresRight x R t.world.memory (instance_in t.instances t.top.instance) t.top
  cells =
      subst (λ (o : Option ℕ). HasCells x r.homes R t.world.memory
      (instance_in t.instances t.top.instance) s.top t.top o)
      (not_returned x s.top s.top.mode h.mode h.unreturned) values.cells

  pub free : (slot : Slot) → Contains t.top.slots slot → IsCellName x slot.alloca
      → IsFreeOf r.homes r.hides s.world.memory slot.block
  free slot listed name =
      r.cells.0 (subst (λ (k : ℕ). is_coroutine b k ≡ true) (sym r.top.func) h.coroutine) slot listed
      (subst (λ (k : ℕ). IsCellName (b.framing k) slot.alloca) (sym r.top.func) name)

  -- ---- its place

  abbrev here : Point
  here = record { block = s.top.block; at = s.top.at }

  pub at_place : point_of t.top ≡ place x here
  at_place = r.top.place ∙ top_is b s.top h.coroutine h.mode

  pub block_is : t.top.block ≡ s.top.block
  block_is = ap (λ (p : Point). p.block) at_place

  pub at_is : t.top.at ≡ (place x here).at
  at_is = ap (λ (p : Point). p.at) at_place

-- ---- by both runs

module _ (b : Building) (g : RenewedGiven) (given : AreGiven b g) (s t : State) (r : AreBuiltOf b s t)
    (h : IsGoing b s.top) where
  abbrev y : Framing
  y = b.framing s.top.func

  abbrev point : Point
  point = record { block = s.top.block; at = s.top.at }

  pub stand_going : (line : List Instr) → StandAt (framed y) s.top.block (place y point).at line
      → StandAt (function_of b.given.given t) t.top.block t.top.at line
  stand_going line stand =
      subst (λ (f : Function). StandAt f t.top.block t.top.at line) (sym code_framed)
      (subst (λ (q : ℕ). StandAt (framed y) q t.top.at line) (sym (block_is b s t r given.framings h))
      (subst (λ (q : ℕ). StandAt (framed y) s.top.block q line) (sym (at_is b s t r given.framings h)) stand))
    where
      code_framed : function_of b.given.given t ≡ framed y
      code_framed =
          (λ q. function_at (given.code q) (r.top.func q)) ∙ (given.built.coroutines s.top.func h.coroutine).is

  module _ (i : Instr) (there : slice_get (instrs_at (b.framing s.top.func) s.top.block) s.top.at ≡ Some i) where
    pub fetched_going : fetch (function_of g.given s) s.top.block s.top.at ≡ AtInstr i
    fetched_going =
        ap (λ (f : Function). fetch f s.top.block s.top.at) (given.coroutines s.top.func h.coroutine)
        ∙ instr_there (edged y) s.top.block s.top.at i there

    -- what is done costs what stands there
    pub cost_going : (v : Work) (line : List Instr) → instr_action (context_of g.given s) (work_of s) i ≡ Done v
        → StandsInPlace (b.framing s.top.func) s.top.block s.top.at line
        → step_cost b g s s.top.mode ≡ length line
    cost_going v line does stands =
        cost_is b g s s.top.mode h.mode
        ∙ ap (λ (q : Bool). if q then coroutine_cost b g s (action_at g s) else other_cost b g s (action_at g s))
        h.coroutine
        ∙ ap (coroutine_cost b g s) (ap (action_of (context_of g.given s) (work_of s)) fetched_going ∙ does)
        ∙ ap (λ (q : ℕ). q - (place y point).at) stands.1
        ∙ behind (place y point).at (length line)
      where
        behind : (a len : ℕ) → (a + len) - a ≡ len
        behind a len = omega arith
