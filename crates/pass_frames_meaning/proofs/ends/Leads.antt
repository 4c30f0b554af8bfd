-- No terminator of a coroutine leads to a block on a resume or destroy edge in a step.
use Rattle.std.proofs.Common.{◌≡◌, ℕ, ◌+◌, Bool, true, false, List, Some, refl, sym, ap, ◌∙◌, subst}
use Rattle.std.specs.Prelude.{slice_get}
use Rattle.pass_frames_proof.specs.flow_solver.Paths.{IsListed}
use Rattle.pass_frames_proof.specs.ir_model.Names.{function_at, position_of}
use Rattle.pass_frames_proof.specs.ir_model.declared.instr.Instr.{Instr}
use Rattle.pass_frames_proof.specs.ir_model.declared.instr.Terminator.{Terminator}
use Rattle.pass_frames_proof.specs.ir_model.declared.module.Function.{Function}
use Rattle.pass_frames_proof.specs.ir_model.declared.operand.Intrinsic.{Intrinsic}
use Rattle.pass_frames_proof.specs.ir_paths.Paths.{entry_point, targets}
use Rattle.pass_frames_proof.specs.ir_paths.Windows.{end_block}
use Rattle.pass_frames_proof.specs.ir_paths.declared.point.Point.{Point}
use Rattle.pass_frames_meaning.proofs.ends.Targets.{IsSuspending, IsTermAt, from_suspend, goes_listed, term_at}
use Rattle.pass_frames_meaning.proofs.others.Returns.{instr_in, returns_empty}
use Rattle.pass_frames_meaning.specs.Ends.{KeepsEnds}
use Rattle.pass_frames_meaning.specs.Setting.{KeepsAll, Setting}
use Rattle.pass_frames_proof.proofs.stepping.Codes.{instr_there}
use Rattle.pass_frames_proof.specs.Edges.{block_to}
use Rattle.pass_frames_proof.specs.Framings.{IsFraming}
use Rattle.pass_frames_proof.specs.Passes.{block_at}
use Rattle.pass_frames_proof.specs.Places.{Framing, edged, instrs_at, is_return}
use Rattle.pass_frames_proof.specs.Related.{is_coroutine}
use Rattle.pass_frames_proof.specs.pass_kept_proof.SuspendRules.{IsCallAt}
use Rattle.pass_renewed_meaning.specs.run_hooks.Away.{HasStop, IsBehind, IsPlacedState, point_in}
use Rattle.pass_renewed_meaning.specs.run_hooks.Meanings.{renewed_hooks}
use Rattle.pass_frames_proof.specs.run_source.Source.{context_of}
use Rattle.pass_frames_proof.specs.run_source.State.{function_of, work_of}
use Rattle.pass_frames_proof.specs.run_source.declared.state.State.{State}
use Rattle.pass_frames_proof.specs.run_step.Step.{AtInstr, AtTerm, GoTo, fetch, term_action}

-- coro.end stands first in the block of a label, and another place is that one
record IsEndThere (f : Function) (to label : ℕ) : Type 0 where
  call : IsCallAt Intrinsic.CoroEnd f (entry_point f label)
  there : fetch f to 0 ≡ AtInstr call.instr

module _ (c : Setting) (all : KeepsAll c) (keeps : KeepsEnds c) (s : State)
    (coroutine : is_coroutine c.b s.top.func ≡ true) (placed : IsPlacedState (renewed_hooks c.g) s) (e : Terminator)
    (there : fetch (function_of c.g.given s) s.top.block s.top.at ≡ AtTerm e) (label : ℕ)
    (does : term_action (context_of c.g.given s) (work_of s) e ≡ GoTo label) where
  abbrev x : Framing
  x = c.b.framing s.top.func

  abbrev f : Function
  f = function_at c.g.given.code s.top.func

  is : IsFraming x
  is = all.given.framings s.top.func coroutine

  same : f ≡ edged x
  same = all.given.coroutines s.top.func coroutine

  at_term : IsTermAt (edged x) s.top.block s.top.at e
  at_term = term_at (edged x) s.top.block s.top.at e
      (ap (λ (g : Function). fetch g s.top.block s.top.at) (sym same) ∙ there)

  leads : IsListed label (targets (block_at (edged x) s.top.block).term)
  leads = subst (λ (q : Terminator). IsListed label (targets q)) (sym at_term.term)
      (goes_listed (context_of c.g.given s) (work_of s) e label does)

  abbrev to : ℕ
  to = block_to x label

  -- behind a suspend the switch takes the stop edge alone, which leads to the end
  none_by : (b : Bool) → is_return x to ≡ b → b ≡ false
  none_by false q = refl
  none_by true q = absurd (no_instr z.call.instr
      (instr_in x f same to 0 z.call.instr z.there))
    where
      u : IsSuspending x s.top.block
      u = from_suspend x is s.top.block label at_term.here leads q

      suspend : Point
      suspend = record { block = s.top.block; at = u.at }

      call : IsCallAt Intrinsic.CoroSuspend f (record { block = s.top.block; at = u.at })
      call = record {
        instr = u.instr;
        stands = ap (λ (g : Function). fetch g s.top.block u.at) same
            ∙ instr_there (edged x) s.top.block u.at u.instr u.there;
        is = u.calls;
      }

      stop : HasStop c.g.given.code f (record { block = s.top.block; at = u.at })
      stop = (keeps.places.each s.top.func).stops (record { block = s.top.block; at = u.at }) call

      behind_at : IsTermAt (edged x) s.top.block (u.at + 1) (Terminator.Switch stop.arg stop.default stop.cases)
      behind_at = term_at (edged x) s.top.block (u.at + 1) (Terminator.Switch stop.arg stop.default stop.cases)
          (ap (λ (g : Function). fetch g s.top.block (u.at + 1)) (sym same) ∙ stop.stands)

      next : s.top.at ≡ u.at + 1
      next = at_term.at_end ∙ sym behind_at.at_end

      behind : IsBehind f (point_in s.top)
      behind = record {
        suspend = record { block = s.top.block; at = u.at };
        is_suspend = call;
        next = ap (λ (n : ℕ). record { block = s.top.block; at = n }) next;
      }

      switch_is : e ≡ Terminator.Switch stop.arg stop.default stop.cases
      switch_is = sym at_term.term ∙ behind_at.term

      ends_there : position_of f label ≡ end_block f
      ends_there = placed.top.stops behind stop.arg stop.default stop.cases label
          (there ∙ ap AtTerm switch_is)
          (ap (term_action (context_of c.g.given s) (work_of s)) (sym switch_is) ∙ does)

      z : IsEndThere f to stop.default
      z = record {
        call = stop.is_end;
        there = ap (λ (n : ℕ). fetch f n 0) (ap (λ (g : Function). position_of g label) (sym same) ∙ ends_there
            ∙ sym stop.end) ∙ stop.is_end.stands;
      }

      no_instr : (i : Instr) → slice_get (instrs_at x to) 0 ≡ Some i → ⊥
      no_instr i h =
          let none = returns_empty x is.position is.frameable.rules (all.returns s.top.func coroutine) to q in
          let no = sym (ap (λ (js : List Instr). slice_get js 0) none) ∙ h in
          cc

  pub leads_to_none : is_return (c.b.framing s.top.func) (block_to (c.b.framing s.top.func) label) ≡ false
  leads_to_none = none_by (is_return x to) refl
