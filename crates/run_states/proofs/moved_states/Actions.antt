-- What an instruction does in a framed module, and where functions have blocks on some of their edges.
use Rattle.std.proofs.Common.{◌≡◌, ℕ, List, [], ◌∷◌, length, refl, sym, ap, ◌∙◌}
use Rattle.std.specs.Prelude.{ℤ, Some, None, Option, map, option_map}
use Rattle.ir_laws.specs.ir_base.declared.name.Name.{Name}
use Rattle.ir_laws.specs.ir_base.declared.outcome.Event.{Event}
use Rattle.ir_laws.specs.run_source.State.{work_of}
use Rattle.ir_laws.specs.run_source.declared.state.State.{State}
use Rattle.run_states.proofs.expanded.Environments.{grown, result_grown}
use Rattle.ir_laws.specs.facts.expanded.Tokens.{IsNamedResult}
use Rattle.frame_layout.specs.declared.layout.Layout.{Layout}
use Rattle.run_framed.specs.Framed.{FramedGiven, framed_context, framed_given}
use Rattle.ir_laws.specs.ir_model.Names.{declaration_named, function_at}
use Rattle.ir_laws.specs.ir_model.declared.module.Function.{Function}
use Rattle.ir_laws.specs.ir_model.declared.module.Module.{Module}
use Rattle.ir_laws.specs.ir_model.declared.operand.Operand.{Operand}
use Rattle.ir_laws.specs.run_step.Step.{Action, Context, Coro, Deallocate, Done, Enter, Fetched, GoTo, NewSlot, Return, Stuck, Work, action_of, has_markers}
use Rattle.run_states.proofs.moved_states.Parts.{fits_moved, function_moved, named_moved, operand_moved}
use Rattle.run_states.proofs.moved_states.States.{rights_moved}
use Rattle.run_states.specs.moved_states.MovedState.{moved_action, moved_module, moved_state, moved_work}
use Rattle.run_states.specs.moved_states.Moving.{KeepsKinds, Moves, Moving}
use Rattle.ir_laws.proofs.run_laws.changed.Kept.{action_kept}
use Rattle.ir_laws.specs.run_laws.changed.Changed.{Change, IsDeclaredAlike, IsKeptAt, IsLike, IsSameOperand, callee_at, changed_action, changed_event, changed_work, operands_at, result_at, Each as EachOperand}

module _ (mv : Moving) (f : Function) where
  abbrev growing : Change
  growing = record { values = grown (mv.more f); declaration = λ d. d }

  events_stay : (es : List Event) → map (changed_event growing) es ≡ es
  events_stay [] = refl
  events_stay (e ∷ es) = ap (λ (xs : List Event). e ∷ xs) (events_stay es)

  work_grown : (w : Work) → changed_work growing w ≡ moved_work mv f w
  work_grown w = ap (λ (es : List Event). record { world = record w.world { events = es }; values = grown (mv.more f) w.values }) (events_stay w.world.events)

  action_grown : (a : Action) → changed_action growing a ≡ moved_action mv f a
  action_grown (Done w) = ap Done (work_grown w)
  action_grown (NewSlot w slot) = ap (λ (x : Work). NewSlot x slot) (work_grown w)
  action_grown (Enter func args result must_tail) = refl
  action_grown (Coro i args result) = refl
  action_grown (Deallocate p) = refl
  action_grown (GoTo label) = refl
  action_grown (Return v) = refl
  action_grown (Stuck cause) = refl

module _ (mv : Moving) (kinds : KeepsKinds mv) (m : Module) (layouts : List Layout) (answers : List ℤ) (s : State) (moves : Moves mv (function_at m s.top.func)) where
  abbrev f : Function
  f = function_at m s.top.func

  abbrev g : FramedGiven
  g = framed_given m layouts answers

  abbrev k : FramedGiven
  k = framed_given (moved_module mv m) layouts answers

  abbrev before : Context
  before = framed_context g s

  abbrev behind : Context
  behind = framed_context k (moved_state mv m s)

  like : IsLike before behind
  like = record {
    types = refl;
    answers = refl;
    rights = rights_moved mv m g k refl s.instances;
    coroutine = ap (λ (x : Function). x.coroutine) (function_moved mv kinds m s.top.func) ∙ kinds.coroutine f;
    markers = λ name. ap (λ (x : Function). has_markers x name) (function_moved mv kinds m s.top.func) ∙ moves.markers name;
    functions = named_moved mv kinds m;
    fits = fits_moved mv kinds m;
  }

  same_operands : (xs : List Operand) → EachOperand (IsSameOperand (growing mv f) before behind s.top.values) xs
  same_operands [] = tt
  same_operands (x ∷ xs) = (record { here = λ ty. operand_moved mv kinds m (mv.more f) s.top.values ty x; nowhere = λ ty. operand_moved mv kinds m 0 [] ty x }, same_operands xs)

  same_callee : (n : Option Name) → IsDeclaredAlike (growing mv f) before behind n
  same_callee None = tt
  same_callee (Some n) = on (declaration_named m n)
    where
      on : (o : Option ℕ) → o ≡ option_map (λ d. d) o
      on None = refl
      on (Some d) = refl

  kept_at : (here : Fetched) → IsNamedResult (length s.top.values) (result_at here) → IsKeptAt (growing mv f) before behind s.top.values here
  kept_at here h = record {
    operands = same_operands (operands_at here);
    result = λ v. sym (result_grown (mv.more f) s.top.values (result_at here) v h);
    callee = same_callee (callee_at here);
  }

  -- what stands there does the same
  pub action_moved : (here : Fetched) → IsNamedResult (length s.top.values) (result_at here) → action_of (framed_context (framed_given (moved_module mv m) layouts answers) (moved_state mv m s)) (work_of (moved_state mv m s)) here ≡ moved_action mv (function_at m s.top.func) (action_of (framed_context (framed_given m layouts answers) s) (work_of s) here)
  action_moved here named =
      ap (λ (w : Work). action_of behind w here) (sym (work_grown mv f (work_of s)))
      ∙ action_kept (growing mv f) before behind (work_of s) here like (kept_at here named)
      ∙ action_grown mv f (action_of before (work_of s) here)
