-- What an instruction does in a module, and in the module whose edges have blocks.
use Rattle.std.proofs.Common.{◌≡◌, ℕ, List, [], ◌∷◌, length, refl, sym, ap, ◌∙◌}
use Rattle.std.specs.Prelude.{ℤ, Some, None, Option, map, option_map}
use Rattle.pass_early_proof.specs.ir_base.declared.name.Name.{Name}
use Rattle.pass_early_proof.specs.ir_base.declared.outcome.Event.{Event}
use Rattle.pass_early_proof.specs.run_source.Source.{context_of, given}
use Rattle.pass_early_proof.specs.run_source.State.{work_of}
use Rattle.pass_early_proof.specs.run_source.declared.state.State.{State}
use Rattle.ir_model.specs.Names.{declaration_named, function_at}
use Rattle.ir_model.specs.declared.module.Frame.{Frame}
use Rattle.ir_model.specs.declared.module.Function.{Function}
use Rattle.ir_model.specs.declared.module.Module.{Module}
use Rattle.ir_model.specs.declared.operand.Operand.{Operand}
use Rattle.pass_early_proof.specs.run_step.Step.{Action, Context, Coro, Deallocate, Done, Enter, Fetched, GoTo, NewSlot, Return, Stuck, Work, action_of, has_markers}
use Rattle.pass_early_proof.proofs.run_states.expanded.Environments.{grown, result_grown}
use Rattle.pass_early_proof.specs.ir_laws.facts.expanded.Tokens.{IsNamedResult}
use Rattle.pass_edges_proof.proofs.edges.states.Parts.{coroutine_stays, fits_moved, function_moved, markers_moved, named_moved}
use Rattle.pass_edges_proof.specs.edges.states.MovedState.{edge_count, edges_split, moved_action, moved_state, moved_work}
use Rattle.pass_edges_proof.proofs.edges.states.States.{operand_moved}
use Rattle.pass_early_proof.proofs.run_laws.changed.Kept.{action_kept}
use Rattle.pass_early_proof.specs.run_laws.changed.Changed.{Change, IsDeclaredAlike, IsKeptAt, IsLike, IsSameOperand, callee_at, changed_action, changed_event, changed_work, operands_at, result_at, Each as EachOperand}

abbrev growing : Function → Change
growing f = record { values = grown (edge_count f); declaration = λ d. d }

events_stay : (f : Function) (es : List Event) → map (changed_event (growing f)) es ≡ es
events_stay f [] = refl
events_stay f (e ∷ es) = ap (λ (xs : List Event). e ∷ xs) (events_stay f es)

work_grown : (f : Function) (w : Work) → changed_work (growing f) w ≡ moved_work f w
work_grown f w = ap (λ (es : List Event). record { world = record w.world { events = es }; values = grown (edge_count f) w.values }) (events_stay f w.world.events)

action_grown : (f : Function) (a : Action) → changed_action (growing f) a ≡ moved_action f a
action_grown f (Done w) = ap Done (work_grown f w)
action_grown f (NewSlot w slot) = ap (λ (x : Work). NewSlot x slot) (work_grown f w)
action_grown f (Enter func args result must_tail) = refl
action_grown f (Coro i args result) = refl
action_grown f (Deallocate p) = refl
action_grown f (GoTo label) = refl
action_grown f (Return v) = refl
action_grown f (Stuck cause) = refl

module _ (m : Module) (sizes : List Frame) (answers : List ℤ) (s : State) where
  abbrev f : Function
  f = function_at m s.top.func

  abbrev before : Context
  before = context_of (given m sizes answers) s

  abbrev behind : Context
  behind = context_of (given (edges_split m) sizes answers) (moved_state m s)

  like : IsLike before behind
  like = record {
    types = refl;
    answers = refl;
    rights = refl;
    coroutine = ap (λ (x : Function). x.coroutine) (function_moved m s.top.func) ∙ coroutine_stays f;
    markers = λ name. ap (λ (x : Function). has_markers x name) (function_moved m s.top.func) ∙ markers_moved f name;
    functions = named_moved m;
    fits = fits_moved m;
  }

  same_operands : (xs : List Operand) → EachOperand (IsSameOperand (growing f) before behind s.top.values) xs
  same_operands [] = tt
  same_operands (x ∷ xs) = (record { here = λ ty. operand_moved m (edge_count f) s.top.values ty x; nowhere = λ ty. operand_moved m 0 [] ty x }, same_operands xs)

  same_callee : (n : Option Name) → IsDeclaredAlike (growing f) before behind n
  same_callee None = tt
  same_callee (Some n) = on (declaration_named m n)
    where
      on : (o : Option ℕ) → o ≡ option_map (λ d. d) o
      on None = refl
      on (Some d) = refl

  kept_at : (here : Fetched) → IsNamedResult (length s.top.values) (result_at here) → IsKeptAt (growing f) before behind s.top.values here
  kept_at here h = record {
    operands = same_operands (operands_at here);
    result = λ v. sym (result_grown (edge_count f) s.top.values (result_at here) v h);
    callee = same_callee (callee_at here);
  }

-- what stands there does the same
pub action_moved : (m : Module) (sizes : List Frame) (answers : List ℤ) (s : State) (here : Fetched) → IsNamedResult (length s.top.values) (result_at here) → action_of (context_of (given (edges_split m) sizes answers) (moved_state m s)) (work_of (moved_state m s)) here ≡ moved_action (function_at m s.top.func) (action_of (context_of (given m sizes answers) s) (work_of s) here)
action_moved m sizes answers s here named =
    ap (λ (w : Work). action_of (behind m sizes answers s) w here) (sym (work_grown (function_at m s.top.func) (work_of s)))
    ∙ action_kept (growing (function_at m s.top.func)) (before m sizes answers s) (behind m sizes answers s) (work_of s) here (like m sizes answers s) (kept_at m sizes answers s here named)
    ∙ action_grown (function_at m s.top.func) (action_of (before m sizes answers s) (work_of s) here)
