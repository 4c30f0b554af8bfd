-- What an instruction does in a module, and in the module whose saves are written out.
use Rattle.std.proofs.Common.{◌≡◌, ℕ, ◌+◌, Bool, true, false, List, [], ◌∷◌, length, refl, sym, ap, ◌∙◌, subst, add-zero, arith}
use Rattle.std.specs.Prelude.{ℤ, Some, None, Option, map, option_map, slice_get, ◌==◌, if◌then◌else◌}
use Rattle.rule_laws.specs.ir_base.declared.name.Name.{Name}
use Rattle.rule_laws.specs.ir_base.declared.outcome.Event.{Event}
use Rattle.rule_laws.specs.run_source.Source.{context_of, given}
use Rattle.rule_laws.specs.run_source.State.{function_of, work_of}
use Rattle.rule_laws.specs.run_source.declared.state.State.{State}
use Rattle.ir_model.specs.Names.{declaration_named, function_at}
use Rattle.ir_model.specs.declared.instr.Instr.{Instr}
use Rattle.ir_model.specs.declared.module.Block.{Block}
use Rattle.ir_model.specs.declared.module.Frame.{Frame}
use Rattle.ir_model.specs.declared.module.Function.{Function}
use Rattle.ir_model.specs.declared.module.Module.{Module}
use Rattle.ir_model.specs.declared.operand.Operand.{Operand}
use Rattle.rule_laws.specs.ir_paths.declared.point.Point.{Point}
use Rattle.rule_laws.specs.run_step.Step.{Action, Context, Coro, Deallocate, Done, Enter, Fetched, GoTo, NewSlot, Return, Stuck, Work, action_of, fetch, fetch_in, fetch_or, has_markers}
use Rattle.run_states.proofs.expanded.Environments.{grown, result_grown}
use Rattle.pass_early.specs.Early.{saved}
use Rattle.pass_early_proof.proofs.early.saves.Blocks.{get_block}
use Rattle.pass_early_proof.proofs.early.saves.Instrs.{instr_then, name_at}
use Rattle.pass_early_proof.proofs.early.saves.Parts.{fetch_back, fits_saved, function_saved, markers_saved, named_saved}
use Rattle.pass_early_proof.specs.early.saves.SavesWritten.{is_bare, save_count, saved_block, saved_function, saves_written}
use Rattle.pass_early_proof.specs.early.saves.Spots.{back_of, front_of, number_of_block, own_saves}
use Rattle.rule_laws.specs.ir_laws.facts.expanded.Spots.{instrs_in}
use Rattle.rule_laws.specs.ir_laws.facts.expanded.Tokens.{IsNamedResult}
use Rattle.pass_early_proof.proofs.early.save_states.States.{operand_saved}
use Rattle.pass_early_proof.specs.early.save_states.SavedState.{HasRoom, StandsAlone, saved_action, saved_state, saved_work}
use Rattle.run_states.proofs.sound_states.Fits.{result_named}
use Rattle.rule_laws.specs.ir_laws.facts.sound_states.Named.{HasNamedResults}
use Rattle.rule_laws.proofs.run_laws.changed.Kept.{action_kept}
use Rattle.rule_laws.specs.run_laws.changed.Changed.{Change, IsDeclaredAlike, IsKeptAt, IsLike, IsSameOperand, callee_at, changed_action, changed_event, changed_work, operands_at, result_at, Each as EachOperand}

abbrev growing : Function → Change
growing f = record { values = grown (save_count f); declaration = λ d. d }

events_stay : (f : Function) (es : List Event) → map (changed_event (growing f)) es ≡ es
events_stay f [] = refl
events_stay f (e ∷ es) = ap (λ (xs : List Event). e ∷ xs) (events_stay f es)

work_grown : (f : Function) (w : Work) → changed_work (growing f) w ≡ saved_work f w
work_grown f w = ap (λ (es : List Event). record { world = record w.world { events = es }; values = grown (save_count f) w.values }) (events_stay f w.world.events)

action_grown : (f : Function) (a : Action) → changed_action (growing f) a ≡ saved_action f a
action_grown f (Done w) = ap Done (work_grown f w)
action_grown f (NewSlot w slot) = ap (λ (x : Work). NewSlot x slot) (work_grown f w)
action_grown f (Enter func args result must_tail) = refl
action_grown f (Coro i args result) = refl
action_grown f (Deallocate p) = refl
action_grown f (GoTo label) = refl
action_grown f (Return v) = refl
action_grown f (Stuck cause) = refl

module _ (m : Module) (sizes : List Frame) (answers : List ℤ) (s : State) where
  abbrev f : Function
  f = function_at m s.top.func

  abbrev before : Context
  before = context_of (given m sizes answers) s

  abbrev behind : Context
  behind = context_of (given (saves_written m) sizes answers) (saved_state m s)

  like : IsLike before behind
  like = record {
    types = refl;
    answers = refl;
    rights = refl;
    coroutine = ap (λ (x : Function). x.coroutine) (function_saved m s.top.func);
    markers = λ name. ap (λ (x : Function). has_markers x name) (function_saved m s.top.func) ∙ markers_saved f name;
    functions = named_saved m;
    fits = fits_saved m;
  }

  same_operands : (xs : List Operand) → EachOperand (IsSameOperand (growing f) before behind s.top.values) xs
  same_operands [] = tt
  same_operands (x ∷ xs) = (record { here = λ ty. operand_saved m (save_count f) s.top.values ty x; nowhere = λ ty. operand_saved m 0 [] ty x }, same_operands xs)

  same_callee : (n : Option Name) → IsDeclaredAlike (growing f) before behind n
  same_callee None = tt
  same_callee (Some n) = on (declaration_named m n)
    where
      on : (o : Option ℕ) → o ≡ option_map (λ d. d) o
      on None = refl
      on (Some d) = refl

  kept_at : (here : Fetched) → IsNamedResult (length s.top.values) (result_at here) → IsKeptAt (growing f) before behind s.top.values here
  kept_at here h = record {
    operands = same_operands (operands_at here);
    result = λ v. sym (result_grown (save_count f) s.top.values (result_at here) v h);
    callee = same_callee (callee_at here);
  }

-- ---- what stands at a place before which no save is written

then_lone : (c : Bool) (k n : ℕ) (is : List Instr) (o : Option Instr) → own_saves c o ≡ 0 → instr_then c k n is o ≡ o
then_lone c k n is None e = refl
then_lone c k n is (Some i) e = on (is_bare c i) e
  where
    on : (b : Bool) → ◌≡◌ {A = ℕ} (if b then 1 else 0) 0 → Some (if b then saved (name_at c k n is) i else i) ≡ Some i
    on true z = absurd (omega arith)
    on false z = refl

pub fetch_lone : (f : Function) (p : Point) → own_saves f.coroutine (slice_get (instrs_in (slice_get f.blocks p.block)) p.at) ≡ 0 → fetch (saved_function f) p.block (front_of f p).at ≡ fetch f p.block p.at
fetch_lone f p lone =
    ap (fetch (saved_function f) p.block) (sym (add-zero (front_of f p).at) ∙ ap (λ (k : ℕ). (front_of f p).at + k) (sym lone)) ∙ on (slice_get f.blocks p.block) refl
  where
    on : (o : Option Block) → slice_get f.blocks p.block ≡ o → fetch (saved_function f) p.block (back_of f p).at ≡ fetch_in o p.at
    on None e = ap (λ (x : Option Block). fetch_in x (back_of f p).at) (get_block f.coroutine p.block (length f.names) f.blocks ∙ ap (option_map (saved_block f.coroutine (number_of_block f.coroutine p.block (length f.names) f.blocks))) e)
    on (Some b) e =
        fetch_back f p b e
        ∙ ap (λ (x : Option Instr). fetch_or x (p.at == length b.instrs) b.term)
        (then_lone f.coroutine p.at (number_of_block f.coroutine p.block (length f.names) f.blocks) (instrs_in (slice_get f.blocks p.block)) (slice_get (instrs_in (slice_get f.blocks p.block)) p.at) lone
        ∙ ap (λ (x : Option Block). slice_get (instrs_in x) p.at) e)

-- what stands there does the same
pub action_saved : (m : Module) (sizes : List Frame) (answers : List ℤ) (s : State) → HasNamedResults (function_at m s.top.func) → HasRoom m s → StandsAlone m s → action_of (context_of (given (saves_written m) sizes answers) (saved_state m s)) (work_of (saved_state m s)) (fetch (function_of (given (saves_written m) sizes answers) (saved_state m s)) s.top.block (saved_state m s).top.at) ≡ saved_action (function_at m s.top.func) (action_of (context_of (given m sizes answers) s) (work_of s) (fetch (function_at m s.top.func) s.top.block s.top.at))
action_saved m sizes answers s named room lone =
    ap (λ (h : Function). action_of (behind m sizes answers s) (work_of (saved_state m s)) (fetch h s.top.block (saved_state m s).top.at)) (function_saved m s.top.func)
    ∙ ap (action_of (behind m sizes answers s) (work_of (saved_state m s))) (fetch_lone (function_at m s.top.func) (record { block = s.top.block; at = s.top.at }) lone)
    ∙ ap (λ (w : Work). action_of (behind m sizes answers s) w here) (sym (work_grown (function_at m s.top.func) (work_of s)))
    ∙ action_kept (growing (function_at m s.top.func)) (before m sizes answers s) (behind m sizes answers s) (work_of s) here (like m sizes answers s)
    (kept_at m sizes answers s here (subst (λ (n : ℕ). IsNamedResult n (result_at here)) (sym room) (result_named (function_at m s.top.func) named s.top.block s.top.at)))
    ∙ action_grown (function_at m s.top.func) (action_of (before m sizes answers s) (work_of s) here)
  where
    here : Fetched
    here = fetch (function_at m s.top.func) s.top.block s.top.at
