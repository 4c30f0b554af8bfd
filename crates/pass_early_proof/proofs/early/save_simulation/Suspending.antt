-- A suspend without a save, and the two instructions that it becomes.
use Rattle.std.proofs.Common.{◌≡◌, ℕ, ◌+◌, Bool, true, false, List, [], ◌∷◌, length, sym, ap, ◌∙◌, subst}
use Rattle.std.specs.Prelude.{ℤ, negsuc, Some, None, Ok, Err, Option, Result, not, slice_get, if◌then◌else◌, ◌==◌}
use Rattle.rule_laws.specs.run_memory.declared.pointer.Value.{Value}
use Rattle.rule_laws.specs.ir_base.declared.cause.Cause.{Cause}
use Rattle.rule_laws.specs.ir_base.declared.outcome.Outcome.{Outcome}
use Rattle.rule_laws.specs.run_source.Source.{act, advance_by, context_of, continue, given, save, save_for, step}
use Rattle.rule_laws.specs.run_source.State.{function_of, gives, next, or_undefined, own_instance, point_of, with_instance, with_left, work_of}
use Rattle.rule_laws.specs.run_source.declared.state.Instance.{Instance}
use Rattle.rule_laws.specs.run_source.declared.state.State.{State}
use Rattle.rule_laws.specs.run_source.declared.state.Status.{Status}
use Rattle.pass_early.specs.Early.{is_unsaved, saved}
use Rattle.ir_model.specs.Names.{function_at}
use Rattle.ir_model.specs.Ty.{Ty}
use Rattle.ir_model.specs.declared.instr.Instr.{Instr}
use Rattle.ir_model.specs.declared.module.Block.{Block}
use Rattle.ir_model.specs.declared.module.Frame.{Frame}
use Rattle.ir_model.specs.declared.module.Function.{Function}
use Rattle.ir_model.specs.declared.module.Module.{Module}
use Rattle.ir_model.specs.declared.operand.Arg.{Arg}
use Rattle.ir_model.specs.declared.operand.Callee.{Callee}
use Rattle.ir_model.specs.declared.operand.Intrinsic.{Intrinsic}
use Rattle.ir_model.specs.declared.operand.Operand.{Operand}
use Rattle.rule_laws.specs.ir_paths.Windows.{call_result, instr_at, instr_in}
use Rattle.rule_laws.specs.ir_paths.declared.point.Point.{Point}
use Rattle.rule_laws.specs.run_step.Results.{and_then, found, ok_if}
use Rattle.rule_laws.specs.run_step.Step.{AtInstr, Fetched, action_of, fetch, fetch_in, fetch_or}
use Rattle.rule_laws.specs.run_step.Values.{integer}
use Rattle.pass_early_proof.proofs.early.saves.Instrs.{instr_then, name_at}
use Rattle.pass_early_proof.proofs.early.saves.Parts.{at_back, function_saved}
use Rattle.pass_early_proof.proofs.early.saves.Saves.{each_here}
use Rattle.pass_early_proof.proofs.early.saves.Windows.{front_bare}
use Rattle.rule_laws.proofs.ir_laws.paths.expanded.Windows.{instr_at_is}
use Rattle.pass_early_proof.specs.early.saves.SavesWritten.{is_bare, saved_function, saves_written}
use Rattle.pass_early_proof.specs.early.saves.Spots.{back_of, front_of, number_of_block, own_saves}
use Rattle.rule_laws.specs.ir_laws.facts.expanded.Spots.{instrs_in}
use Rattle.rule_laws.specs.ir_laws.paths.expanded.Tokens.{HasNamedToken}
use Rattle.rule_laws.specs.ir_laws.facts.expanded.Tokens.{IsNamedResult}
use Rattle.pass_early_proof.proofs.early.save_states.Performs.{own_of}
use Rattle.pass_early_proof.proofs.early.save_states.Suspends.{gives_behind, written_save_saved}
use Rattle.rule_laws.specs.ir_laws.paths.saved.SavedState.{AreTokensNamed}
use Rattle.pass_early_proof.specs.early.save_states.SavedState.{saved_result, saved_state}
use Rattle.run_states.specs.sound_states.Sound.{IsSound}
use Rattle.rule_laws.specs.run_source_tables.Given.{Given}
use Rattle.pass_early_proof.proofs.early.saves.Tokens.{none_is}

pub record IsUnsaved (i : Instr) : Type 0 where
  pub result : Option ℕ
  pub must_tail : Bool
  pub ty : Option Ty
  pub token : Ty
  pub args : List Arg
  pub is : i ≡ Instr.Call result must_tail ty (Callee.Intrinsic Intrinsic.CoroSuspend) (record { ty = token; value = Operand.None } ∷ args)

pub unsaved_is : (i : Instr) → is_unsaved i ≡ true → IsUnsaved i
unsaved_is (Instr.Call result must_tail ty (Callee.Intrinsic Intrinsic.CoroSuspend) []) e = absurd (cc)
unsaved_is (Instr.Call result must_tail ty (Callee.Intrinsic Intrinsic.CoroSuspend) (a ∷ args)) e =
    let none = none_is a.value e in
    record {
      result = result;
      must_tail = must_tail;
      ty = ty;
      token = a.ty;
      args = args;
      is = λ j. Instr.Call result must_tail ty (Callee.Intrinsic Intrinsic.CoroSuspend) (record { ty = a.ty; value = none j } ∷ args);
    }
unsaved_is _ e = absurd (cc)

pub bare_is : (c : Bool) (i : Instr) → is_bare c i ≡ true → IsUnsaved i
bare_is false i e = absurd (cc)
bare_is true i e = unsaved_is i e

-- what stands at a point is what is fetched
pub fetch_at : (f : Function) (p : Point) (i : Instr) → instr_at f p ≡ Some i → fetch f p.block p.at ≡ AtInstr i
fetch_at f p i = on (slice_get f.blocks p.block)
  where
    on : (o : Option Block) → instr_in o p.at ≡ Some i → fetch_in o p.at ≡ AtInstr i
    on None e = absurd (cc)
    on (Some b) e = ap (λ (x : Option Instr). fetch_or x (p.at == length b.instrs) b.term) e

-- a save is refused, or the activation's instance is changed
pub data Saving (s : State) : Result State Cause → Type 0 where
  Refused : (cause : Cause) → Saving s (Err cause)
  Made : (i : ℕ) (x : Instance) → Saving s (Ok (with_left (with_instance s i x) true))

pub saving : (s : State) (save suspend : Point) → Saving s (save_for s save suspend)
saving s save suspend = on (own_instance s)
  where
    kept : Instance → Instance
    kept x = record x { status = Status.Suspended suspend s.top.values; last_save = Some (record { depth = length s.below; save = save }) }

    test : (b : Bool) (i : ℕ) (x : Instance) → Saving s (ok_if b Cause.State (with_left (with_instance s i x) true))
    test true i x = Made i x
    test false i x = Refused Cause.State

    on : (o : Option (ℕ × Instance)) → Saving s (and_then (found Cause.State o) (λ (y : ℕ × Instance). ok_if (not y.1.freed) Cause.State (with_left (with_instance s y.0 (kept y.1)) true)))
    on None = Refused Cause.State
    on (Some y) = test (not y.1.freed) y.0 (kept y.1)

module _ (m : Module) (sizes : List Frame) (answers : List ℤ) (tokens : AreTokensNamed m) (s : State) (h : IsSound m s) (runs : s.outcome ≡ Outcome.Running) (i : Instr) where
  abbrev g : Given
  g = given m sizes answers

  abbrev k : Given
  k = given (saves_written m) sizes answers

  abbrev f : Function
  f = function_at m s.top.func

  abbrev p : Point
  p = point_of s

  abbrev v : Value
  v = integer 8 (negsuc 0)

  -- what comes of what is fetched
  abbrev pub then_of : Given → State → Fetched → State
  then_of x t here = or_undefined x t (act x (continue x) t (action_of (context_of x t) (work_of t) here))

  pub step_is : (x : Given) (t : State) → t.outcome ≡ Outcome.Running → step x t ≡ then_of x t (fetch (function_of x t) t.top.block t.top.at)
  step_is x t running = ap (advance_by x (continue x) t) running

  module _ (there : slice_get (instrs_in (slice_get f.blocks s.top.block)) s.top.at ≡ Some i) (bare : is_bare f.coroutine i ≡ true) where
    abbrev call : IsUnsaved i
    call = bare_is f.coroutine i bare

    abbrev pub result : Option ℕ
    result = call.result

    -- the suspend saves, and goes on
    pub source_step : step g s ≡ or_undefined g s (and_then (save_for s p p) (λ (t : State). Ok (gives t result v)))
    source_step =
        step_is g s runs
        ∙ ap (then_of g s) (fetch_at f p i (instr_at_is (slice_get f.blocks p.block) p.at ∙ there))
        ∙ ap (λ (x : Instr). then_of g s (AtInstr x)) call.is

    -- the save saves
    pub first_step : step k (saved_state m s) ≡ or_undefined k (saved_state m s) (and_then (saved_result m (save_for s p p)) (λ (t : State). Ok (next t)))
    first_step =
        step_is k (saved_state m s) runs
        ∙ ap (λ (x : Function). then_of k (saved_state m s) (fetch x s.top.block (front_of f p).at)) (function_saved m s.top.func)
        ∙ ap (then_of k (saved_state m s)) (fetch_at (saved_function f) (front_of f p) _ (front_bare f (tokens s.top.func) p i there bare))
        ∙ ap (or_undefined k (saved_state m s)) (written_save_saved m sizes answers s i (tokens s.top.func) (own_of m s h) there bare)

    abbrev number : ℕ
    number = name_at f.coroutine p.at (number_of_block f.coroutine p.block (length f.names) f.blocks) (instrs_in (slice_get f.blocks p.block))

    own_one : own_saves f.coroutine (slice_get (instrs_in (slice_get f.blocks s.top.block)) s.top.at) ≡ 1
    own_one = ap (own_saves f.coroutine) there ∙ ap (λ (b : Bool). if b then 1 else 0) bare

    at_second : instr_at (saved_function f) (back_of f p) ≡ Some (saved number i)
    at_second =
        at_back f p
        ∙ ap (instr_then f.coroutine p.at (number_of_block f.coroutine p.block (length f.names) f.blocks) (instrs_in (slice_get f.blocks p.block))) there
        ∙ ap (λ (b : Bool). Some (if b then saved number i else i)) bare

    -- the suspend of the save goes on behind it
    pub second_step : (t : State) → t.outcome ≡ Outcome.Running → t.top.func ≡ s.top.func → t.top.block ≡ s.top.block → t.top.at ≡ (front_of f p).at + 1 → step k t ≡ gives t result v
    second_step t running func block at =
        step_is k t running
        ∙ (λ j. then_of k t (fetch (function_at (saves_written m) (func j)) (block j) (place j)))
        ∙ ap (λ (x : Function). then_of k t (fetch x s.top.block (back_of f p).at)) (function_saved m s.top.func)
        ∙ ap (then_of k t) (fetch_at (saved_function f) (back_of f p) (saved number i) at_second)
        ∙ ap (λ (x : Instr). then_of k t (AtInstr (saved number x))) call.is
      where
        place : t.top.at ≡ (back_of f p).at
        place = at ∙ ap (λ (n : ℕ). (front_of f p).at + n) (sym own_one)

    result_named : IsNamedResult (length s.top.values) result
    result_named =
        subst (λ (n : ℕ). IsNamedResult n result) (sym h.top.values)
        (subst (IsNamedResult (length f.names)) (ap call_result call.is) (each_here (HasNamedToken (length f.names)) f.blocks (tokens s.top.func) p i there).result)

    -- and there the first run is
    pub comes_behind : (j : ℕ) (x : Instance) → gives (next (saved_state m (with_left (with_instance s j x) true))) result v ≡ saved_state m (gives (with_left (with_instance s j x) true) result v)
    comes_behind j x = gives_behind m (with_left (with_instance s j x) true) result v own_one result_named
