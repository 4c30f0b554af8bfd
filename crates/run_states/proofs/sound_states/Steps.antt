-- A step keeps states sound, and a run starts in a sound one.
use Rattle.std.proofs.Common.{◌≡◌, ℕ, true, List, length, sym, subst}
use Rattle.std.specs.Prelude.{ℤ, Ok, Err, Option, Result, map}
use Rattle.ir_laws.specs.run_memory.declared.pointer.Value.{Value}
use Rattle.ir_laws.specs.ir_base.declared.cause.Cause.{Cause}
use Rattle.ir_laws.specs.ir_base.declared.outcome.Outcome.{Outcome}
use Rattle.ir_laws.specs.ir_base.declared.outcome.Word.{Word}
use Rattle.ir_laws.specs.run_source.Source.{Continues, act, advance_by, context_of, continue, coro, first_state, given, promise, step, step_by}
use Rattle.ir_laws.specs.run_source.State.{function_of, gives, or_undefined, point_of, settled, work_of}
use Rattle.ir_laws.specs.run_source.declared.state.State.{State}
use Rattle.ir_laws.specs.ir_model.Names.{function_at}
use Rattle.ir_laws.specs.ir_model.declared.module.Frame.{Frame}
use Rattle.ir_laws.specs.ir_model.declared.module.Module.{Module}
use Rattle.ir_laws.specs.ir_model.declared.operand.Arg.{Arg}
use Rattle.ir_laws.specs.ir_model.declared.operand.Intrinsic.{Intrinsic}
use Rattle.ir_laws.specs.ir_paths.Windows.{operand_at}
use Rattle.ir_laws.specs.run_step.Step.{Action, Coro, Deallocate, Done, Enter, Fetched, GoTo, NewSlot, Return, Stuck, action_of, fetch}
use Rattle.ir_laws.specs.run_step.Values.{arg_values, nth}
use Rattle.ir_laws.specs.facts.expanded.Tokens.{IsNamedResult}
use Rattle.run_states.proofs.sound_states.Acts.{Good, begin_sound, continue_sound, deallocate_sound, destroy_sound, done_sound, end_sound, enter_sound, entry_length, free_sound, gives_sound, go_sound, new_slot_sound, next_sound, on_result, resume_sound, return_sound, save_sound, suspend_sound}
use Rattle.run_states.proofs.sound_states.Fits.{Fits, calls_at, fits, result_named, suspend_there}
use Rattle.run_states.proofs.sound_states.Kept.{settled_sound, with_outcome}
use Rattle.ir_laws.specs.facts.sound_states.Named.{AreLocalsNamed}
use Rattle.run_states.specs.sound_states.Sound.{IsSound, KeepsSound}
use Rattle.ir_laws.specs.run_source_tables.Given.{Given}
use Rattle.ir_laws.specs.run_laws.changed.Changed.{result_at}

pub first_sound : (m : Module) (entry : ℕ) (args : List Word) → IsSound m (first_state m entry args)
first_sound m entry args = record {
  top = record { values = entry_length (function_at m entry) (map Value.Int args); instance = tt; mode = tt };
  below = tt;
  instances = λ i x e. absurd (cc);
}

module _ (g : Given) (go : Continues) (s : State) (names : AreLocalsNamed g.code) (keeps : KeepsSound g.code go) (h : IsSound g.code s) where
  abbrev here : Fetched
  here = fetch (function_of g s) s.top.block s.top.at

  named : IsNamedResult (length s.top.values) (result_at here)
  named = subst (λ (n : ℕ). IsNamedResult n (result_at here)) (sym h.top.values) (result_named (function_of g s) (names s.top.func).results s.top.block s.top.at)

  coro_good : (j : Intrinsic) (args : List Arg) (vs : List Value) (result : Option ℕ) → calls_at j here ≡ true → Good g (coro g go s j args vs result)
  coro_good Intrinsic.CoroBegin args vs result is = begin_sound g s h result (nth vs 1)
  coro_good Intrinsic.CoroFrame args vs result is = gives_sound g s result _ h
  coro_good Intrinsic.CoroSave args vs result is = save_sound g s h
  coro_good Intrinsic.CoroSuspend args vs result is = suspend_sound g s h (suspend_there (function_of g s) (point_of s) is) result (operand_at args 0)
  coro_good Intrinsic.CoroResume args vs result is = resume_sound g go keeps s h (nth vs 0)
  coro_good Intrinsic.CoroDestroy args vs result is = destroy_sound g go keeps s h (nth vs 0)
  coro_good Intrinsic.CoroDone args vs result is = done_sound g s h result (nth vs 0)
  coro_good Intrinsic.CoroEnd args vs result is = end_sound g s h result
  coro_good Intrinsic.CoroFree args vs result is = free_sound g s h result _
  coro_good Intrinsic.CoroPromise args vs result is = on_result g (promise g s (nth vs 0) (operand_at args 2)) (λ v. Ok (gives s result v)) (λ v d. gives_sound g s result v h)
  coro_good Intrinsic.CoroSizeI32 args vs result is = gives_sound g s result _ h
  coro_good Intrinsic.CoroSizeI64 args vs result is = gives_sound g s result _ h
  coro_good Intrinsic.CoroAlignI32 args vs result is = gives_sound g s result _ h
  coro_good Intrinsic.CoroAlignI64 args vs result is = gives_sound g s result _ h
  coro_good Intrinsic.CoroAlloc args vs result is = gives_sound g s result _ h
  coro_good Intrinsic.CoroId args vs result is = next_sound g s h
  coro_good Intrinsic.LifetimeStart args vs result is = next_sound g s h
  coro_good Intrinsic.LifetimeEnd args vs result is = next_sound g s h
  coro_good Intrinsic.MemcpyI64 args vs result is = next_sound g s h
  coro_good Intrinsic.MemcpyI32 args vs result is = next_sound g s h

  action_good : (a : Action) → Fits s.top.values here a → Good g (act g go s a)
  action_good (Done w) fit = settled_sound g.code s w fit h
  action_good (NewSlot w slot) fit = new_slot_sound g (settled s w) (settled_sound g.code s w fit h) slot
  action_good (Enter func args result must_tail) fit = enter_sound g s h func args result (subst (IsNamedResult (length s.top.values)) (sym fit) named)
  action_good (Coro j args result) fit = coro_good j args (arg_values g.code s.top.values args) result fit.0
  action_good (Deallocate p) fit = deallocate_sound g s h p
  action_good (GoTo label) fit = go_sound g s h label
  action_good (Return v) fit = return_sound g s h v
  action_good (Stuck cause) fit = tt

  after : (o : Result State Cause) → Good g o → IsSound g.code (or_undefined g s o)
  after (Err cause) good = with_outcome g.code s _ h
  after (Ok t) good = good

  advance_sound : (o : Outcome) → IsSound g.code (advance_by g go s o)
  advance_sound Outcome.Running = after (act g go s (action_of (context_of g s) (work_of s) here)) (action_good (action_of (context_of g s) (work_of s) here) (fits (context_of g s) (work_of s) here))
  advance_sound (Outcome.Returned v) = h
  advance_sound (Outcome.Undefined cause place) = h

-- a step keeps states sound
pub step_sound : (g : Given) (go : Continues) (s : State) → AreLocalsNamed g.code → KeepsSound g.code go → IsSound g.code s → IsSound g.code (step_by g go s)
step_sound g go s names keeps h = advance_sound g go s names keeps h s.outcome

pub source_step_sound : (m : Module) (sizes : List Frame) (answers : List ℤ) (s : State) → AreLocalsNamed m → IsSound m s → IsSound m (step (given m sizes answers) s)
source_step_sound m sizes answers s names h = step_sound (given m sizes answers) (continue (given m sizes answers)) s names (continue_sound (given m sizes answers)) h
