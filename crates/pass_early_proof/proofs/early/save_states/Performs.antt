-- What stands alone does the same to a state, and to that of the module whose saves are written out.
use Rattle.std.proofs.Common.{◌≡◌, ℕ, Bool, true, false, List, [], ◌∷◌, ◌++◌, length, refl, sym, ap, ◌∙◌, subst, arith}
use Rattle.std.specs.Prelude.{ℤ, pos, Some, None, Ok, Option, replicate, slice_get, if◌then◌else◌, ◌==◌}
use Rattle.rule_laws.specs.run_memory.declared.pointer.Value.{Value}
use Rattle.rule_laws.specs.run_source.Source.{Sleeper, act, context_of, continue, coro, given, new_slot, sleeper_at}
use Rattle.rule_laws.specs.run_source.State.{function_of, own_frame, own_instance, point_of, settled, work_of}
use Rattle.rule_laws.specs.run_source.declared.state.Activation.{Activation}
use Rattle.rule_laws.specs.run_source.declared.state.Instance.{Instance}
use Rattle.rule_laws.specs.run_source.declared.state.State.{State}
use Rattle.ir_model.specs.Names.{function_at}
use Rattle.ir_model.specs.declared.instr.Instr.{Instr}
use Rattle.ir_model.specs.declared.module.Block.{Block}
use Rattle.ir_model.specs.declared.module.Frame.{Frame}
use Rattle.ir_model.specs.declared.module.Function.{Function}
use Rattle.ir_model.specs.declared.module.Module.{Module}
use Rattle.ir_model.specs.declared.operand.Arg.{Arg}
use Rattle.ir_model.specs.declared.operand.Intrinsic.{Intrinsic}
use Rattle.rule_laws.specs.ir_paths.Windows.{is_call_of, operand_at}
use Rattle.rule_laws.specs.ir_paths.declared.point.Point.{Point}
use Rattle.rule_laws.specs.run_step.Step.{Action, Coro, Deallocate, Done, Enter, Fetched, GoTo, NewSlot, Return, Stuck, action_of, fetch, fetch_in, fetch_or}
use Rattle.rule_laws.specs.run_step.Values.{Env, arg_values, integer, nth, truth_value}
use Rattle.pass_early_proof.proofs.early.saves.Saves.{each_here}
use Rattle.pass_early_proof.specs.early.saves.SavesWritten.{is_bare, save_count, saves_written}
use Rattle.rule_laws.specs.ir_laws.facts.expanded.Spots.{instrs_in}
use Rattle.pass_early_proof.specs.early.saves.Spots.{own_saves}
use Rattle.rule_laws.specs.ir_laws.paths.expanded.Tokens.{HasNamedToken}
use Rattle.rule_laws.specs.ir_laws.facts.expanded.Tokens.{IsNamedResult}
use Rattle.pass_early_proof.proofs.early.save_states.Actions.{action_saved}
use Rattle.pass_early_proof.proofs.early.save_states.Acts.{deallocate_saved, new_slot_saved, settled_saved}
use Rattle.pass_early_proof.proofs.early.save_states.Calls.{enter_saved, return_saved}
use Rattle.pass_early_proof.proofs.early.save_states.Intrinsics.{begin_saved, destroy_saved, done_saved, end_saved, frame_saved, free_saved, gives_saved, next_saved, promise_saved, resume_saved, save_saved, suspend_saved}
use Rattle.pass_early_proof.proofs.early.save_states.States.{branches_same, operand_saved}
use Rattle.rule_laws.specs.ir_laws.paths.saved.SavedState.{AreTokensNamed}
use Rattle.pass_early_proof.specs.early.save_states.SavedState.{IsNamedBelow, IsOwnedBy, StandsAlone, saved_action, saved_result, saved_state}
use Rattle.run_states.proofs.sound_states.Acts.{asleep_there}
use Rattle.run_states.proofs.sound_states.Fits.{Fits, calls_at, fits, result_named}
use Rattle.run_states.proofs.sound_states.Kept.{own_is, own_there}
use Rattle.rule_laws.specs.ir_laws.facts.sound_states.Named.{AreLocalsNamed}
use Rattle.run_states.specs.sound_states.Sound.{AreSoundBelow, IsSound, IsSoundStatus}
use Rattle.rule_laws.specs.run_source_tables.Given.{Given}
use Rattle.rule_laws.specs.run_laws.changed.Changed.{result_at}

-- ---- what stands at a place

pub record IsCallAt (f : Function) (j : Intrinsic) (p : Point) : Type 0 where
  pub instr : Instr
  pub is : slice_get (instrs_in (slice_get f.blocks p.block)) p.at ≡ Some instr
  pub calls : is_call_of j instr ≡ true

pub call_there : (f : Function) (j : Intrinsic) (p : Point) → calls_at j (fetch f p.block p.at) ≡ true → IsCallAt f j p
call_there f j p = on (slice_get f.blocks p.block) refl
  where
    instr : (b : Block) → slice_get f.blocks p.block ≡ Some b → (last : Bool) (o : Option Instr) → slice_get b.instrs p.at ≡ o → calls_at j (fetch_or o last b.term) ≡ true → IsCallAt f j p
    instr b e true None d h = absurd (cc)
    instr b e false None d h = absurd (cc)
    instr b e last (Some i) d h = record { instr = i; is = ap (λ (o : Option Block). slice_get (instrs_in o) p.at) e ∙ d; calls = h }

    on : (o : Option Block) → slice_get f.blocks p.block ≡ o → calls_at j (fetch_in o p.at) ≡ true → IsCallAt f j p
    on None e h = absurd (cc)
    on (Some b) e h = instr b e (p.at == length b.instrs) (slice_get b.instrs p.at) refl h

-- no save is written before it
lone_bare : (c : Bool) (o : Option Instr) (i : Instr) → own_saves c o ≡ 0 → o ≡ Some i → is_bare c i ≡ false
lone_bare c o i none e = on (is_bare c i) (subst (λ (x : Option Instr). own_saves c x ≡ 0) e none)
  where
    on : (b : Bool) → ◌≡◌ {A = ℕ} (if b then 1 else 0) 0 → b ≡ false
    on true z = absurd (omega arith)
    on false z = refl

-- ---- what a sound state gives

module _ (m : Module) (s : State) (h : IsSound m s) where
  pub own_of : IsOwnedBy s (own_instance s)
  own_of = on (own_instance s) refl
    where
      on : (o : Option (ℕ × Instance)) → own_instance s ≡ o → IsOwnedBy s o
      on None e = tt
      on (Some (i, x)) e =
          let there = own_there s.instances s.top.instance i x e in
          own_is s.instances s.top.func s.top.instance i x there.0 there.1 h.top.instance

  pub below_of : IsNamedBelow s.top.result s.below
  below_of = on s.below h.below
    where
      on : (below : List Activation) → AreSoundBelow m s.instances s.top.result below → IsNamedBelow s.top.result below
      on [] b = tt
      on (a ∷ below) b = b.0

  pub kept_room : (p : Value) (y : Sleeper) → sleeper_at s p ≡ Ok y → length y.values ≡ length (function_at m y.instance.coroutine).names
  kept_room p y e =
      let there = asleep_there s p y e in
      (subst (IsSoundStatus m y.instance.coroutine) there.status (h.instances y.number y.instance there.got)).0

-- ---- actions

module _ (m : Module) (sizes : List Frame) (answers : List ℤ) (names : AreLocalsNamed m) (tokens : AreTokensNamed m) (s : State) (h : IsSound m s) (lone : StandsAlone m s) where
  abbrev g : Given
  g = given m sizes answers

  abbrev k : Given
  k = given (saves_written m) sizes answers

  abbrev f : Function
  f = function_at m s.top.func

  abbrev here : Fetched
  here = fetch (function_at m s.top.func) s.top.block s.top.at

  args_saved : (n : ℕ) (env : Env) (args : List Arg) → arg_values (saves_written m) (env ++ replicate n None) args ≡ arg_values m env args
  args_saved n env [] = refl
  args_saved n env (a ∷ args) =
      let first = operand_saved m n env a.ty a.value in
      let rest = args_saved n env args in
      λ i. first i ∷ rest i

  named : (result : Option ℕ) → result ≡ result_at here → IsNamedResult (length s.top.values) result
  named result e =
      subst (λ (n : ℕ). IsNamedResult n result) (sym h.top.values)
      (subst (IsNamedResult (length f.names)) (sym e) (result_named f (names s.top.func).results s.top.block s.top.at))

  save_kept : (args : List Arg) (vs : List Value) (result : Option ℕ) → calls_at Intrinsic.CoroSave here ≡ true → coro k (continue k) (saved_state m s) Intrinsic.CoroSave args vs result ≡ saved_result m (coro g (continue g) s Intrinsic.CoroSave args vs result)
  save_kept args vs result is =
      let there = call_there f Intrinsic.CoroSave (point_of s) is in
      save_saved m sizes answers s lone (own_of m s h) (tokens s.top.func) there.instr there.is
      (lone_bare f.coroutine _ there.instr lone there.is)
      (each_here (HasNamedToken (length f.names)) f.blocks (tokens s.top.func) (point_of s) there.instr there.is).result

  coro_kept : (j : Intrinsic) (args : List Arg) (vs : List Value) (result : Option ℕ) → calls_at j here ≡ true → result ≡ result_at here → coro k (continue k) (saved_state m s) j args vs result ≡ saved_result m (coro g (continue g) s j args vs result)
  coro_kept Intrinsic.CoroBegin args vs result is e = begin_saved m sizes answers s lone (tokens s.top.func) result (named result e) (nth vs 1)
  coro_kept Intrinsic.CoroFrame args vs result is e = ap Ok (frame_saved m s lone result (named result e))
  coro_kept Intrinsic.CoroSave args vs result is e = save_kept args vs result is
  coro_kept Intrinsic.CoroSuspend args vs result is e = suspend_saved m s lone (own_of m s h) result (named result e) (operand_at args 0)
  coro_kept Intrinsic.CoroResume args vs result is e = resume_saved m sizes answers names s lone (kept_room m s h) (nth vs 0)
  coro_kept Intrinsic.CoroDestroy args vs result is e = destroy_saved m sizes answers names s lone (kept_room m s h) (nth vs 0)
  coro_kept Intrinsic.CoroDone args vs result is e = done_saved m sizes answers s lone result (named result e) (nth vs 0)
  coro_kept Intrinsic.CoroEnd args vs result is e = end_saved m s lone (below_of m s h) result (named result e)
  coro_kept Intrinsic.CoroFree args vs result is e = ap Ok (free_saved m s lone result (named result e))
  coro_kept Intrinsic.CoroPromise args vs result is e = promise_saved m sizes answers tokens s lone result (named result e) (nth vs 0) (operand_at args 2)
  coro_kept Intrinsic.CoroSizeI32 args vs result is e = ap Ok (gives_saved m s lone result (integer 32 (pos (own_frame g s).size)) (named result e))
  coro_kept Intrinsic.CoroSizeI64 args vs result is e = ap Ok (gives_saved m s lone result (integer 64 (pos (own_frame g s).size)) (named result e))
  coro_kept Intrinsic.CoroAlignI32 args vs result is e = ap Ok (gives_saved m s lone result (integer 32 (pos (own_frame g s).align)) (named result e))
  coro_kept Intrinsic.CoroAlignI64 args vs result is e = ap Ok (gives_saved m s lone result (integer 64 (pos (own_frame g s).align)) (named result e))
  coro_kept Intrinsic.CoroAlloc args vs result is e = ap Ok (gives_saved m s lone result (truth_value true) (named result e))
  coro_kept Intrinsic.CoroId args vs result is e = ap Ok (next_saved m s lone)
  coro_kept Intrinsic.LifetimeStart args vs result is e = ap Ok (next_saved m s lone)
  coro_kept Intrinsic.LifetimeEnd args vs result is e = ap Ok (next_saved m s lone)
  coro_kept Intrinsic.MemcpyI64 args vs result is e = ap Ok (next_saved m s lone)
  coro_kept Intrinsic.MemcpyI32 args vs result is e = ap Ok (next_saved m s lone)

  act_kept : (a : Action) → Fits s.top.values here a → act k (continue k) (saved_state m s) (saved_action f a) ≡ saved_result m (act g (continue g) s a)
  act_kept (Done w) fit = ap Ok (settled_saved m s lone w)
  act_kept (NewSlot w slot) fit = ap (λ (t : State). Ok (new_slot k t slot)) (settled_saved m s lone w) ∙ ap Ok (new_slot_saved m sizes answers (settled s w) slot (tokens s.top.func))
  act_kept (Enter func args result must_tail) fit = ap Ok (enter_saved m sizes answers s func args result lone (names func).params)
  act_kept (Coro j args result) fit =
      ap (λ (vs : List Value). coro k (continue k) (saved_state m s) j args vs result) (args_saved (save_count f) s.top.values args)
      ∙ coro_kept j args (arg_values m s.top.values args) result fit.0 fit.1
  act_kept (Deallocate p) fit = deallocate_saved m s p lone
  act_kept (GoTo label) fit = branches_same m sizes answers s label (names s.top.func).phis (tokens s.top.func) h.top.values (own_of m s h)
  act_kept (Return v) fit = return_saved m s v (below_of m s h)
  act_kept (Stuck cause) fit = refl

-- what stands at a place before which no save is written does the same
pub step_kept : (m : Module) (sizes : List Frame) (answers : List ℤ) (s : State) → AreLocalsNamed m → AreTokensNamed m → IsSound m s → StandsAlone m s → act (given (saves_written m) sizes answers) (continue (given (saves_written m) sizes answers)) (saved_state m s) (action_of (context_of (given (saves_written m) sizes answers) (saved_state m s)) (work_of (saved_state m s)) (fetch (function_of (given (saves_written m) sizes answers) (saved_state m s)) s.top.block (saved_state m s).top.at)) ≡ saved_result m (act (given m sizes answers) (continue (given m sizes answers)) s (action_of (context_of (given m sizes answers) s) (work_of s) (fetch (function_at m s.top.func) s.top.block s.top.at)))
step_kept m sizes answers s names tokens h lone =
    ap (act (given (saves_written m) sizes answers) (continue (given (saves_written m) sizes answers)) (saved_state m s)) (action_saved m sizes answers s (names s.top.func).results h.top.values lone)
    ∙ act_kept m sizes answers names tokens s h lone (action_of (context_of (given m sizes answers) s) (work_of s) (fetch (function_at m s.top.func) s.top.block s.top.at)) (fits (context_of (given m sizes answers) s) (work_of s) (fetch (function_at m s.top.func) s.top.block s.top.at))
