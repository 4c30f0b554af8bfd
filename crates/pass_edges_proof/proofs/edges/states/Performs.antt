-- What a step does to a state, and to that of the module whose edges have blocks.
use Rattle.std.proofs.Common.{◌≡◌, inl, ℕ, Bool, true, false, List, [], ◌∷◌, ◌++◌, length, refl, sym, ap, ◌∙◌, subst}
use Rattle.std.specs.Prelude.{ℤ, pos, Some, None, Option, Result, replicate, if◌then◌else◌, ◌==◌}
use Rattle.pass_early_proof.specs.run_memory.declared.pointer.Value.{Value}
use Rattle.pass_early_proof.specs.ir_base.declared.cause.Cause.{Cause}
use Rattle.pass_early_proof.specs.ir_base.declared.outcome.Outcome.{Outcome}
use Rattle.pass_early_proof.specs.ir_base.declared.outcome.Word.{Word}
use Rattle.pass_early_proof.specs.run_source.Source.{act, context_of, continue, coro, given, return}
use Rattle.pass_early_proof.specs.run_source.State.{function_of, own_frame, point_of, settled, work_of}
use Rattle.pass_early_proof.specs.run_source.declared.state.State.{State}
use Rattle.pass_early_proof.specs.ir_laws.facts.threads.Moved.{ArePaired}
use Rattle.pass_edges_proof.proofs.edges.states.Actions.{action_moved}
use Rattle.pass_edges_proof.proofs.edges.states.Acts.{deallocate_moved, new_slot_moved}
use Rattle.pass_early_proof.proofs.run_states.branches.Branches.{IsNoBranch, instr_none}
use Rattle.pass_edges_proof.proofs.edges.states.Calls.{enter_moved, return_moved}
use Rattle.pass_edges_proof.proofs.edges.states.Intrinsics.{begin_moved, destroy_near, done_moved, end_moved, frame_moved, free_moved, gives_moved, promise_moved, resume_near, save_moved, suspend_moved}
use Rattle.pass_edges_proof.proofs.edges.states.Parts.{function_moved}
use Rattle.pass_edges_proof.proofs.edges.states.States.{go_to_near, near_same, operand_moved}
use Rattle.pass_edges_proof.proofs.edges.states.Ways.{fetch_kept}
use Rattle.pass_edges_proof.specs.edges.states.MovedState.{AreEdgesKept, edge_count, edges_split, moved_action, moved_result, moved_state, placed, placed_block}
use Rattle.pass_edges_proof.specs.edges.states.Near.{IsNear}
use Rattle.pass_early_proof.specs.ir_laws.paths.branches.Ways.{AreFetched}
use Rattle.pass_edges_proof.specs.edges.states.Ways.{Goes}
use Rattle.pass_early_proof.specs.ir_laws.facts.branches.Ways.{TermsPaired}
use Rattle.ir_model.specs.Names.{function_at}
use Rattle.ir_model.specs.Ty.{int}
use Rattle.ir_model.specs.declared.instr.Case.{Case}
use Rattle.ir_model.specs.declared.instr.Instr.{Instr}
use Rattle.ir_model.specs.declared.instr.Terminator.{Terminator}
use Rattle.ir_model.specs.declared.module.Frame.{Frame}
use Rattle.ir_model.specs.declared.module.Function.{Function}
use Rattle.ir_model.specs.declared.module.Module.{Module}
use Rattle.ir_model.specs.declared.operand.Arg.{Arg}
use Rattle.ir_model.specs.declared.operand.Intrinsic.{Intrinsic}
use Rattle.pass_early_proof.specs.ir_paths.Windows.{operand_at}
use Rattle.pass_early_proof.specs.run_step.Step.{Action, AtInstr, AtTerm, Coro, Deallocate, Done, Enter, Fetched, GoTo, NewSlot, Nowhere, Return, Stuck, action_of, branch, fetch, is_word, switch, target_of, term_action}
use Rattle.pass_early_proof.specs.run_step.Values.{Env, arg_value, arg_values, integer, nth, operand_value, truth_value}
use Rattle.pass_early_proof.specs.ir_laws.facts.expanded.Tokens.{IsNamedResult}
use Rattle.pass_early_proof.proofs.run_states.sound_states.Fits.{Fits, calls_at, fits, result_named}
use Rattle.pass_early_proof.specs.ir_laws.facts.sound_states.Named.{AreLocalsNamed}
use Rattle.pass_early_proof.specs.run_states.sound_states.Sound.{IsSound}
use Rattle.pass_early_proof.specs.run_source_tables.Given.{Given}
use Rattle.pass_early_proof.specs.run_laws.changed.Changed.{result_at}
use Rattle.pass_early_proof.proofs.run_states.branches.Performs.{asleep, below_of, kept_room, own_of}

-- ---- actions

module _ (m : Module) (sizes : List Frame) (answers : List ℤ) (names : AreLocalsNamed m) (keeps : AreEdgesKept m) (s : State) (h : IsSound m s) (running : s.outcome ≡ Outcome.Running) where
  abbrev g : Given
  g = given m sizes answers

  abbrev k : Given
  k = given (edges_split m) sizes answers

  abbrev f : Function
  f = function_at m s.top.func

  abbrev here : Fetched
  here = fetch (function_at m s.top.func) s.top.block s.top.at

  abbrev Near : Result State Cause → Result State Cause → Type 0
  Near r q = IsNear m sizes answers r q

  same : (r q : Result State Cause) → q ≡ moved_result m r → Near r q
  same r q e = near_same m sizes answers r q e

  args_moved : (n : ℕ) (env : Env) (args : List Arg) → arg_values (edges_split m) (env ++ replicate n None) args ≡ arg_values m env args
  args_moved n env [] = refl
  args_moved n env (a ∷ args) =
      let first = operand_moved m n env a.ty a.value in
      let rest = args_moved n env args in
      λ i. first i ∷ rest i

  named : (result : Option ℕ) → result ≡ result_at here → IsNamedResult (length s.top.values) result
  named result e =
      subst (λ (n : ℕ). IsNamedResult n result) (sym h.top.values)
      (subst (IsNamedResult (length f.names)) (sym e) (result_named f (names s.top.func).results s.top.block s.top.at))

  coro_near : (j : Intrinsic) (args : List Arg) (vs : List Value) (result : Option ℕ) → calls_at j here ≡ true → result ≡ result_at here → Near (coro g (continue g) s j args vs result) (coro k (continue k) (moved_state m s) j args vs result)
  coro_near Intrinsic.CoroResume args vs result is e = resume_near m sizes answers names keeps s running (kept_room m s h) (nth vs 0) (asleep m s h (nth vs 0))
  coro_near Intrinsic.CoroDestroy args vs result is e = destroy_near m sizes answers names keeps s running (kept_room m s h) (nth vs 0) (asleep m s h (nth vs 0))
  coro_near Intrinsic.CoroBegin args vs result is e = same (coro g (continue g) s Intrinsic.CoroBegin args vs result) (coro k (continue k) (moved_state m s) Intrinsic.CoroBegin args vs result) (begin_moved m sizes answers s (keeps s.top.func) result (named result e) (nth vs 1))
  coro_near Intrinsic.CoroFrame args vs result is e = inl (frame_moved m s result (named result e))
  coro_near Intrinsic.CoroSave args vs result is e = same (coro g (continue g) s Intrinsic.CoroSave args vs result) (coro k (continue k) (moved_state m s) Intrinsic.CoroSave args vs result) (save_moved m sizes answers s (own_of m s h))
  coro_near Intrinsic.CoroSuspend args vs result is e = same (coro g (continue g) s Intrinsic.CoroSuspend args vs result) (coro k (continue k) (moved_state m s) Intrinsic.CoroSuspend args vs result) (suspend_moved m s (own_of m s h) result (named result e) (operand_at args 0))
  coro_near Intrinsic.CoroDone args vs result is e = same (coro g (continue g) s Intrinsic.CoroDone args vs result) (coro k (continue k) (moved_state m s) Intrinsic.CoroDone args vs result) (done_moved m sizes answers s result (named result e) (nth vs 0))
  coro_near Intrinsic.CoroEnd args vs result is e = same (coro g (continue g) s Intrinsic.CoroEnd args vs result) (coro k (continue k) (moved_state m s) Intrinsic.CoroEnd args vs result) (end_moved m s (below_of m s h) result (named result e))
  coro_near Intrinsic.CoroFree args vs result is e = inl (free_moved m s result (named result e))
  coro_near Intrinsic.CoroPromise args vs result is e = same (coro g (continue g) s Intrinsic.CoroPromise args vs result) (coro k (continue k) (moved_state m s) Intrinsic.CoroPromise args vs result) (promise_moved m sizes answers s result (named result e) (nth vs 0) (operand_at args 2))
  coro_near Intrinsic.CoroSizeI32 args vs result is e = inl (gives_moved m s result (integer 32 (pos (own_frame g s).size)) (named result e))
  coro_near Intrinsic.CoroSizeI64 args vs result is e = inl (gives_moved m s result (integer 64 (pos (own_frame g s).size)) (named result e))
  coro_near Intrinsic.CoroAlignI32 args vs result is e = inl (gives_moved m s result (integer 32 (pos (own_frame g s).align)) (named result e))
  coro_near Intrinsic.CoroAlignI64 args vs result is e = inl (gives_moved m s result (integer 64 (pos (own_frame g s).align)) (named result e))
  coro_near Intrinsic.CoroAlloc args vs result is e = inl (gives_moved m s result (truth_value true) (named result e))
  coro_near Intrinsic.CoroId args vs result is e = inl refl
  coro_near Intrinsic.LifetimeStart args vs result is e = inl refl
  coro_near Intrinsic.LifetimeEnd args vs result is e = inl refl
  coro_near Intrinsic.MemcpyI64 args vs result is e = inl refl
  coro_near Intrinsic.MemcpyI32 args vs result is e = inl refl

  act_near : (a : Action) → IsNoBranch a → Fits s.top.values here a → Near (act g (continue g) s a) (act k (continue k) (moved_state m s) (moved_action f a))
  act_near (Done w) none fit = inl refl
  act_near (NewSlot w slot) none fit = inl (new_slot_moved m sizes answers (settled s w) slot (keeps s.top.func))
  act_near (Enter func args result must_tail) none fit = inl (enter_moved m sizes answers s func args result (names func).params)
  act_near (Coro j args result) none fit =
      subst (λ (vs : List Value). Near (coro g (continue g) s j args (arg_values m s.top.values args) result) (coro k (continue k) (moved_state m s) j args vs result)) (sym (args_moved (edge_count f) s.top.values args))
      (coro_near j args (arg_values m s.top.values args) result fit.0 fit.1)
  act_near (Deallocate p) none fit = same (act g (continue g) s (Deallocate p)) (act k (continue k) (moved_state m s) (Deallocate p)) (deallocate_moved m s p)
  act_near (GoTo label) none fit = absurd none
  act_near (Return v) none fit = same (return s v) (return (moved_state m s) v) (return_moved m s v (below_of m s h))
  act_near (Stuck cause) none fit = refl

  -- ---- terminators

  abbrev W : ℕ → ℕ → Type 0
  W t l = Goes f (function_at (edges_split m) s.top.func) (placed f) (point_of s) t l

  goes_near : (t l : ℕ) → W t l → Near (act g (continue g) s (GoTo t)) (act k (continue k) (moved_state m s) (GoTo l))
  goes_near t l w = go_to_near m sizes answers s (keeps s.top.func) (names s.top.func).phis h.top.values (own_of m s h) running t l w.0 w.1

  branch_near : (v : Value) (a b c d : ℕ) → W a c → W b d → Near (act g (continue g) s (branch v a b)) (act k (continue k) (moved_state m s) (branch v c d))
  branch_near (Value.Int x) a b c d u w = on (x.bits == 1)
    where
      on : (t : Bool) → Near (act g (continue g) s (GoTo (if t then a else b))) (act k (continue k) (moved_state m s) (GoTo (if t then c else d)))
      on true = goes_near a c u
      on false = goes_near b d w
  branch_near Value.Poison a b c d u w = refl
  branch_near (Value.Ptr p) a b c d u w = refl

  case_goes : (x : Word) (d e : ℕ) → W d e → (cases others : List Case) → ArePaired (λ (i : Case) (j : Case). (j.arg ≡ i.arg) × W i.target j.target) cases others → W (target_of m x d cases) (target_of (edges_split m) x e others)
  case_goes x d e w [] [] all = w
  case_goes x d e w [] (j ∷ others) all = absurd all
  case_goes x d e w (i ∷ cases) [] all = absurd all
  case_goes x d e w (i ∷ cases) (j ∷ others) all =
      on (is_word x (arg_value m [] i.arg)) (is_word x (arg_value (edges_split m) [] j.arg)) (ap (is_word x) (ap (arg_value (edges_split m) []) all.0.0 ∙ operand_moved m 0 [] i.arg.ty i.arg.value)) (case_goes x d e w cases others all.1)
    where
      on : (a b : Bool) → b ≡ a → W (target_of m x d cases) (target_of (edges_split m) x e others) → W (if a then i.target else target_of m x d cases) (if b then j.target else target_of (edges_split m) x e others)
      on true true z again = all.0.1
      on true false z again = absurd (cc)
      on false true z again = absurd (cc)
      on false false z again = again

  switch_near : (v : Value) (d e : ℕ) → W d e → (cases others : List Case) → ArePaired (λ (i : Case) (j : Case). (j.arg ≡ i.arg) × W i.target j.target) cases others → Near (act g (continue g) s (switch m v d cases)) (act k (continue k) (moved_state m s) (switch (edges_split m) v e others))
  switch_near (Value.Int x) d e w cases others all = goes_near (target_of m x d cases) (target_of (edges_split m) x e others) (case_goes x d e w cases others all)
  switch_near Value.Poison d e w cases others all = refl
  switch_near (Value.Ptr p) d e w cases others all = refl

  abbrev before : Terminator → Action
  before t = term_action (context_of g s) (work_of s) t

  abbrev behind : Terminator → Action
  behind t = term_action (context_of k (moved_state m s)) (work_of (moved_state m s)) t

  operand_same : (x : Arg) → arg_value (edges_split m) (moved_state m s).top.values x ≡ arg_value m s.top.values x
  operand_same x = operand_moved m (edge_count f) s.top.values x.ty x.value

  return_near : (v w : Option Value) → w ≡ v → Near (return s v) (return (moved_state m s) w)
  return_near v w e = same (return s v) (return (moved_state m s) w) (ap (return (moved_state m s)) e ∙ return_moved m s v (below_of m s h))

  term_near : (t u : Terminator) → TermsPaired W t u → Near (act g (continue g) s (before t)) (act k (continue k) (moved_state m s) (behind u))
  term_near (Terminator.Jump t) (Terminator.Jump l) w = goes_near t l w
  term_near (Terminator.Branch x a b) (Terminator.Branch y c d) w =
      subst (λ (v : Value). Near (act g (continue g) s (branch (operand_value m s.top.values (int 1) x) a b)) (act k (continue k) (moved_state m s) (branch v c d)))
      (sym (ap (operand_value (edges_split m) (moved_state m s).top.values (int 1)) w.0 ∙ operand_moved m (edge_count f) s.top.values (int 1) x))
      (branch_near (operand_value m s.top.values (int 1) x) a b c d w.1.0 w.1.1)
  term_near (Terminator.Switch x d cases) (Terminator.Switch y e others) w =
      subst (λ (v : Value). Near (act g (continue g) s (switch m (arg_value m s.top.values x) d cases)) (act k (continue k) (moved_state m s) (switch (edges_split m) v e others)))
      (sym (ap (arg_value (edges_split m) (moved_state m s).top.values) w.0 ∙ operand_same x))
      (switch_near (arg_value m s.top.values x) d e w.1.0 cases others w.1.1)
  term_near (Terminator.Ret v) (Terminator.Ret u) w = subst (λ (x : Option Arg). Near (act g (continue g) s (before (Terminator.Ret v))) (act k (continue k) (moved_state m s) (behind (Terminator.Ret x)))) (sym w) (returns v)
    where
      returns : (v : Option Arg) → Near (act g (continue g) s (before (Terminator.Ret v))) (act k (continue k) (moved_state m s) (behind (Terminator.Ret v)))
      returns None = return_near None None refl
      returns (Some x) = return_near (Some (arg_value m s.top.values x)) (Some (arg_value (edges_split m) (moved_state m s).top.values x)) (ap (λ (v : Value). Some v) (operand_same x))
  term_near Terminator.Unreachable Terminator.Unreachable w = refl
  term_near _ _ w = absurd w

  -- ---- a step

  fetched_near : (x y : Fetched) → x ≡ here → AreFetched W x y → Near (act g (continue g) s (action_of (context_of g s) (work_of s) x)) (act k (continue k) (moved_state m s) (action_of (context_of k (moved_state m s)) (work_of (moved_state m s)) y))
  fetched_near Nowhere Nowhere e w = refl
  fetched_near (AtInstr i) (AtInstr j) e w =
      subst (λ (b : Action). Near (act g (continue g) s (action_of (context_of g s) (work_of s) (AtInstr i))) (act k (continue k) (moved_state m s) b))
      (sym (ap (λ (z : Instr). action_of (context_of k (moved_state m s)) (work_of (moved_state m s)) (AtInstr z)) w
      ∙ action_moved m sizes answers s (AtInstr i) (subst (λ (z : Fetched). IsNamedResult (length s.top.values) (result_at z)) (sym e) (named (result_at here) refl))))
      (act_near (action_of (context_of g s) (work_of s) (AtInstr i)) (instr_none (context_of g s) (work_of s) i) (subst (λ (z : Fetched). Fits s.top.values z (action_of (context_of g s) (work_of s) (AtInstr i))) e (fits (context_of g s) (work_of s) (AtInstr i))))
  fetched_near (AtTerm t) (AtTerm u) e w = term_near t u w
  fetched_near _ _ e w = absurd w

  -- each step comes to where the source comes, or a step before it
  pub step_near : Near (act g (continue g) s (action_of (context_of g s) (work_of s) (fetch (function_of g s) s.top.block s.top.at))) (act k (continue k) (moved_state m s) (action_of (context_of k (moved_state m s)) (work_of (moved_state m s)) (fetch (function_of k (moved_state m s)) (moved_state m s).top.block s.top.at)))
  step_near =
      fetched_near here (fetch (function_at (edges_split m) s.top.func) (placed_block f s.top.block) s.top.at) refl
      (subst (λ (x : Function). AreFetched (Goes f x (placed f) (point_of s)) here (fetch x (placed_block f s.top.block) s.top.at)) (sym (function_moved m s.top.func))
      (fetch_kept f (keeps s.top.func) (point_of s)))
