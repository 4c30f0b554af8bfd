-- What an action does in the renamed module, where the values that are used are the same.
use Rattle.std.proofs.Common.{◌≡◌, ℕ, Bool, true, false, List, [], ◌∷◌, length, refl, sym, ap, ◌∙◌}
use Rattle.std.specs.List.{list_all}
use Rattle.std.specs.Option.{option_map_or}
use Rattle.std.specs.Prelude.{ℤ, negsuc, IsTrue, None, Ok, Err, Option, Result, filter, find, map, not, option_and_then, if◌then◌else◌, ◌==◌}
use Rattle.rule_laws.specs.run_memory.Memory.{owner_rights}
use Rattle.rule_laws.specs.run_memory.declared.pointer.Pointer.{Pointer}
use Rattle.rule_laws.specs.run_memory.declared.pointer.Value.{Value}
use Rattle.rule_laws.specs.ir_base.declared.cause.Cause.{Cause}
use Rattle.rule_laws.specs.ir_base.declared.outcome.Outcome.{Outcome}
use Rattle.rule_laws.specs.run_source.Source.{Sleeper, act, advance_by, block_of_slot, branch_leaving, called, continue, coro, done_at, frame_of_promise, given, go_to, is_live_at, is_over, may_leave, mode_of, promise_block, promise_of_frame, push, destroy, resume, resumed, save, save_before, save_for, sleeper_at, step}
use Rattle.rule_laws.specs.run_source.State.{frame_address_of, gives, instance_at, next, or_undefined, own_instance, point_of, with_left, with_status, work_of}
use Rattle.rule_laws.specs.run_source.declared.state.Instance.{Instance}
use Rattle.rule_laws.specs.run_source.declared.state.State.{State}
use Rattle.rule_laws.specs.run_source.declared.state.Status.{Status}
use Rattle.pass_early_proof.proofs.early.renaming.Actions.{IsSame, renamed_fetched, same_action, same_args}
use Rattle.run_states.proofs.renamed.Modules.{action_there, operand_there}
use Rattle.rule_laws.proofs.ir_laws.facts.Lists.{map_same}
use Rattle.pass_early_proof.proofs.early.renaming.Parts.{destroy_same, entry_same, fetch_same, operand_at_same, resume_same}
use Rattle.pass_early_proof.proofs.early.renaming.Sameness.{Agree, AgreeOn, by_function, enter_same, final_same, has_final_same, mild, place_same, same_all, save_same, true_same}
use Rattle.pass_early_proof.proofs.early.renaming.Slots.{markers_same, promise_same, suspend_same}
use Rattle.pass_early_proof.specs.early.renaming.Passes.{renamed_function, renamed_module}
use Rattle.pass_early_proof.specs.early.renaming.Regular.{AreRegular}
use Rattle.rule_laws.specs.ir_laws.paths.renamed.Regular.{is_call_at, operands_read}
use Rattle.pass_early.specs.Early.{renaming_of}
use Rattle.pass_early.specs.Renaming.{renamed_arg, renamed_instr}
use Rattle.ir_model.specs.Names.{function_at}
use Rattle.ir_model.specs.declared.instr.Instr.{Instr}
use Rattle.ir_model.specs.declared.module.Frame.{Frame}
use Rattle.ir_model.specs.declared.module.Function.{Function}
use Rattle.ir_model.specs.declared.module.Module.{Module}
use Rattle.ir_model.specs.declared.operand.Arg.{Arg}
use Rattle.ir_model.specs.declared.operand.Callee.{Callee}
use Rattle.ir_model.specs.declared.operand.Intrinsic.{Intrinsic}
use Rattle.rule_laws.specs.ir_paths.Facts.{all_facts}
use Rattle.rule_laws.specs.ir_paths.Paths.{entry_point}
use Rattle.rule_laws.specs.ir_paths.Slots.{promise_of}
use Rattle.rule_laws.specs.ir_paths.Windows.{destroy_label, is_call_of, leaves, operand_at, resume_label, suspend_of}
use Rattle.rule_laws.specs.ir_paths.declared.point.Point.{Point}
use Rattle.rule_laws.specs.ir_paths.declared.point.Window.{Window}
use Rattle.rule_laws.specs.run_step.Results.{and_then, found, ok_if}
use Rattle.rule_laws.specs.run_step.Step.{Action, AtInstr, AtTerm, Context, Coro, Deallocate, Done, Enter, Fetched, GoTo, NewSlot, Nowhere, Return, Stuck, action_of, entry_values, fetch, has_markers, place_at}
use Rattle.rule_laws.specs.run_step.Values.{arg_value, arg_values, integer, nth, pointer_to, truth_value}
use Rattle.rule_laws.specs.run_source_tables.Given.{Given, facts_at, has_final, is_final, is_true}
use Rattle.rule_laws.specs.run_laws.changed.Changed.{Each, operands_of, operands_of_term, values_of}

module _ (m : Module) (ok : AreRegular m) (sizes : List Frame) (answers : List ℤ) where
  abbrev the : ℕ → Function
  the func = function_at m func

  abbrev g : Given
  g = given m sizes answers

  -- the renamed module with the facts of the module
  abbrev h : Given
  h = record { code = renamed_module m; sizes = sizes; answers = answers; facts = all_facts m }

  -- what sleeps may be resumed and destroyed
  abbrev pub AreTrusted : State → Type 0
  AreTrusted s =
      (p : Value) (y : Sleeper) → sleeper_at s p ≡ Ok y
      → AgreeOn m ok sizes answers y.instance.coroutine y.values y.suspend.block (resume_label (the y.instance.coroutine) y.suspend)
      × AgreeOn m ok sizes answers y.instance.coroutine y.values y.suspend.block (destroy_label (the y.instance.coroutine) y.suspend)

  -- a sleeper goes on at a label
  goes_on : (s : State) (y : Sleeper) (label : ℕ) → AgreeOn m ok sizes answers y.instance.coroutine y.values y.suspend.block label → continue h s y.number y.instance y.suspend y.values label ≡ continue g s y.number y.instance y.suspend y.values label
  goes_on s y label agree = enter_same m ok sizes answers (push (with_status s y.number y.instance Status.Running) (resumed y.number y.instance y.suspend y.values)) label agree

  resume_there : (s : State) (p : Value) → AreTrusted s → resume h (continue h) s p ≡ resume g (continue g) s p
  resume_there s p trust = on (sleeper_at s p) refl
    where
      on : (o : Result Sleeper Cause) → sleeper_at s p ≡ o → and_then o (λ y. let f = function_at (renamed_module m) y.instance.coroutine in ok_if (not (is_final f y.suspend)) Cause.State (continue h s y.number y.instance y.suspend y.values (resume_label f y.suspend))) ≡ and_then o (λ y. let f = the y.instance.coroutine in ok_if (not (is_final f y.suspend)) Cause.State (continue g s y.number y.instance y.suspend y.values (resume_label f y.suspend)))
      on (Err cause) e = refl
      on (Ok y) e =
          by_function m ok sizes answers (λ f. ok_if (not (is_final f y.suspend)) Cause.State (continue h s y.number y.instance y.suspend y.values (resume_label f y.suspend))) y.instance.coroutine
          (λ c. let f = the y.instance.coroutine in let r = renaming_of f in λ k. ok_if (not (final_same r f y.suspend k)) Cause.State (continue h s y.number y.instance y.suspend y.values (resume_same r f y.suspend k)))
          ∙ ap (ok_if (not (is_final (the y.instance.coroutine) y.suspend)) Cause.State) (goes_on s y (resume_label (the y.instance.coroutine) y.suspend) (trust p y e).0)

  destroy_there : (s : State) (p : Value) → AreTrusted s → destroy h (continue h) s p ≡ destroy g (continue g) s p
  destroy_there s p trust = on (sleeper_at s p) refl
    where
      on : (o : Result Sleeper Cause) → sleeper_at s p ≡ o → and_then o (λ y. Ok (continue h s y.number y.instance y.suspend y.values (destroy_label (function_at (renamed_module m) y.instance.coroutine) y.suspend))) ≡ and_then o (λ y. Ok (continue g s y.number y.instance y.suspend y.values (destroy_label (the y.instance.coroutine) y.suspend)))
      on (Err cause) e = refl
      on (Ok y) e =
          by_function m ok sizes answers (λ f. Ok (continue h s y.number y.instance y.suspend y.values (destroy_label f y.suspend))) y.instance.coroutine
          (λ c. let f = the y.instance.coroutine in λ k. Ok (continue h s y.number y.instance y.suspend y.values (destroy_same (renaming_of f) f y.suspend k)))
          ∙ ap Ok (goes_on s y (destroy_label (the y.instance.coroutine) y.suspend) (trust p y e).1)

  done_there : (s : State) (result : Option ℕ) (p : Value) → done_at h s result p ≡ done_at g s result p
  done_there s result p = on (sleeper_at s p)
    where
      on : (o : Result Sleeper Cause) → and_then o (λ y. let f = function_at (renamed_module m) y.instance.coroutine in ok_if (has_final f) Cause.State (gives s result (truth_value (is_final f y.suspend)))) ≡ and_then o (λ y. let f = the y.instance.coroutine in ok_if (has_final f) Cause.State (gives s result (truth_value (is_final f y.suspend))))
      on (Err cause) = refl
      on (Ok y) =
          by_function m ok sizes answers (λ f. ok_if (has_final f) Cause.State (gives s result (truth_value (is_final f y.suspend)))) y.instance.coroutine
          (λ c. let f = the y.instance.coroutine in let r = renaming_of f in λ k. ok_if (has_final_same r f k) Cause.State (gives s result (truth_value (final_same r f y.suspend k))))

  promise_there : (x : Instance) → promise_block h x ≡ promise_block g x
  promise_there x = by_function m ok sizes answers (λ f. option_and_then (block_of_slot x.slots) (promise_of f)) x.coroutine (λ c. ap (option_and_then (block_of_slot x.slots)) (promise_same (renaming_of (the x.coroutine)) (the x.coroutine) (ok x.coroutine c)))

  of_frame_there : (s : State) (p : Value) → promise_of_frame h s p ≡ promise_of_frame g s p
  of_frame_there s p = λ k.
      and_then (found Cause.Frame (instance_at s.instances p)) (λ (i, x).
      and_then (found Cause.Promise (promise_there x k)) (λ b.
      ok_if (not (is_over x)) Cause.Dead (pointer_to b)))

  of_promise_there : (s : State) (p : Value) → frame_of_promise h s p ≡ frame_of_promise g s p
  of_promise_there s (Value.Ptr (Pointer.At b offset)) = λ k.
      and_then (found Cause.Promise (if offset.bits == 0 then find (λ x. option_map_or (λ c. b == c) (promise_there x k) false) s.instances else None)) (λ x.
      ok_if (is_live_at s.world.memory b) Cause.Promise (frame_address_of x))
  of_promise_there s (Value.Ptr Pointer.Null) = refl
  of_promise_there s (Value.Ptr (Pointer.Func f)) = refl
  of_promise_there s Value.Poison = refl
  of_promise_there s (Value.Int x) = refl

  from_there : (s : State) (p : Value) (b : Bool) → (if b then frame_of_promise h s p else promise_of_frame h s p) ≡ (if b then frame_of_promise g s p else promise_of_frame g s p)
  from_there s p true = of_promise_there s p
  from_there s p false = of_frame_there s p

  save_there : (s : State) → ((the s.top.func).coroutine ≡ true → IsTrue (is_call_at (the s.top.func) Intrinsic.CoroSave (point_of s))) → save h s ≡ save g s
  save_there s is_save =
      by_function m ok sizes answers (λ f. and_then (found Cause.State (suspend_of f (point_of s))) (λ suspend. and_then (save_for s (point_of s) suspend) (λ t. Ok (next t)))) s.top.func
      (λ c. ap (λ (o : Option Point). and_then (found Cause.State o) (λ suspend. and_then (save_for s (point_of s) suspend) (λ t. Ok (next t)))) (suspend_same (renaming_of (the s.top.func)) (the s.top.func) (ok s.top.func c) (point_of s) (is_save c)))

  coro_there : (s : State) (i : Intrinsic) (args : List Arg) (vs : List Value) (result : Option ℕ) → AreTrusted s → (i ≡ Intrinsic.CoroSave → (the s.top.func).coroutine ≡ true → IsTrue (is_call_at (the s.top.func) Intrinsic.CoroSave (point_of s))) → coro h (continue h) s i args vs result ≡ coro g (continue g) s i args vs result
  coro_there s Intrinsic.CoroSave args vs result trust is_save = save_there s (is_save refl)
  coro_there s Intrinsic.CoroResume args vs result trust is_save = resume_there s (nth vs 0) trust
  coro_there s Intrinsic.CoroDestroy args vs result trust is_save = destroy_there s (nth vs 0) trust
  coro_there s Intrinsic.CoroDone args vs result trust is_save = done_there s result (nth vs 0)
  coro_there s Intrinsic.CoroPromise args vs result trust is_save = ap (λ (o : Result Value Cause). and_then o (λ v. Ok (gives s result v))) (from_there s (nth vs 0) (is_true (operand_at args 2)))
  coro_there s Intrinsic.CoroId args vs result trust is_save = refl
  coro_there s Intrinsic.CoroSizeI32 args vs result trust is_save = refl
  coro_there s Intrinsic.CoroSizeI64 args vs result trust is_save = refl
  coro_there s Intrinsic.CoroAlignI32 args vs result trust is_save = refl
  coro_there s Intrinsic.CoroAlignI64 args vs result trust is_save = refl
  coro_there s Intrinsic.CoroAlloc args vs result trust is_save = refl
  coro_there s Intrinsic.CoroBegin args vs result trust is_save = refl
  coro_there s Intrinsic.CoroFree args vs result trust is_save = refl
  coro_there s Intrinsic.CoroFrame args vs result trust is_save = refl
  coro_there s Intrinsic.CoroSuspend args vs result trust is_save = refl
  coro_there s Intrinsic.CoroEnd args vs result trust is_save = refl
  coro_there s Intrinsic.LifetimeStart args vs result trust is_save = refl
  coro_there s Intrinsic.LifetimeEnd args vs result trust is_save = refl
  coro_there s Intrinsic.MemcpyI64 args vs result trust is_save = refl
  coro_there s Intrinsic.MemcpyI32 args vs result trust is_save = refl

  -- ---- branches

  leave_there : (s : State) (label : ℕ) (ws : List Window) → AgreeOn m ok sizes answers s.top.func s.top.values s.top.block label → branch_leaving h s label ws ≡ branch_leaving g s label ws
  leave_there s label [] agree = ap Ok (enter_same m ok sizes answers s label agree)
  leave_there s label (w ∷ ws) agree = λ k.
      and_then (found Cause.State (own_instance s)) (λ (i, x).
      ok_if (list_all (may_leave (length s.below) x) (w ∷ ws)) Cause.State
      (enter_same m ok sizes answers (with_left (with_status s i x Status.Running) false) label agree k))

  go_there : (s : State) (label : ℕ) → AgreeOn m ok sizes answers s.top.func s.top.values s.top.block label → go_to h s label ≡ go_to g s label
  go_there s label agree =
      by_function m ok sizes answers (λ f. branch_leaving h s label (filter (leaves (point_of s) (entry_point f label)) (facts_at (all_facts m) s.top.func).windows)) s.top.func
      (λ c. ap (λ (q : Point). branch_leaving h s label (filter (leaves (point_of s) q) (facts_at (all_facts m) s.top.func).windows)) (entry_same (renaming_of (the s.top.func)) (the s.top.func) label))
      ∙ leave_there s label (filter (leaves (point_of s) (entry_point (the s.top.func) label)) (facts_at (all_facts m) s.top.func).windows) agree

  -- ---- an action

  -- what has to be the same for an action
  pub record IsTrusted (s : State) (a : Action) : Type 0 where
    pub edges : (label : ℕ) → a ≡ GoTo label → AgreeOn m ok sizes answers s.top.func s.top.values s.top.block label
    pub sleepers : AreTrusted s
    pub saves : (args : List Arg) (result : Option ℕ) → a ≡ Coro Intrinsic.CoroSave args result → (the s.top.func).coroutine ≡ true → IsTrue (is_call_at (the s.top.func) Intrinsic.CoroSave (point_of s))

  args_there : (s : State) (args : List Arg) → arg_values (renamed_module m) s.top.values args ≡ arg_values m s.top.values args
  args_there s args = map_same (arg_value (renamed_module m) s.top.values) (arg_value m s.top.values) (λ a. operand_there renamed_function mild m s.top.values a.ty a.value) args

  act_there : (s : State) (a : Action) → IsTrusted s a → act h (continue h) s a ≡ act g (continue g) s a
  act_there s (Done w) t = refl
  act_there s (NewSlot w slot) t = refl
  act_there s (Enter func args result must_tail) t =
      by_function m ok sizes answers (λ f. Ok (push s (record (called m func args result (mode_of f)) { values = entry_values f args }))) func (λ c. refl)
  act_there s (Coro i args result) t =
      ap (λ (vs : List Value). coro h (continue h) s i args vs result) (args_there s args)
      ∙ coro_there s i args (arg_values m s.top.values args) result t.sleepers (λ e c. t.saves args result (ap (λ (j : Intrinsic). Coro j args result) e) c)
  act_there s (Deallocate p) t = refl
  act_there s (GoTo label) t = go_there s label (t.edges label refl)
  act_there s (Return v) t = refl
  act_there s (Stuck cause) t = refl

  -- a coro intrinsic with renamed arguments
  renamed_coro : (s : State) (c : Function) (i : Intrinsic) (args : List Arg) (result : Option ℕ) → Each (IsSame (renaming_of c) s.top.values) (values_of args) → act h (continue h) s (Coro i (map (renamed_arg (renaming_of c)) args) result) ≡ act h (continue h) s (Coro i args result)
  renamed_coro s c i args result same =
      ap (λ (vs : List Value). coro h (continue h) s i (map (renamed_arg (renaming_of c)) args) vs result) (same_args (renaming_of c) (renamed_module m) s.top.values args same)
      ∙ on i
    where
      on : (i : Intrinsic) → coro h (continue h) s i (map (renamed_arg (renaming_of c)) args) (arg_values (renamed_module m) s.top.values args) result ≡ coro h (continue h) s i args (arg_values (renamed_module m) s.top.values args) result
      on Intrinsic.CoroSuspend = ap (λ (o : Result State Cause). and_then o (λ t. Ok (gives t result (integer 8 (negsuc 0))))) (ap (save_before s) (operand_at_same (renaming_of c) args 0) ∙ save_same (renaming_of c) s (operand_at args 0))
      on Intrinsic.CoroPromise = ap (λ (b : Bool). and_then (if b then frame_of_promise h s (nth (arg_values (renamed_module m) s.top.values args) 0) else promise_of_frame h s (nth (arg_values (renamed_module m) s.top.values args) 0)) (λ v. Ok (gives s result v))) (ap is_true (operand_at_same (renaming_of c) args 2) ∙ true_same (renaming_of c) (operand_at args 2))
      on _ = refl

  -- ---- a step

  abbrev here_of : State → Fetched
  here_of s = fetch (the s.top.func) s.top.block s.top.at

  abbrev context_in : Module → Function → Context
  context_in code f = record { code = code; answers = answers; rights = owner_rights; function = f }

  abbrev action : State → Action
  action s = action_of (context_in m (the s.top.func)) (work_of s) (here_of s)

  -- what stands at a place, with its operands renamed; coro.end reads none of them
  acted_same : (s : State) (f : Function) (here : Fetched) → Agree (renaming_of f) s.top.values (operands_read here) → act h (continue h) s (action_of (context_in m f) (work_of s) (renamed_fetched (renaming_of f) here)) ≡ act h (continue h) s (action_of (context_in m f) (work_of s) here)
  acted_same s f Nowhere agree = refl
  acted_same s f (AtTerm t) agree = same_action (renaming_of f) (context_in m f) (work_of s) (act h (continue h) s) (renamed_coro s f) (AtTerm t) (same_all (renaming_of f) s.top.values (operands_of_term t) agree)
  acted_same s f (AtInstr i) agree = on (is_call_of Intrinsic.CoroEnd i) refl agree
    where
      at_end : (i : Instr) → is_call_of Intrinsic.CoroEnd i ≡ true → act h (continue h) s (action_of (context_in m f) (work_of s) (AtInstr (renamed_instr (renaming_of f) i))) ≡ act h (continue h) s (action_of (context_in m f) (work_of s) (AtInstr i))
      at_end (Instr.Call result must_tail ty (Callee.Intrinsic Intrinsic.CoroEnd) args) e = refl
      at_end _ e = absurd (cc)

      on : (b : Bool) → is_call_of Intrinsic.CoroEnd i ≡ b → Agree (renaming_of f) s.top.values (if b then [] else operands_of i) → act h (continue h) s (action_of (context_in m f) (work_of s) (AtInstr (renamed_instr (renaming_of f) i))) ≡ act h (continue h) s (action_of (context_in m f) (work_of s) (AtInstr i))
      on true e k = at_end i e
      on false e k = same_action (renaming_of f) (context_in m f) (work_of s) (act h (continue h) s) (renamed_coro s f) (AtInstr i) (same_all (renaming_of f) s.top.values (operands_of i) k)

  acted_there : (s : State) → ((the s.top.func).coroutine ≡ true → Agree (renaming_of (the s.top.func)) s.top.values (operands_read (here_of s))) → IsTrusted s (action s) → act h (continue h) s (action_of (context_in (renamed_module m) (function_at (renamed_module m) s.top.func)) (work_of s) (fetch (function_at (renamed_module m) s.top.func) s.top.block s.top.at)) ≡ act g (continue g) s (action s)
  acted_there s agree trust =
      ap (act h (continue h) s) (action_there renamed_function mild m (the s.top.func) (function_at (renamed_module m) s.top.func) answers owner_rights
      (by_function m ok sizes answers (λ f. f.coroutine) s.top.func (λ c. refl))
      (λ alloca. by_function m ok sizes answers (λ f. has_markers f alloca) s.top.func (λ c. markers_same (renaming_of (the s.top.func)) (the s.top.func) (ok s.top.func c) alloca))
      (work_of s) (fetch (function_at (renamed_module m) s.top.func) s.top.block s.top.at))
      ∙ by_function m ok sizes answers (λ f. act h (continue h) s (action_of (context_in m (the s.top.func)) (work_of s) (fetch f s.top.block s.top.at))) s.top.func
      (λ c.
      let f = the s.top.func in
      ap (λ (here : Fetched). act h (continue h) s (action_of (context_in m f) (work_of s) here)) (fetch_same (renaming_of f) f s.top.block s.top.at)
      ∙ acted_same s f (here_of s) (agree c))
      ∙ act_there s (action s) trust

  undefined_there : (s : State) (o : Result State Cause) → or_undefined h s o ≡ or_undefined g s o
  undefined_there s (Ok t) = refl
  undefined_there s (Err cause) = by_function m ok sizes answers (λ f. record s { outcome = Outcome.Undefined cause (place_at s.top.func f s.top.block s.top.at) }) s.top.func (λ c. ap (λ p. record s { outcome = Outcome.Undefined cause p }) (place_same (renaming_of (the s.top.func)) (the s.top.func) s.top.func s.top.block s.top.at))

  pub step_there : (s : State) → s.outcome ≡ Outcome.Running → ((the s.top.func).coroutine ≡ true → Agree (renaming_of (the s.top.func)) s.top.values (operands_read (here_of s))) → IsTrusted s (action s) → step h s ≡ step g s
  step_there s runs agree trust =
      ap (advance_by h (continue h) s) runs
      ∙ ap (or_undefined h s) (acted_there s agree trust)
      ∙ undefined_there s (act g (continue g) s (action s))
      ∙ ap (advance_by g (continue g) s) (sym runs)
