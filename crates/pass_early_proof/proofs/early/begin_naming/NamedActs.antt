-- What an action does where begins are named: the same, but for a value behind those of the function's names.
use Rattle.std.proofs.Common.{◌≡◌, ℕ, ◌≤◌, Bool, true, false, List, [], ◌∷◌, ◌++◌, length, take, refl, sym, ap, ◌∙◌, subst, length-append, arith}
use Rattle.std.specs.List.{list_all}
use Rattle.std.specs.Option.{option_map_or}
use Rattle.std.specs.Prelude.{ℤ, Some, None, Ok, Err, Option, Result, filter, find, is_none, map, not, option_and_then, option_map, replicate, slice_get, unwrap_or, if◌then◌else◌, ◌==◌}
use Rattle.rule_laws.specs.run_memory.Memory.{own, owner_rights}
use Rattle.rule_laws.specs.run_memory.declared.block.Kind.{Kind}
use Rattle.rule_laws.specs.run_memory.declared.block.MemoryBlock.{MemoryBlock}
use Rattle.rule_laws.specs.run_memory.declared.pointer.Pointer.{Pointer}
use Rattle.rule_laws.specs.run_memory.declared.pointer.Value.{Value}
use Rattle.rule_laws.specs.ir_base.declared.cause.Cause.{Cause}
use Rattle.rule_laws.specs.ir_base.declared.outcome.Outcome.{Outcome}
use Rattle.rule_laws.specs.run_source.Source.{Sleeper, act, advance_by, begin, begin_at, begun, block_of_slot, branch_leaving, called, continue, coro, destroy, done_at, enter, enter_block, frame_of_promise, given, go_to, is_live_at, is_over, may_leave, mode_of, promise_block, promise_of_frame, push, resume, resumed, save, save_for, sleeper_at, step}
use Rattle.rule_laws.specs.run_source.State.{frame_address_of, gives, instance_at, next, or_undefined, own_frame, own_instance, point_of, with_left, with_memory, with_status, work_of}
use Rattle.rule_laws.specs.run_source.declared.state.Activation.{Activation}
use Rattle.rule_laws.specs.run_source.declared.state.Instance.{Instance}
use Rattle.rule_laws.specs.run_source.declared.state.Mode.{Mode}
use Rattle.rule_laws.specs.run_source.declared.state.State.{State}
use Rattle.rule_laws.specs.run_source.declared.state.Status.{Status}
use Rattle.pass_early_proof.proofs.early.begin_naming.NamedParts.{block_same, destroy_same, entry_same, fetch_same, label_same, named_fetched, position_same, resume_same, with_begin}
use Rattle.pass_early_proof.proofs.early.begin_naming.NamedSlots.{begin_unnamed, facts_same, final_same, has_final_same, markers_same, place_same, promise_same, suspend_same}
use Rattle.run_states.proofs.shortened.Short.{blank_short, params_short, set_behind}
use Rattle.run_states.specs.shortened.Shortened.{short_activation, short_result, short_state}
use Rattle.rule_laws.proofs.ir_laws.facts.Members.{each_there}
use Rattle.run_states.proofs.renamed.Modules.{IsMild, action_there, function_there, operand_there}
use Rattle.rule_laws.proofs.ir_laws.facts.Lists.{map_same}
use Rattle.pass_early_proof.specs.early.renaming.Passes.{named_function, named_module}
use Rattle.pass_early.specs.BeginName.{begin_name, if_unnamed, named_block, named_instr, with_begin_name}
use Rattle.ir_model.specs.Calls.{first_result, result_of_call}
use Rattle.ir_model.specs.Names.{function_at, no_function, position_of}
use Rattle.ir_model.specs.declared.instr.Instr.{Instr}
use Rattle.ir_model.specs.declared.module.Block.{Block}
use Rattle.ir_model.specs.declared.module.Frame.{Frame}
use Rattle.ir_model.specs.declared.module.Function.{Function}
use Rattle.ir_model.specs.declared.module.Module.{Module}
use Rattle.ir_model.specs.declared.operand.Arg.{Arg}
use Rattle.ir_model.specs.declared.operand.Callee.{Callee}
use Rattle.ir_model.specs.declared.operand.Intrinsic.{Intrinsic}
use Rattle.rule_laws.specs.ir_paths.Facts.{all_facts, facts_of}
use Rattle.rule_laws.specs.ir_paths.Paths.{entry_point}
use Rattle.rule_laws.specs.ir_paths.Slots.{promise_of}
use Rattle.rule_laws.specs.ir_paths.Windows.{destroy_label, leaves, operand_at, resume_label, suspend_of}
use Rattle.rule_laws.specs.ir_paths.declared.point.Point.{Point}
use Rattle.rule_laws.specs.ir_paths.declared.point.Window.{Window}
use Rattle.rule_laws.specs.run_step.Results.{and_then, found, ok_if}
use Rattle.rule_laws.specs.run_step.Step.{Action, Context, Coro, Deallocate, Done, Enter, Fetched, GoTo, NewSlot, Return, Stuck, action_of, block_of, entry_values, fetch, has_markers, incoming_from, instr_action, label_of, phis_of, place_at, values_in, with_all, with_params}
use Rattle.rule_laws.specs.run_step.Values.{Env, arg_value, arg_values, nth, pointer_to, truth_value}
use Rattle.rule_laws.specs.ir_laws.facts.sound_states.Named.{AreUsesNamed, HasNamedUses}
use Rattle.rule_laws.specs.run_source_tables.Given.{Given, facts_at, has_final, is_final, is_true}
use Rattle.rule_laws.proofs.ir_laws.paths.renamed.Fits.{AnInstr, ATerm, Nothing, Stands, stands}
use Rattle.rule_laws.specs.run_laws.changed.Changed.{Each}

-- ---- functions

pub mild : IsMild named_function
mild = record { name = λ f. name f f.coroutine; result = λ f. result f f.coroutine; params = λ f. params f f.coroutine }
  where
    name_in : (f : Function) (o : Option ℕ) → (if_unnamed o f).name ≡ f.name
    name_in f None = refl
    name_in f (Some k) = refl

    result_in : (f : Function) (o : Option ℕ) → (if_unnamed o f).result ≡ f.result
    result_in f None = refl
    result_in f (Some k) = refl

    params_in : (f : Function) (o : Option ℕ) → (if_unnamed o f).params ≡ f.params
    params_in f None = refl
    params_in f (Some k) = refl

    name : (f : Function) (b : Bool) → (if b then with_begin_name f else f).name ≡ f.name
    name f true = name_in f (first_result Intrinsic.CoroBegin f)
    name f false = refl

    result : (f : Function) (b : Bool) → (if b then with_begin_name f else f).result ≡ f.result
    result f true = result_in f (first_result Intrinsic.CoroBegin f)
    result f false = refl

    params : (f : Function) (b : Bool) → (if b then with_begin_name f else f).params ≡ f.params
    params f true = params_in f (first_result Intrinsic.CoroBegin f)
    params f false = refl

-- what is the same where begins without a name get one is the same of the function that the pass makes
pub by_function : {A : Type 0} (P : Function → A) (f : Function) → (first_result Intrinsic.CoroBegin f ≡ None → P (with_begin (length f.names) f) ≡ P f) → P (named_function f) ≡ P f
by_function P f h = on f.coroutine
  where
    named : (o : Option ℕ) → first_result Intrinsic.CoroBegin f ≡ o → P (if_unnamed o f) ≡ P f
    named None e = h e
    named (Some k) e = refl

    on : (b : Bool) → P (if b then with_begin_name f else f) ≡ P f
    on true = named (first_result Intrinsic.CoroBegin f) refl
    on false = refl

module _ (m : Module) (uses : AreUsesNamed m) (sizes : List Frame) (answers : List ℤ) where
  abbrev m2 : Module
  m2 = named_module m

  abbrev the : ℕ → Function
  the func = function_at m func

  abbrev g : Given
  g = given m sizes answers

  -- the module with names, and the facts of the module
  abbrev h : Given
  h = record { code = m2; sizes = sizes; answers = answers; facts = all_facts m }

  abbrev short : State → State
  short s = short_state m s

  abbrev cut_result : Result State Cause → Result State Cause
  cut_result r = short_result m r

  by_function_at : {A : Type 0} (P : Function → A) (func : ℕ) → (first_result Intrinsic.CoroBegin (the func) ≡ None → P (with_begin (length (the func).names) (the func)) ≡ P (the func)) → P (function_at m2 func) ≡ P (the func)
  by_function_at P func k = ap P (function_there named_function mild m refl func) ∙ by_function P (the func) k

  -- ---- facts

  facts_by : (k : ℕ) (f : Function) → slice_get m.functions k ≡ Some f → facts_of (named_function f) ≡ facts_of f
  facts_by k f e = by_function facts_of f (λ none. facts_same f (subst_uses k f e).operands none)
    where
      subst_uses : (k : ℕ) (f : Function) → slice_get m.functions k ≡ Some f → HasNamedUses f
      subst_uses k f e = let is : the k ≡ f = ap (λ (o : Option Function). unwrap_or o no_function) e in subst HasNamedUses is (uses k)

  map_facts : (fs : List Function) → Each (λ f. facts_of (named_function f) ≡ facts_of f) fs → map facts_of (map named_function fs) ≡ map facts_of fs
  map_facts [] k = refl
  map_facts (f ∷ fs) k = λ i. k.0 i ∷ map_facts fs k.1 i

  pub facts_all : all_facts m2 ≡ all_facts m
  facts_all = map_facts m.functions (each_there (λ f. facts_of (named_function f) ≡ facts_of f) m.functions facts_by)

  -- ---- entering a block

  abbrev entered : State → ℕ → Module → Function → State
  entered s label code f =
      record s { top = record s.top { block = position_of f label; at = 0; values = values_in code (slice_get f.blocks (position_of f label)) (label_of (slice_get f.blocks s.top.block)) s.top.values } }

  entered_there : (s : State) (label : ℕ) (f : Function) → entered s label m2 f ≡ entered s label m f
  entered_there s label f = λ k.
      record s { top = record s.top { block = position_of f label; at = 0; values = with_all s.top.values (map (λ p. (p.result, operand_there named_function mild m s.top.values p.ty (incoming_from p.incoming (label_of (slice_get f.blocks s.top.block))) k)) (phis_of (slice_get f.blocks (position_of f label)))) } }

  values_same : (n : ℕ) (o : Option Block) (label : ℕ) (env : Env) → values_in m (option_map (named_block n) o) label env ≡ values_in m o label env
  values_same n None label env = refl
  values_same n (Some b) label env = refl

  entered_named : (s : State) (label n : ℕ) (f : Function) → entered s label m (with_begin n f) ≡ entered s label m f
  entered_named s label n f =
      let b : ℕ = position_of f label in
      (λ k. entered_by (position_same n f label k) (slice_get (with_begin n f).blocks (position_same n f label k)) (slice_get (with_begin n f).blocks s.top.block))
      ∙ (λ k. entered_by b (block_same n f b k) (block_same n f s.top.block k))
      ∙ ap (λ (l : ℕ). entered_at b l (option_map (named_block n) (slice_get f.blocks b))) (label_same n (slice_get f.blocks s.top.block))
      ∙ ap (λ (env : Env). record s { top = record s.top { block = b; at = 0; values = env } }) (values_same n (slice_get f.blocks b) (label_of (slice_get f.blocks s.top.block)) s.top.values)
    where
      entered_at : ℕ → ℕ → Option Block → State
      entered_at b l o = record s { top = record s.top { block = b; at = 0; values = values_in m o l s.top.values } }

      entered_by : ℕ → Option Block → Option Block → State
      entered_by b o from = entered_at b (label_of from) o

  enter_same : (s : State) (label : ℕ) → enter_block h s label ≡ enter_block g s label
  enter_same s label =
      entered_there s label (function_at m2 s.top.func)
      ∙ by_function_at (entered s label m) s.top.func (λ none. entered_named s label (length (the s.top.func).names) (the s.top.func))

  -- ---- branches

  leave_there : (s : State) (label : ℕ) (ws : List Window) → branch_leaving h s label ws ≡ branch_leaving g s label ws
  leave_there s label [] = ap Ok (enter_same s label)
  leave_there s label (w ∷ ws) = λ k.
      and_then (found Cause.State (own_instance s)) (λ (i, x).
      ok_if (list_all (may_leave (length s.below) x) (w ∷ ws)) Cause.State
      (enter_same (with_left (with_status s i x Status.Running) false) label k))

  go_there : (s : State) (label : ℕ) → go_to h s label ≡ go_to g s label
  go_there s label =
      by_function_at (λ f. branch_leaving h s label (filter (leaves (point_of s) (entry_point f label)) (facts_at (all_facts m) s.top.func).windows)) s.top.func
      (λ none. ap (λ (q : Point). branch_leaving h s label (filter (leaves (point_of s) q) (facts_at (all_facts m) s.top.func).windows)) (entry_same (length (the s.top.func).names) (the s.top.func) label))
      ∙ leave_there s label (filter (leaves (point_of s) (entry_point (the s.top.func) label)) (facts_at (all_facts m) s.top.func).windows)

  -- ---- calls of coroutines

  goes_on : (s : State) (y : Sleeper) (label : ℕ) → continue h s y.number y.instance y.suspend y.values label ≡ continue g s y.number y.instance y.suspend y.values label
  goes_on s y label = enter_same (push (with_status s y.number y.instance Status.Running) (resumed y.number y.instance y.suspend y.values)) label

  resume_there : (s : State) (p : Value) → resume h (continue h) s p ≡ resume g (continue g) s p
  resume_there s p = on (sleeper_at s p)
    where
      on : (o : Result Sleeper Cause) → and_then o (λ y. let f = function_at m2 y.instance.coroutine in ok_if (not (is_final f y.suspend)) Cause.State (continue h s y.number y.instance y.suspend y.values (resume_label f y.suspend))) ≡ and_then o (λ y. let f = the y.instance.coroutine in ok_if (not (is_final f y.suspend)) Cause.State (continue g s y.number y.instance y.suspend y.values (resume_label f y.suspend)))
      on (Err cause) = refl
      on (Ok y) =
          by_function_at (λ f. ok_if (not (is_final f y.suspend)) Cause.State (continue h s y.number y.instance y.suspend y.values (resume_label f y.suspend))) y.instance.coroutine
          (λ none. let f = the y.instance.coroutine in let n = length f.names in λ k. ok_if (not (final_same n f y.suspend k)) Cause.State (continue h s y.number y.instance y.suspend y.values (resume_same n f y.suspend k)))
          ∙ ap (ok_if (not (is_final (the y.instance.coroutine) y.suspend)) Cause.State) (goes_on s y (resume_label (the y.instance.coroutine) y.suspend))

  destroy_there : (s : State) (p : Value) → destroy h (continue h) s p ≡ destroy g (continue g) s p
  destroy_there s p = on (sleeper_at s p)
    where
      on : (o : Result Sleeper Cause) → and_then o (λ y. Ok (continue h s y.number y.instance y.suspend y.values (destroy_label (function_at m2 y.instance.coroutine) y.suspend))) ≡ and_then o (λ y. Ok (continue g s y.number y.instance y.suspend y.values (destroy_label (the y.instance.coroutine) y.suspend)))
      on (Err cause) = refl
      on (Ok y) =
          by_function_at (λ f. Ok (continue h s y.number y.instance y.suspend y.values (destroy_label f y.suspend))) y.instance.coroutine
          (λ none. let f = the y.instance.coroutine in λ k. Ok (continue h s y.number y.instance y.suspend y.values (destroy_same (length f.names) f y.suspend k)))
          ∙ ap Ok (goes_on s y (destroy_label (the y.instance.coroutine) y.suspend))

  done_there : (s : State) (result : Option ℕ) (p : Value) → done_at h s result p ≡ done_at g s result p
  done_there s result p = on (sleeper_at s p)
    where
      on : (o : Result Sleeper Cause) → and_then o (λ y. let f = function_at m2 y.instance.coroutine in ok_if (has_final f) Cause.State (gives s result (truth_value (is_final f y.suspend)))) ≡ and_then o (λ y. let f = the y.instance.coroutine in ok_if (has_final f) Cause.State (gives s result (truth_value (is_final f y.suspend))))
      on (Err cause) = refl
      on (Ok y) =
          by_function_at (λ f. ok_if (has_final f) Cause.State (gives s result (truth_value (is_final f y.suspend)))) y.instance.coroutine
          (λ none. let f = the y.instance.coroutine in let n = length f.names in λ k. ok_if (has_final_same n f k) Cause.State (gives s result (truth_value (final_same n f y.suspend k))))

  promise_there : (x : Instance) → promise_block h x ≡ promise_block g x
  promise_there x = by_function_at (λ f. option_and_then (block_of_slot x.slots) (promise_of f)) x.coroutine (λ none. ap (option_and_then (block_of_slot x.slots)) (promise_same (length (the x.coroutine).names) (the x.coroutine)))

  of_frame_there : (s : State) (p : Value) → promise_of_frame h s p ≡ promise_of_frame g s p
  of_frame_there s p = λ k.
      and_then (found Cause.Frame (instance_at s.instances p)) (λ (i, x).
      and_then (found Cause.Promise (promise_there x k)) (λ b.
      ok_if (not (is_over x)) Cause.Dead (pointer_to b)))

  of_promise_there : (s : State) (p : Value) → frame_of_promise h s p ≡ frame_of_promise g s p
  of_promise_there s (Value.Ptr (Pointer.At b offset)) = λ k.
      and_then (found Cause.Promise (if offset.bits == 0 then find (λ x. option_map_or (λ c. b == c) (promise_there x k) false) s.instances else None)) (λ x.
      ok_if (is_live_at s.world.memory b) Cause.Promise (frame_address_of x))
  of_promise_there s (Value.Ptr Pointer.Null) = refl
  of_promise_there s (Value.Ptr (Pointer.Func f)) = refl
  of_promise_there s Value.Poison = refl
  of_promise_there s (Value.Int x) = refl

  from_there : (s : State) (p : Value) (b : Bool) → (if b then frame_of_promise h s p else promise_of_frame h s p) ≡ (if b then frame_of_promise g s p else promise_of_frame g s p)
  from_there s p true = of_promise_there s p
  from_there s p false = of_frame_there s p

  save_there : (s : State) → save h s ≡ save g s
  save_there s =
      by_function_at (λ f. and_then (found Cause.State (suspend_of f (point_of s))) (λ suspend. and_then (save_for s (point_of s) suspend) (λ t. Ok (next t)))) s.top.func
      (λ none. ap (λ (o : Option Point). and_then (found Cause.State o) (λ suspend. and_then (save_for s (point_of s) suspend) (λ t. Ok (next t)))) (suspend_same (the s.top.func) (uses s.top.func).operands none (point_of s)))

  coro_there : (s : State) (i : Intrinsic) (args : List Arg) (vs : List Value) (result : Option ℕ) → coro h (continue h) s i args vs result ≡ coro g (continue g) s i args vs result
  coro_there s Intrinsic.CoroSave args vs result = save_there s
  coro_there s Intrinsic.CoroResume args vs result = resume_there s (nth vs 0)
  coro_there s Intrinsic.CoroDestroy args vs result = destroy_there s (nth vs 0)
  coro_there s Intrinsic.CoroDone args vs result = done_there s result (nth vs 0)
  coro_there s Intrinsic.CoroPromise args vs result = ap (λ (o : Result Value Cause). and_then o (λ v. Ok (gives s result v))) (from_there s (nth vs 0) (is_true (operand_at args 2)))
  coro_there s _ args vs result = refl

  -- ---- calls of functions

  pub called_there : (func : ℕ) (args : List Value) (result : Option ℕ) (mode : Mode) → short_activation m (called m2 func args result mode) ≡ short_activation m (called m func args result mode)
  called_there func args result mode =
      ap called_by (function_there named_function mild m refl func)
      ∙ by_function called_by (the func) (λ none. ap (λ (env : Env). record (called_by (the func)) { values = env }) entry_cut)
    where
      n : ℕ
      n = length (the func).names

      called_by : Function → Activation
      called_by f = record (called m func args result mode) { values = take (length (the func).names) (entry_values f args) }

      cut_blank : (k : ℕ) → n ≤ k → take n (with_params (replicate k None) (the func).params args) ≡ with_params (replicate n None) (the func).params args
      cut_blank k le = sym (params_short n (replicate k None) (the func).params args) ∙ ap (λ (env : Env). with_params env (the func).params args) (blank_short n k le)

      entry_cut : take n (entry_values (with_begin n (the func)) args) ≡ take n (entry_values (the func) args)
      entry_cut =
          let len = length-append (the func).names (begin_name ∷ []) in
          cut_blank (length ((the func).names ++ begin_name ∷ [])) (omega (arith, len)) ∙ sym (cut_blank n (omega arith))

  call_there : (s : State) (func : ℕ) (args : List Value) (result : Option ℕ) → short (enter h s func args result) ≡ short (enter g s func args result)
  call_there s func args result =
      ap (λ (mode : Mode). short (push s (called m2 func args result mode))) (by_function_at mode_of func (λ none. refl))
      ∙ ap (λ (a : Activation). record (short (enter g s func args result)) { top = a }) (called_there func args result (mode_of (the func)))

  -- ---- an action

  args_there : (s : State) (args : List Arg) → arg_values m2 s.top.values args ≡ arg_values m s.top.values args
  args_there s args = map_same (arg_value m2 s.top.values) (arg_value m s.top.values) (λ a. operand_there named_function mild m s.top.values a.ty a.value) args

  act_there : (s : State) (a : Action) → cut_result (act h (continue h) s a) ≡ cut_result (act g (continue g) s a)
  act_there s (Done w) = refl
  act_there s (NewSlot w slot) = refl
  act_there s (Enter func args result must_tail) = ap Ok (call_there s func args result)
  act_there s (Coro i args result) =
      ap cut_result (ap (λ (vs : List Value). coro h (continue h) s i args vs result) (args_there s args)
      ∙ coro_there s i args (arg_values m s.top.values args) result)
  act_there s (Deallocate p) = refl
  act_there s (GoTo label) = ap cut_result (go_there s label)
  act_there s (Return v) = refl
  act_there s (Stuck cause) = refl

  -- ---- begin

  gives_cut : (t : State) (k : ℕ) (v : Value) → length (the t.top.func).names ≤ k → short (gives t (Some k) v) ≡ short (gives t None v)
  gives_cut t k v le = ap (λ (env : Env). record (short (gives t None v)) { top = record (short_activation m (gives t None v).top) { values = env } }) (set_behind (length (the t.top.func).names) t.top.values k v le)

  begin_cut : (s : State) (k : ℕ) (mem : Value) → length (the s.top.func).names ≤ k → cut_result (begin h s (Some k) mem) ≡ cut_result (begin h s None mem)
  begin_cut s k mem le = on (is_none s.top.instance)
    where
      at_block : (memory : List MemoryBlock) (o : Option ℕ) → cut_result (and_then (and_then (found Cause.Begin o) (λ (b : ℕ). Ok (begun h (with_memory s memory) b 0))) (λ (u : State). Ok (gives u (Some k) mem))) ≡ cut_result (and_then (and_then (found Cause.Begin o) (λ (b : ℕ). Ok (begun h (with_memory s memory) b 0))) (λ (u : State). Ok (gives u None mem)))
      at_block memory None = refl
      at_block memory (Some b) = ap Ok (gives_cut (begun h (with_memory s memory) b 0) k mem le)

      owned : (r : Result (List MemoryBlock) Cause) → cut_result (and_then (and_then r (λ (memory : List MemoryBlock). and_then (found Cause.Begin (block_of mem)) (λ (b : ℕ). Ok (begun h (with_memory s memory) b 0)))) (λ (u : State). Ok (gives u (Some k) mem))) ≡ cut_result (and_then (and_then r (λ (memory : List MemoryBlock). and_then (found Cause.Begin (block_of mem)) (λ (b : ℕ). Ok (begun h (with_memory s memory) b 0)))) (λ (u : State). Ok (gives u None mem)))
      owned (Err cause) = refl
      owned (Ok memory) = at_block memory (block_of mem)

      on : (b : Bool) → cut_result (and_then (ok_if b Cause.Begin s) (λ (t : State). and_then (begin_at h t mem Kind.Allocator) (λ (u : State). Ok (gives u (Some k) mem)))) ≡ cut_result (and_then (ok_if b Cause.Begin s) (λ (t : State). and_then (begin_at h t mem Kind.Allocator) (λ (u : State). Ok (gives u None mem))))
      on false = refl
      on true = owned (own s.world.memory mem (own_frame h s).size Kind.Allocator)

  -- ---- a step

  abbrev context_in : Module → Function → Context
  context_in code f = record { code = code; answers = answers; rights = owner_rights; function = f }

  abbrev here_of : State → Fetched
  here_of s = fetch (the s.top.func) s.top.block s.top.at

  -- what an instruction does, cut
  abbrev does : State → Instr → Result State Cause
  does s i = cut_result (act h (continue h) s (instr_action (context_in m (the s.top.func)) (work_of s) i))

  instr_cut : (s : State) (n : ℕ) → length (the s.top.func).names ≤ n → (i : Instr) → result_of_call Intrinsic.CoroBegin i ≡ None → does s (named_instr n i) ≡ does s i
  instr_cut s n le (Instr.Call result must_tail ty (Callee.Intrinsic Intrinsic.CoroBegin) args) e =
      begin_cut s n (nth (arg_values m2 s.top.values args) 1) le
      ∙ ap (λ (o : Option ℕ). cut_result (begin h s o (nth (arg_values m2 s.top.values args) 1))) (sym e)
  instr_cut s n le i e = refl

  fetched_cut : (s : State) (n : ℕ) → length (the s.top.func).names ≤ n → first_result Intrinsic.CoroBegin (the s.top.func) ≡ None → (here : Fetched) → Stands (the s.top.func) (point_of s) here → cut_result (act h (continue h) s (action_of (context_in m (the s.top.func)) (work_of s) (named_fetched n here))) ≡ cut_result (act h (continue h) s (action_of (context_in m (the s.top.func)) (work_of s) here))
  fetched_cut s n le none _ Nothing = refl
  fetched_cut s n le none _ (AnInstr i e) = instr_cut s n le i (begin_unnamed (the s.top.func) none (point_of s) i e)
  fetched_cut s n le none _ (ATerm b e at last) = refl

  acted_there : (s : State) → cut_result (act h (continue h) s (action_of (context_in m2 (function_at m2 s.top.func)) (work_of s) (fetch (function_at m2 s.top.func) s.top.block s.top.at))) ≡ cut_result (act g (continue g) s (action_of (context_in m (the s.top.func)) (work_of s) (here_of s)))
  acted_there s =
      ap (λ (a : Action). cut_result (act h (continue h) s a)) (action_there named_function mild m (the s.top.func) (function_at m2 s.top.func) answers owner_rights
      (by_function_at (λ f. f.coroutine) s.top.func (λ none. refl))
      (λ alloca. by_function_at (λ f. has_markers f alloca) s.top.func (λ none. markers_same (length (the s.top.func).names) (the s.top.func) alloca))
      (work_of s) (fetch (function_at m2 s.top.func) s.top.block s.top.at))
      ∙ by_function_at (λ f. cut_result (act h (continue h) s (action_of (context_in m (the s.top.func)) (work_of s) (fetch f s.top.block s.top.at)))) s.top.func
      (λ none.
      let f = the s.top.func in
      ap (λ (here : Fetched). cut_result (act h (continue h) s (action_of (context_in m f) (work_of s) here))) (fetch_same (length f.names) f s.top.block s.top.at)
      ∙ fetched_cut s (length f.names) (omega arith) none (here_of s) (stands f (point_of s)))
      ∙ act_there s (action_of (context_in m (the s.top.func)) (work_of s) (here_of s))

  undefined_cut : (k : Given) (s : State) (r : Result State Cause) → short (or_undefined k s r) ≡ or_undefined k (short s) (cut_result r)
  undefined_cut k s (Ok t) = refl
  undefined_cut k s (Err cause) = refl

  undefined_there : (s : State) (r : Result State Cause) → or_undefined h s r ≡ or_undefined g s r
  undefined_there s (Ok t) = refl
  undefined_there s (Err cause) = by_function_at (λ f. record s { outcome = Outcome.Undefined cause (place_at s.top.func f s.top.block s.top.at) }) s.top.func (λ none. ap (λ p. record s { outcome = Outcome.Undefined cause p }) (place_same (length (the s.top.func).names) (the s.top.func) s.top.func s.top.block s.top.at))

  -- a step of the module with names is a step of the module, but for what is cut
  pub step_there : (s : State) → short (step h s) ≡ short (step g s)
  step_there s = on s.outcome
    where
      on : (o : Outcome) → short (advance_by h (continue h) s o) ≡ short (advance_by g (continue g) s o)
      on Outcome.Running =
          undefined_cut h s (act h (continue h) s (action_of (context_in m2 (function_at m2 s.top.func)) (work_of s) (fetch (function_at m2 s.top.func) s.top.block s.top.at)))
          ∙ ap (or_undefined h (short s)) (acted_there s)
          ∙ undefined_there (short s) (cut_result (act g (continue g) s (action_of (context_in m (the s.top.func)) (work_of s) (here_of s))))
          ∙ sym (undefined_cut g s (act g (continue g) s (action_of (context_in m (the s.top.func)) (work_of s) (here_of s))))
      on (Outcome.Returned v) = refl
      on (Outcome.Undefined cause place) = refl
