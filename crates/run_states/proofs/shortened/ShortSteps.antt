-- A step of a state whose values are cut is the step, cut.
use Rattle.std.proofs.Common.{◌≡◌, ℕ, Bool, true, false, List, [], ◌∷◌, length, refl, sym, ap, ◌∙◌}
use Rattle.std.specs.Prelude.{Some, None, Ok, Err, Option, Result, map, option_map, slice_get, ◌==◌, pos}
use Rattle.ir_laws.specs.run_memory.Memory.{copy}
use Rattle.ir_laws.specs.run_memory.declared.pointer.Value.{Value}
use Rattle.ir_laws.specs.ir_base.declared.cause.Cause.{Cause}
use Rattle.ir_laws.specs.ir_base.declared.name.Name.{Name}
use Rattle.ir_laws.specs.ir_base.declared.outcome.Event.{Event}
use Rattle.ir_laws.specs.ir_base.declared.outcome.Outcome.{Outcome}
use Rattle.ir_laws.specs.run_source.Source.{act, advance_by, context_of, continue, coro, step}
use Rattle.ir_laws.specs.run_source.State.{function_of, or_undefined, own_frame, own_instance, settled, work_of}
use Rattle.ir_laws.specs.run_source.declared.state.State.{State}
use Rattle.run_states.proofs.shortened.Short.{args_short, operand_short, result_short}
use Rattle.run_states.proofs.shortened.ShortActs.{begin_short, deallocate_short, destroy_short, done_short, end_short, enter_call_short, frame_short, free_short, new_slot_short, promise_short, resume_short, return_short, save_short, suspend_short}
use Rattle.run_states.proofs.shortened.ShortStates.{gives_short, go_to_short}
use Rattle.run_states.specs.shortened.Shortened.{IsOwned, cut, short_result, short_state}
use Rattle.run_states.proofs.renamed.Fits.{Ends, Fits, ends, fits}
use Rattle.ir_laws.specs.ir_model.Names.{declaration_named, function_at}
use Rattle.ir_laws.specs.ir_model.declared.instr.Instr.{Instr}
use Rattle.ir_laws.specs.ir_model.declared.instr.Terminator.{Terminator}
use Rattle.ir_laws.specs.ir_model.declared.module.Block.{Block}
use Rattle.ir_laws.specs.ir_model.declared.module.Function.{Function}
use Rattle.ir_laws.specs.ir_model.declared.operand.Arg.{Arg}
use Rattle.ir_laws.specs.ir_model.declared.operand.Callee.{Callee}
use Rattle.ir_laws.specs.ir_model.declared.operand.Intrinsic.{Intrinsic}
use Rattle.ir_laws.specs.ir_model.declared.operand.Operand.{Operand}
use Rattle.ir_laws.specs.ir_paths.Windows.{is_call_of, operand_at}
use Rattle.ir_laws.specs.run_step.Step.{Action, AtInstr, AtTerm, Context, Coro, Deallocate, Done, Enter, Fetched, GoTo, NewSlot, Nowhere, Return, Stuck, Work, action_of, copied_bytes, done, fetch, fetch_in, fetch_or, instr_action, set_memory, term_action, with_length}
use Rattle.ir_laws.specs.run_step.Values.{Env, address, arg_values, integer, nth, truth_value}
use Rattle.ir_laws.proofs.facts.Members.{at_each as each_at}
use Rattle.ir_laws.specs.facts.expanded.Tokens.{IsNamed}
use Rattle.ir_laws.specs.facts.sound_states.Named.{AreUsesNamed, HasNamedUses}
use Rattle.ir_laws.specs.run_source_tables.Given.{Given}
use Rattle.ir_laws.proofs.run_laws.changed.Kept.{action_kept}
use Rattle.ir_laws.specs.run_laws.changed.Changed.{Change, Each, IsDeclaredAlike, IsSameOperand, callee_at, changed_action, changed_event, changed_work, operands_at, operands_of, operands_of_term, result_at, values_of}

-- ---- actions that are no calls of coroutines

abbrev IsNoCoro : Action → Type 0
IsNoCoro (Coro i args result) = ⊥
IsNoCoro _ = Unit {0}

fits_no_coro : (env : Env) (i : Instr) (a : Action) → ((j : Intrinsic) → is_call_of j i ≡ false) → Fits env i a → IsNoCoro a
fits_no_coro env i (Coro j args result) other fit = let e : true ≡ false = sym fit.0 ∙ other j in absurd (cc)
fits_no_coro env i (Done w) other fit = tt
fits_no_coro env i (NewSlot w slot) other fit = tt
fits_no_coro env i (Enter func args result must_tail) other fit = tt
fits_no_coro env i (Deallocate p) other fit = tt
fits_no_coro env i (GoTo label) other fit = tt
fits_no_coro env i (Return v) other fit = tt
fits_no_coro env i (Stuck cause) other fit = tt

ends_no_coro : (c : Context) (w : Work) (t : Terminator) (a : Action) → Ends c w t a → IsNoCoro a
ends_no_coro c w t (Coro j args result) end = end
ends_no_coro c w t (Done v) end = tt
ends_no_coro c w t (NewSlot v slot) end = tt
ends_no_coro c w t (Enter func args result must_tail) end = tt
ends_no_coro c w t (Deallocate p) end = tt
ends_no_coro c w t (GoTo label) end = tt
ends_no_coro c w t (Return v) end = tt
ends_no_coro c w t (Stuck cause) end = tt

length_no_coro : (v : Value) (go : ℕ → Action) → ((n : ℕ) → IsNoCoro (go n)) → IsNoCoro (with_length v go)
length_no_coro (Value.Int n) go h = h n.bits
length_no_coro Value.Poison go h = tt
length_no_coro (Value.Ptr p) go h = tt

done_no_coro : {A : Type 0} (f : A → Work) (r : Result A Cause) → IsNoCoro (done f r)
done_no_coro f (Err cause) = tt
done_no_coro f (Ok a) = tt

copied_no_coro : (c : Context) (w : Work) (vs : List Value) → IsNoCoro (copied_bytes c w vs)
copied_no_coro c w vs =
    length_no_coro (nth vs 2) (λ n. done (set_memory w) (copy c.rights w.world.memory (address (nth vs 0)) (address (nth vs 1)) n))
    (λ n. done_no_coro (set_memory w) (copy c.rights w.world.memory (address (nth vs 0)) (address (nth vs 1)) n))

-- ---- what stands at a place

uses_at : (f : Function) → HasNamedUses f → (block at : ℕ) → Each (IsNamed (length f.names)) (operands_at (fetch f block at))
uses_at f h block at = on (slice_get f.blocks block) refl
  where
    last : (b : Block) → Each (IsNamed (length f.names)) (operands_of_term b.term) → (t : Bool) → Each (IsNamed (length f.names)) (operands_at (fetch_or None t b.term))
    last b own true = own
    last b own false = tt

    instr : (b : Block) → slice_get f.blocks block ≡ Some b → (o : Option Instr) → slice_get b.instrs at ≡ o → Each (IsNamed (length f.names)) (operands_at (fetch_or o (at == length b.instrs) b.term))
    instr b e None d = last b (each_at (λ (b : Block). Each (IsNamed (length f.names)) (operands_of_term b.term)) f.blocks block b h.ends e) (at == length b.instrs)
    instr b e (Some i) d = each_at (λ (i : Instr). Each (IsNamed (length f.names)) (operands_of i)) b.instrs at i (each_at (λ (b : Block). Each (λ (i : Instr). Each (IsNamed (length f.names)) (operands_of i)) b.instrs) f.blocks block b h.operands e) d

    on : (o : Option Block) → slice_get f.blocks block ≡ o → Each (IsNamed (length f.names)) (operands_at (fetch_in o at))
    on None e = tt
    on (Some b) e = instr b e (slice_get b.instrs at) refl

module _ (g : Given) (named : AreUsesNamed g.code) where
  abbrev short : State → State
  short s = short_state g.code s

  -- ---- ordinary actions

  abbrev cutting : ℕ → Change
  cutting func = record { values = cut g.code func; declaration = λ d. d }

  abbrev short_work : ℕ → Work → Work
  short_work func w = record w { values = cut g.code func w.values }

  abbrev short_action : ℕ → Action → Action
  short_action func (Done w) = Done (short_work func w)
  short_action func (NewSlot w slot) = NewSlot (short_work func w) slot
  short_action func (Enter f args result must_tail) = Enter f args result must_tail
  short_action func (Coro i args result) = Coro i args result
  short_action func (Deallocate p) = Deallocate p
  short_action func (GoTo label) = GoTo label
  short_action func (Return v) = Return v
  short_action func (Stuck cause) = Stuck cause

  events_stay : (func : ℕ) (es : List Event) → map (changed_event (cutting func)) es ≡ es
  events_stay func [] = refl
  events_stay func (e ∷ es) = ap (λ (xs : List Event). e ∷ xs) (events_stay func es)

  work_cut : (func : ℕ) (w : Work) → changed_work (cutting func) w ≡ short_work func w
  work_cut func w = ap (λ (es : List Event). record { world = record w.world { events = es }; values = cut g.code func w.values }) (events_stay func w.world.events)

  action_cut : (func : ℕ) (a : Action) → changed_action (cutting func) a ≡ short_action func a
  action_cut func (Done w) = ap Done (work_cut func w)
  action_cut func (NewSlot w slot) = ap (λ (x : Work). NewSlot x slot) (work_cut func w)
  action_cut func (Enter f args result must_tail) = refl
  action_cut func (Coro i args result) = refl
  action_cut func (Deallocate p) = refl
  action_cut func (GoTo label) = refl
  action_cut func (Return v) = refl
  action_cut func (Stuck cause) = refl

  operands_cut : (s : State) (xs : List Operand) → Each (IsNamed (length (function_at g.code s.top.func).names)) xs → Each (IsSameOperand (cutting s.top.func) (context_of g s) (context_of g s) s.top.values) xs
  operands_cut s [] h = tt
  operands_cut s (x ∷ xs) h =
      (record { here = λ ty. operand_short g.code (length (function_at g.code s.top.func).names) s.top.values ty x h.0; nowhere = λ ty. refl }, operands_cut s xs h.1)

  callee_cut : (s : State) (o : Option Name) → IsDeclaredAlike (cutting s.top.func) (context_of g s) (context_of g s) o
  callee_cut s None = tt
  callee_cut s (Some n) = on (declaration_named g.code n)
    where
      on : (d : Option ℕ) → d ≡ option_map (λ k. k) d
      on None = refl
      on (Some k) = refl

  action_short : (s : State) (here : Fetched) → Each (IsNamed (length (function_at g.code s.top.func).names)) (operands_at here) → action_of (context_of g s) (short_work s.top.func (work_of s)) here ≡ short_action s.top.func (action_of (context_of g s) (work_of s) here)
  action_short s here h =
      ap (λ (x : Work). action_of (context_of g s) x here) (sym (work_cut s.top.func (work_of s)))
      ∙ action_kept (cutting s.top.func) (context_of g s) (context_of g s) (work_of s) here
      (record { types = refl; answers = refl; rights = refl; coroutine = refl; markers = λ alloca. refl; functions = λ n. refl; fits = λ ty args func. refl })
      (record { operands = operands_cut s (operands_at here) h; result = λ v. sym (result_short (length (function_at g.code s.top.func).names) s.top.values (result_at here) v); callee = callee_cut s (callee_at here) })
      ∙ action_cut s.top.func (action_of (context_of g s) (work_of s) here)

  -- ---- acting

  act_plain : (s : State) (a : Action) → IsNoCoro a → act g (continue g) (short s) (short_action s.top.func a) ≡ short_result g.code (act g (continue g) s a)
  act_plain s (Done w) h = refl
  act_plain s (NewSlot w slot) h = ap Ok (new_slot_short g named (settled s w) slot)
  act_plain s (Enter func args result must_tail) h = ap Ok (enter_call_short g named s func args result)
  act_plain s (Coro i args result) h = absurd h
  act_plain s (Deallocate p) h = deallocate_short g.code s p
  act_plain s (GoTo label) h = go_to_short g named s label
  act_plain s (Return v) h = return_short g.code s v
  act_plain s (Stuck cause) h = refl

  coro_short : (s : State) → IsOwned s (own_instance s) → (i : Intrinsic) (args : List Arg) (vs : List Value) (result : Option ℕ) → coro g (continue g) (short s) i args vs result ≡ short_result g.code (coro g (continue g) s i args vs result)
  coro_short s own Intrinsic.CoroId args vs result = refl
  coro_short s own Intrinsic.CoroSizeI32 args vs result = ap Ok (gives_short g.code s result (integer 32 (pos (own_frame g s).size)))
  coro_short s own Intrinsic.CoroSizeI64 args vs result = ap Ok (gives_short g.code s result (integer 64 (pos (own_frame g s).size)))
  coro_short s own Intrinsic.CoroAlignI32 args vs result = ap Ok (gives_short g.code s result (integer 32 (pos (own_frame g s).align)))
  coro_short s own Intrinsic.CoroAlignI64 args vs result = ap Ok (gives_short g.code s result (integer 64 (pos (own_frame g s).align)))
  coro_short s own Intrinsic.CoroAlloc args vs result = ap Ok (gives_short g.code s result (truth_value true))
  coro_short s own Intrinsic.CoroBegin args vs result = begin_short g named s result (nth vs 1)
  coro_short s own Intrinsic.CoroFree args vs result = ap Ok (free_short g.code s result)
  coro_short s own Intrinsic.CoroFrame args vs result = ap Ok (frame_short g.code s result)
  coro_short s own Intrinsic.CoroSave args vs result = save_short g.code g refl s own
  coro_short s own Intrinsic.CoroSuspend args vs result = suspend_short g.code s result (operand_at args 0) own
  coro_short s own Intrinsic.CoroEnd args vs result = end_short g.code s result
  coro_short s own Intrinsic.CoroResume args vs result = resume_short g named s (nth vs 0)
  coro_short s own Intrinsic.CoroDestroy args vs result = destroy_short g named s (nth vs 0)
  coro_short s own Intrinsic.CoroDone args vs result = done_short g named s result (nth vs 0)
  coro_short s own Intrinsic.CoroPromise args vs result = promise_short g named s result (nth vs 0) (operand_at args 2)
  coro_short s own Intrinsic.LifetimeStart args vs result = refl
  coro_short s own Intrinsic.LifetimeEnd args vs result = refl
  coro_short s own Intrinsic.MemcpyI64 args vs result = refl
  coro_short s own Intrinsic.MemcpyI32 args vs result = refl

  -- what an action does to both
  abbrev ActsAlike : State → Action → Type 0
  ActsAlike s a = act g (continue g) (short s) (short_action s.top.func a) ≡ short_result g.code (act g (continue g) s a)

  act_coro : (s : State) → IsOwned s (own_instance s) → (i : Intrinsic) (args : List Arg) (result : Option ℕ) → Each (IsNamed (length (function_at g.code s.top.func).names)) (values_of args) → ActsAlike s (Coro i args result)
  act_coro s own i args result h =
      ap (λ (vs : List Value). coro g (continue g) (short s) i args vs result) (args_short g.code (length (function_at g.code s.top.func).names) s.top.values args h)
      ∙ coro_short s own i args (arg_values g.code s.top.values args) result

  by_fits : (s : State) (i : Instr) → ((j : Intrinsic) → is_call_of j i ≡ false) → ActsAlike s (instr_action (context_of g s) (work_of s) i)
  by_fits s i other = act_plain s (instr_action (context_of g s) (work_of s) i) (fits_no_coro s.top.values i (instr_action (context_of g s) (work_of s) i) other (fits (context_of g s) (work_of s) i))

  act_instr : (s : State) → IsOwned s (own_instance s) → (i : Instr) → Each (IsNamed (length (function_at g.code s.top.func).names)) (operands_of i) → ActsAlike s (instr_action (context_of g s) (work_of s) i)
  act_instr s own (Instr.Binary name op flags ty a b) h = by_fits s (Instr.Binary name op flags ty a b) (λ j. refl)
  act_instr s own (Instr.Icmp name pred ty a b) h = by_fits s (Instr.Icmp name pred ty a b) (λ j. refl)
  act_instr s own (Instr.Select name x a b) h = by_fits s (Instr.Select name x a b) (λ j. refl)
  act_instr s own (Instr.Cast name op nneg arg to) h = by_fits s (Instr.Cast name op nneg arg to) (λ j. refl)
  act_instr s own (Instr.Alloca name ty align) h = by_fits s (Instr.Alloca name ty align) (λ j. refl)
  act_instr s own (Instr.Load name ty p align) h = by_fits s (Instr.Load name ty p align) (λ j. refl)
  act_instr s own (Instr.Store arg p align) h = by_fits s (Instr.Store arg p align) (λ j. refl)
  act_instr s own (Instr.Gep name inbounds ty base indices) h = by_fits s (Instr.Gep name inbounds ty base indices) (λ j. refl)
  act_instr s own (Instr.Call result must_tail ty (Callee.Named n) args) h = by_fits s (Instr.Call result must_tail ty (Callee.Named n) args) (λ j. refl)
  act_instr s own (Instr.Call result must_tail ty (Callee.Allocator a) args) h = by_fits s (Instr.Call result must_tail ty (Callee.Allocator a) args) (λ j. refl)
  act_instr s own (Instr.Call result must_tail ty (Callee.Local n) args) h = by_fits s (Instr.Call result must_tail ty (Callee.Local n) args) (λ j. refl)
  act_instr s own (Instr.Call result must_tail ty (Callee.Intrinsic Intrinsic.LifetimeStart) args) h = refl
  act_instr s own (Instr.Call result must_tail ty (Callee.Intrinsic Intrinsic.LifetimeEnd) args) h = refl
  act_instr s own (Instr.Call result must_tail ty (Callee.Intrinsic Intrinsic.MemcpyI64) args) h = act_plain s (copied_bytes (context_of g s) (work_of s) (arg_values g.code s.top.values args)) (copied_no_coro (context_of g s) (work_of s) (arg_values g.code s.top.values args))
  act_instr s own (Instr.Call result must_tail ty (Callee.Intrinsic Intrinsic.MemcpyI32) args) h = act_plain s (copied_bytes (context_of g s) (work_of s) (arg_values g.code s.top.values args)) (copied_no_coro (context_of g s) (work_of s) (arg_values g.code s.top.values args))
  act_instr s own (Instr.Call result must_tail ty (Callee.Intrinsic i) args) h = act_coro s own i args result h

  act_here : (s : State) → IsOwned s (own_instance s) → (here : Fetched) → Each (IsNamed (length (function_at g.code s.top.func).names)) (operands_at here) → ActsAlike s (action_of (context_of g s) (work_of s) here)
  act_here s own Nowhere h = refl
  act_here s own (AtInstr i) h = act_instr s own i h
  act_here s own (AtTerm t) h = act_plain s (term_action (context_of g s) (work_of s) t) (ends_no_coro (context_of g s) (work_of s) t (term_action (context_of g s) (work_of s) t) (ends (context_of g s) (work_of s) t))

  -- ---- a step

  undefined_short : (s : State) (r : Result State Cause) → or_undefined g (short s) (short_result g.code r) ≡ short (or_undefined g s r)
  undefined_short s (Err cause) = refl
  undefined_short s (Ok t) = refl

  pub step_short : (s : State) → IsOwned s (own_instance s) → step g (short s) ≡ short (step g s)
  step_short s own = on s.outcome
    where
      here : Fetched
      here = fetch (function_of g s) s.top.block s.top.at

      fit : Each (IsNamed (length (function_at g.code s.top.func).names)) (operands_at here)
      fit = uses_at (function_of g s) (named s.top.func) s.top.block s.top.at

      on : (o : Outcome) → advance_by g (continue g) (short s) o ≡ short (advance_by g (continue g) s o)
      on Outcome.Running =
          ap (or_undefined g (short s)) (ap (act g (continue g) (short s)) (action_short s here fit) ∙ act_here s own here fit)
          ∙ undefined_short s (act g (continue g) s (action_of (context_of g s) (work_of s) here))
      on (Outcome.Returned v) = refl
      on (Outcome.Undefined cause place) = refl
