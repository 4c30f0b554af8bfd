-- A plain run's events never shrink.
use Rattle.std.proofs.Common.{◌≡◌, ◌++◌, ◌∙◌, ℕ, Bool, true, false, List, [], ◌∷◌, Option, Some, None, Ok, Err, refl, sym, append-nil}
use Rattle.std.specs.Prelude.{Result, if◌then◌else◌}
use Rattle.ir_base.specs.declared.cause.Cause.{Cause}
use Rattle.ir_base.specs.declared.outcome.Event.{Event}
use Rattle.ir_base.specs.declared.outcome.Outcome.{Outcome}
use Rattle.ir_base.specs.declared.outcome.Word.{Word}
use Rattle.ir_model.specs.Names.{declaration_named, function_at, function_named, is_noalloc}
use Rattle.ir_model.specs.Layout.{size_of}
use Rattle.ir_model.specs.Ty.{Ty, int, ptr}
use Rattle.ir_model.specs.declared.instr.Instr.{Instr}
use Rattle.ir_base.specs.declared.ops.Pred.{Pred}
use Rattle.ir_model.specs.declared.instr.Terminator.{Terminator}
use Rattle.ir_model.specs.declared.operand.Allocator.{Allocator}
use Rattle.ir_model.specs.declared.operand.Arg.{Arg}
use Rattle.ir_model.specs.declared.operand.Callee.{Callee}
use Rattle.ir_model.specs.declared.operand.Intrinsic.{Intrinsic}
use Rattle.run_memory.specs.declared.pointer.Pointer.{Pointer}
use Rattle.run_memory.specs.declared.pointer.Value.{Value}
use Rattle.run_ints.specs.Numbers.{binary}
use Rattle.run_memory.specs.Memory.{compare, copy, load, store}
use Rattle.run_memory.specs.declared.block.MemoryBlock.{MemoryBlock}
use Rattle.run_plain.specs.Plain.{PlainGiven, counted, plain_act, plain_advance, plain_call, plain_context, plain_coro, plain_function, plain_or_undefined, plain_pop, plain_returned, plain_step, plain_work}
use Rattle.run_plain.specs.declared.state.PlainActivation.{PlainActivation}
use Rattle.run_plain.specs.declared.state.PlainState.{PlainState}
use Rattle.run_step.specs.Results.{and_then}
use Rattle.run_step.specs.Step.{Action, AtInstr, AtTerm, Context, Coro, Deallocate, Done, Enter, Fetched, GoTo, NewSlot, Nowhere, Return, Stuck, Work, action_of, alloca, allocated, allocator_call, branch, by_pred, call, compared, copied_bytes, deallocated, done, fetch, fits_function, if_alignment, indirect_call, instr_action, intrinsic_call, is_alignment, named_call, observed, outcome_of, risen, set_memory, set_value, switch, term_action, value_at, with_length, words_of}
use Rattle.run_step.specs.Values.{access_of, address, arg_value, arg_values, nth, number_at, stored, truth_value, value_in, value_of}
use Rattle.std.specs.Prelude.{slice_get}

-- the list goes on as the other one does
abbrev pub IsMore : {A : Type 0} → List A → List A → Type 0
IsMore {A} xs ys = (more : List A) × (ys ≡ xs ++ more)

pub no_more : {A : Type 0} (xs : List A) → IsMore xs xs
no_more xs = ([], sym (append-nil xs))

-- ---- what comes of an instruction

-- what is done has the events from before
abbrev pub Grows : List Event → Action → Type 0
Grows es (Done w) = IsMore es w.world.events
Grows es (NewSlot w slot) = IsMore es w.world.events
Grows es _ = Unit {0}

done_grows : {A : Type 0} (es : List Event) (f : A → Work) → ((a : A) → IsMore es (f a).world.events) → (r : Result A Cause)
    → Grows es (done f r)
done_grows es f more (Ok a) = more a
done_grows es f more (Err c) = tt

length_grows : (es : List Event) (go : ℕ → Action) → ((n : ℕ) → Grows es (go n)) → (v : Value) → Grows es (with_length v go)
length_grows es go more (Value.Int n) = more n.bits
length_grows es go more Value.Poison = tt
length_grows es go more (Value.Ptr p) = tt

if_grows : (es : List Event) (a b : Action) → Grows es a → Grows es b → (t : Bool) → Grows es (if t then a else b)
if_grows es a b one other true = one
if_grows es a b one other false = other

aligned_grows : (es : List Event) (align : ℕ) (a : Action) → Grows es a → Grows es (if_alignment align a)
aligned_grows es align a more = if_grows es a (Stuck Cause.Align) more tt (is_alignment align)

module _ (c : Context) (w : Work) where
  compared_grows : (name : ℕ) (pred : Pred) (ty : Ty) (a b : Value) → Grows w.world.events (compared c w name pred ty a b)
  compared_grows name pred (int n) a b = no_more w.world.events
  compared_grows name pred ty a b =
      done_grows w.world.events (λ same. set_value w name (truth_value (by_pred pred same)))
      (λ same. no_more w.world.events) (compare c.rights w.world.memory (address a) (address b))

  observed_grows : (d : ℕ) (ty : Option Ty) (result : Option ℕ) (args : Option (List Word))
      → Grows w.world.events (observed c w d ty result args)
  observed_grows d ty result None = tt
  observed_grows d None result (Some args) = (_, refl)
  observed_grows d (Some ty) result (Some args) = (_, refl)

  named_grows : (f d : Option ℕ) (ty : Option Ty) (result : Option ℕ) (must_tail : Bool) (vs : List Value)
      → Grows w.world.events (named_call c w f d ty result must_tail vs)
  named_grows (Some f) d ty result must_tail vs = tt
  named_grows None (Some d) ty result must_tail vs = observed_grows d ty result (words_of vs)
  named_grows None None ty result must_tail vs = tt

  allocator_grows : (a : Allocator) (result : Option ℕ) (vs : List Value)
      → Grows w.world.events (allocator_call a w result vs)
  allocator_grows Allocator.Malloc result vs =
      length_grows w.world.events (λ n. Done (allocated w result n)) (λ n. no_more w.world.events) (nth vs 0)
  allocator_grows Allocator.Znwm result vs =
      length_grows w.world.events (λ n. Done (allocated w result n)) (λ n. no_more w.world.events) (nth vs 0)
  allocator_grows Allocator.Free result vs = tt
  allocator_grows Allocator.ZdlPv result vs = tt
  allocator_grows Allocator.ZdlPvm result vs = tt

  copied_grows : (vs : List Value) → Grows w.world.events (copied_bytes c w vs)
  copied_grows vs =
      length_grows w.world.events
      (λ n. done (set_memory w) (copy c.rights w.world.memory (address (nth vs 0)) (address (nth vs 1)) n))
      (λ n. done_grows w.world.events (set_memory w) (λ m. no_more w.world.events)
      (copy c.rights w.world.memory (address (nth vs 0)) (address (nth vs 1)) n)) (nth vs 2)

  intrinsic_grows : (i : Intrinsic) (result : Option ℕ) (args : List Arg) (vs : List Value)
      → Grows w.world.events (intrinsic_call c w i result args vs)
  intrinsic_grows Intrinsic.LifetimeStart result args vs = no_more w.world.events
  intrinsic_grows Intrinsic.LifetimeEnd result args vs = no_more w.world.events
  intrinsic_grows Intrinsic.MemcpyI64 result args vs = copied_grows vs
  intrinsic_grows Intrinsic.MemcpyI32 result args vs = copied_grows vs
  intrinsic_grows i result args vs = tt

  indirect_grows : (v : Value) (ty : Option Ty) (result : Option ℕ) (must_tail : Bool) (args : List Arg)
      (vs : List Value) → Grows w.world.events (indirect_call c v ty result must_tail args vs)
  indirect_grows (Value.Ptr (Pointer.Func f)) ty result must_tail args vs =
      if_grows w.world.events (Enter f vs result must_tail) (Stuck Cause.Call) tt tt
      (fits_function ty args (slice_get c.code.functions f))
  indirect_grows v ty result must_tail args vs = tt

  call_grows : (result : Option ℕ) (must_tail : Bool) (ty : Option Ty) (callee : Callee) (args : List Arg)
      (vs : List Value) → Grows w.world.events (call c w result must_tail ty callee args vs)
  call_grows result must_tail ty (Callee.Named n) args vs =
      named_grows (function_named c.code n) (declaration_named c.code n) ty result must_tail vs
  call_grows result must_tail ty (Callee.Allocator a) args vs = allocator_grows a result vs
  call_grows result must_tail ty (Callee.Intrinsic i) args vs = intrinsic_grows i result args vs
  call_grows result must_tail ty (Callee.Local name) args vs =
      indirect_grows (value_in w.values name) ty result must_tail args vs

  instr_grows : (i : Instr) → Grows w.world.events (instr_action c w i)
  instr_grows (Instr.Binary name op flags ty a b) =
      done_grows w.world.events (λ n. set_value w name (value_of n)) (λ n. no_more w.world.events)
      (binary op flags (number_at ty (value_at c w ty a)) (number_at ty (value_at c w ty b)))
  instr_grows (Instr.Icmp name pred ty a b) = compared_grows name pred ty (value_at c w ty a) (value_at c w ty b)
  instr_grows (Instr.Select name x a b) = no_more w.world.events
  instr_grows (Instr.Cast name op nneg arg to) = no_more w.world.events
  instr_grows (Instr.Alloca name ty align) =
      aligned_grows w.world.events align (alloca c w name (size_of c.code ty) align) (no_more w.world.events)
  instr_grows (Instr.Load name ty p align) =
      let r = load c.rights w.world.memory (address (value_at c w ptr p)) (access_of ty) align in
      aligned_grows w.world.events align (done (set_value w name) r)
      (done_grows w.world.events (set_value w name) (λ v. no_more w.world.events) r)
  instr_grows (Instr.Store arg p align) =
      let what = access_of arg.ty in
      let v = stored what (arg_value c.code w.values arg) in
      let r = store c.rights w.world.memory (address (value_at c w ptr p)) v what align in
      aligned_grows w.world.events align (done (set_memory w) r)
      (done_grows w.world.events (set_memory w) (λ m. no_more w.world.events) r)
  instr_grows (Instr.Gep name inbounds ty base indices) = no_more w.world.events
  instr_grows (Instr.Call result must_tail ty callee args) =
      call_grows result must_tail ty callee args (arg_values c.code w.values args)

  branch_grows : (v : Value) (a b : ℕ) → Grows w.world.events (branch v a b)
  branch_grows (Value.Int x) a b = tt
  branch_grows Value.Poison a b = tt
  branch_grows (Value.Ptr p) a b = tt

  term_grows : (t : Terminator) → Grows w.world.events (term_action c w t)
  term_grows (Terminator.Jump label) = tt
  term_grows (Terminator.Branch x a b) = branch_grows (value_at c w (int 1) x) a b
  term_grows (Terminator.Switch arg default cases) = on (arg_value c.code w.values arg)
    where
      on : (v : Value) → Grows w.world.events (switch c.code v default cases)
      on (Value.Int x) = tt
      on Value.Poison = tt
      on (Value.Ptr p) = tt
  term_grows (Terminator.Ret None) = tt
  term_grows (Terminator.Ret (Some arg)) = tt
  term_grows Terminator.Unreachable = tt

  pub action_grows : (x : Fetched) → Grows w.world.events (action_of c w x)
  action_grows Nowhere = tt
  action_grows (AtInstr i) = instr_grows i
  action_grows (AtTerm t) = term_grows t

-- ---- a step

abbrev OkGrows : List Event → Result PlainState Cause → Type 0
OkGrows xs (Ok t) = IsMore xs t.world.events
OkGrows xs (Err c) = Unit {0}

module _ (g : PlainGiven) (s : PlainState) where
  enter_grows : (func : ℕ) (args : List Value) (result : Option ℕ) (must_tail : Bool)
      → IsMore s.world.events (counted g func (plain_call g s func args result must_tail)).world.events
  enter_grows func args result must_tail =
      ([], on (is_noalloc (function_at g.code func).name) must_tail ∙ sym (append-nil s.world.events))
    where
      on : (b m : Bool) → (if b then record (plain_call g s func args result m) { elided = risen (plain_call g s func args result m).elided }
          else plain_call g s func args result m).world.events ≡ s.world.events
      on true true = refl
      on true false = refl
      on false true = refl
      on false false = refl

  coro_grows : (i : Intrinsic) → OkGrows s.world.events (plain_coro s i)
  coro_grows Intrinsic.CoroId = no_more s.world.events
  coro_grows i = tt

  given_up_grows : (f : List MemoryBlock → PlainState) → ((m : List MemoryBlock) → (f m).world.events ≡ s.world.events)
      → (r : Result (List MemoryBlock) Cause) → OkGrows s.world.events (and_then r (λ m. Ok (f m)))
  given_up_grows f same (Ok m) = ([], same m ∙ sym (append-nil s.world.events))
  given_up_grows f same (Err c) = tt

  over_grows : (r : Result Outcome Cause)
      → OkGrows s.world.events (and_then r (λ o. Ok (record (plain_returned s) { outcome = o })))
  over_grows (Ok o) = no_more s.world.events
  over_grows (Err c) = tt

  pop_grows : (v : Option Value) (below : List PlainActivation)
      → OkGrows s.world.events (plain_pop (plain_returned s) v below)
  pop_grows v [] = over_grows (outcome_of v)
  pop_grows v (a ∷ below) = no_more s.world.events

  act_grows : (a : Action) → Grows s.world.events a → OkGrows s.world.events (plain_act g s a)
  act_grows (Done w) more = more
  act_grows (NewSlot w slot) more = more
  act_grows (Enter func args result must_tail) more = enter_grows func args result must_tail
  act_grows (Coro i args result) more = coro_grows i
  act_grows (Deallocate p) more = given_up_grows _ (λ m. refl) (deallocated s.world.memory p)
  act_grows (GoTo label) more = no_more s.world.events
  act_grows (Return v) more = pop_grows v s.below
  act_grows (Stuck cause) more = tt

  or_grows : (r : Result PlainState Cause) → OkGrows s.world.events r
      → IsMore s.world.events (plain_or_undefined g s r).world.events
  or_grows (Err c) more = no_more s.world.events
  or_grows (Ok t) more = more

  advance_grows : (o : Outcome) → IsMore s.world.events (plain_advance g s o).world.events
  advance_grows Outcome.Running =
      or_grows _ (act_grows _ (action_grows (plain_context g s) (plain_work s)
      (fetch (plain_function g s) s.top.block s.top.at)))
  advance_grows (Outcome.Returned v) = no_more s.world.events
  advance_grows (Outcome.Undefined cause place) = no_more s.world.events

  pub step_grows : IsMore s.world.events (plain_step g s).world.events
  step_grows = advance_grows s.outcome
