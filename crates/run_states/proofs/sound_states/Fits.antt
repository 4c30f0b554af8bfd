-- What an action may set, and what stands where it is taken.
use Rattle.std.proofs.Common.{◌≡◌, ℕ, Bool, true, false, List, length, refl, ap, ◌∙◌}
use Rattle.std.specs.Prelude.{Some, None, Ok, Err, Option, Result, slice_get, if◌then◌else◌, ◌==◌}
use Rattle.ir_laws.specs.run_memory.Memory.{compare, copy, load, store}
use Rattle.ir_laws.specs.run_memory.declared.pointer.Pointer.{Pointer}
use Rattle.ir_laws.specs.run_memory.declared.pointer.Value.{Value}
use Rattle.ir_laws.specs.ir_base.declared.cause.Cause.{Cause}
use Rattle.ir_laws.specs.ir_base.declared.ops.Pred.{Pred}
use Rattle.ir_laws.specs.ir_base.declared.outcome.Word.{Word}
use Rattle.ir_laws.specs.run_ints.Numbers.{binary}
use Rattle.ir_laws.specs.ir_model.Layout.{size_of}
use Rattle.ir_laws.specs.ir_model.Names.{declaration_named, function_named, intrinsic_number}
use Rattle.ir_laws.specs.ir_model.Ty.{Ty, array, int, named, ptr, structure, token}
use Rattle.ir_laws.specs.ir_model.declared.instr.Instr.{Instr}
use Rattle.ir_laws.specs.ir_model.declared.instr.Terminator.{Terminator}
use Rattle.ir_laws.specs.ir_model.declared.module.Block.{Block}
use Rattle.ir_laws.specs.ir_model.declared.module.Function.{Function}
use Rattle.ir_laws.specs.ir_model.declared.operand.Allocator.{Allocator}
use Rattle.ir_laws.specs.ir_model.declared.operand.Arg.{Arg}
use Rattle.ir_laws.specs.ir_model.declared.operand.Callee.{Callee}
use Rattle.ir_laws.specs.ir_model.declared.operand.Intrinsic.{Intrinsic}
use Rattle.ir_laws.proofs.ir_paths.Search.{eq_itself}
use Rattle.ir_laws.specs.ir_paths.Windows.{instr_in, is_call_of}
use Rattle.ir_laws.specs.ir_paths.declared.point.Point.{Point}
use Rattle.ir_laws.specs.run_step.Step.{Action, AtInstr, AtTerm, Context, Coro, Deallocate, Done, Enter, Fetched, GoTo, NewSlot, Nowhere, Return, Stuck, Work, action_of, alloca, allocated, allocator_call, branch, by_pred, compared, copied_bytes, done, fetch, fetch_in, fetch_or, fits_function, if_alignment, indirect_call, instr_action, intrinsic_call, is_alignment, named_call, observed, set_memory, set_value, switch, term_action, value_at, with_length, words_of}
use Rattle.ir_laws.specs.run_step.Values.{Env, access_of, address, arg_value, arg_values, nth, number_at, stored, truth_value, value_in, value_of, with_result}
use Rattle.run_states.proofs.expanded.Environments.{set_length}
use Rattle.ir_laws.proofs.facts.Members.{at_each as each_at}
use Rattle.ir_laws.specs.run_laws.changed.Changed.{Each, result_at, result_of}
use Rattle.ir_laws.specs.facts.expanded.Tokens.{IsNamedResult}
use Rattle.ir_laws.specs.facts.sound_states.Named.{HasNamedResults}
use Rattle.run_states.specs.sound_states.Sound.{IsSuspendAt}

-- ---- what stands at a place

-- a call of the intrinsic stands there
abbrev pub calls_at : Intrinsic → Fetched → Bool
calls_at j Nowhere = false
calls_at j (AtInstr i) = is_call_of j i
calls_at j (AtTerm t) = false

pub suspend_there : (f : Function) (p : Point) → calls_at Intrinsic.CoroSuspend (fetch f p.block p.at) ≡ true → IsSuspendAt f p
suspend_there f p = on (slice_get f.blocks p.block) refl
  where
    instr : (b : Block) → slice_get f.blocks p.block ≡ Some b → (last : Bool) (o : Option Instr) → slice_get b.instrs p.at ≡ o → calls_at Intrinsic.CoroSuspend (fetch_or o last b.term) ≡ true → IsSuspendAt f p
    instr b e true None d h = absurd (cc)
    instr b e false None d h = absurd (cc)
    instr b e last (Some i) d h = record { instr = i; is = ap (λ (o : Option Block). instr_in o p.at) e ∙ d; suspends = h }

    on : (o : Option Block) → slice_get f.blocks p.block ≡ o → calls_at Intrinsic.CoroSuspend (fetch_in o p.at) ≡ true → IsSuspendAt f p
    on None e h = absurd (cc)
    on (Some b) e h = instr b e (p.at == length b.instrs) (slice_get b.instrs p.at) refl h

-- the name that it sets is one of the function's
pub result_named : (f : Function) → HasNamedResults f → (block at : ℕ) → IsNamedResult (length f.names) (result_at (fetch f block at))
result_named f h block at = on (slice_get f.blocks block) refl
  where
    last : (b : Block) (t : Bool) → IsNamedResult (length f.names) (result_at (fetch_or None t b.term))
    last b true = tt
    last b false = tt

    instr : (b : Block) → Each (λ (i : Instr). IsNamedResult (length f.names) (result_of i)) b.instrs → (o : Option Instr) → slice_get b.instrs at ≡ o → IsNamedResult (length f.names) (result_at (fetch_or o (at == length b.instrs) b.term))
    instr b own None e = last b (at == length b.instrs)
    instr b own (Some i) e = each_at (λ (i : Instr). IsNamedResult (length f.names) (result_of i)) b.instrs at i own e

    on : (o : Option Block) → slice_get f.blocks block ≡ o → IsNamedResult (length f.names) (result_at (fetch_in o at))
    on None e = tt
    on (Some b) e = instr b (each_at (λ (b : Block). Each (λ (i : Instr). IsNamedResult (length f.names) (result_of i)) b.instrs) f.blocks block b h e) (slice_get b.instrs at) refl

-- ---- what an action sets

pub result_length : (env : Env) (o : Option ℕ) (v : Value) → length (with_result env o v) ≡ length env
result_length env None v = refl
result_length env (Some n) v = set_length env n v

-- as many values as before; of a call, the name and the intrinsic that stand there
abbrev pub Fits : Env → Fetched → Action → Type 0
Fits env here (Done w) = length w.values ≡ length env
Fits env here (NewSlot w slot) = length w.values ≡ length env
Fits env here (Enter func args result must_tail) = result ≡ result_at here
Fits env here (Coro j args result) = (calls_at j here ≡ true) × (result ≡ result_at here)
Fits env here (Deallocate p) = Unit {0}
Fits env here (GoTo label) = Unit {0}
Fits env here (Return v) = Unit {0}
Fits env here (Stuck cause) = Unit {0}

done_fits : {A : Type 0} (env : Env) (here : Fetched) (f : A → Work) (r : Result A Cause) → ((a : A) → length (f a).values ≡ length env) → Fits env here (done f r)
done_fits env here f (Err cause) h = tt
done_fits env here f (Ok a) h = h a

aligned_fits : (env : Env) (here : Fetched) (align : ℕ) (a : Action) → Fits env here a → Fits env here (if_alignment align a)
aligned_fits env here align a h = on (is_alignment align)
  where
    on : (b : Bool) → Fits env here (if b then a else Stuck Cause.Align)
    on true = h
    on false = tt

length_fits : (env : Env) (here : Fetched) (v : Value) (go : ℕ → Action) → ((n : ℕ) → Fits env here (go n)) → Fits env here (with_length v go)
length_fits env here (Value.Int n) go h = h n.bits
length_fits env here Value.Poison go h = tt
length_fits env here (Value.Ptr p) go h = tt

module _ (c : Context) (w : Work) where
  compared_fits : (here : Fetched) (name : ℕ) (pred : Pred) (ty : Ty) (a b : Value) → Fits w.values here (compared c w name pred ty a b)
  compared_fits here name pred (int n) a b = set_length w.values name _
  compared_fits here name pred ptr a b = done_fits w.values here (λ same. set_value w name (truth_value (by_pred pred same))) (compare c.rights w.world.memory (address a) (address b)) (λ same. set_length w.values name (truth_value (by_pred pred same)))
  compared_fits here name pred token a b = done_fits w.values here (λ same. set_value w name (truth_value (by_pred pred same))) (compare c.rights w.world.memory (address a) (address b)) (λ same. set_length w.values name (truth_value (by_pred pred same)))
  compared_fits here name pred (array n t) a b = done_fits w.values here (λ same. set_value w name (truth_value (by_pred pred same))) (compare c.rights w.world.memory (address a) (address b)) (λ same. set_length w.values name (truth_value (by_pred pred same)))
  compared_fits here name pred (structure ts) a b = done_fits w.values here (λ same. set_value w name (truth_value (by_pred pred same))) (compare c.rights w.world.memory (address a) (address b)) (λ same. set_length w.values name (truth_value (by_pred pred same)))
  compared_fits here name pred (named n) a b = done_fits w.values here (λ same. set_value w name (truth_value (by_pred pred same))) (compare c.rights w.world.memory (address a) (address b)) (λ same. set_length w.values name (truth_value (by_pred pred same)))

  module _ (here : Fetched) where
    observed_fits : (d : ℕ) (ty : Option Ty) (args : Option (List Word)) → Fits w.values here (observed c w d ty (result_at here) args)
    observed_fits d ty None = tt
    observed_fits d None (Some args) = result_length w.values (result_at here) Value.Poison
    observed_fits d (Some ty) (Some args) = result_length w.values (result_at here) _

    named_fits : (f d : Option ℕ) (ty : Option Ty) (must_tail : Bool) (vs : List Value) → Fits w.values here (named_call c w f d ty (result_at here) must_tail vs)
    named_fits (Some f) d ty must_tail vs = refl
    named_fits None (Some d) ty must_tail vs = observed_fits d ty (words_of vs)
    named_fits None None ty must_tail vs = tt

    indirect_fits : (v : Value) (ty : Option Ty) (must_tail : Bool) (args : List Arg) (vs : List Value) → Fits w.values here (indirect_call c v ty (result_at here) must_tail args vs)
    indirect_fits (Value.Ptr (Pointer.Func f)) ty must_tail args vs = on (fits_function ty args (slice_get c.code.functions f))
      where
        on : (b : Bool) → Fits w.values here (if b then Enter f vs (result_at here) must_tail else Stuck Cause.Call)
        on true = refl
        on false = tt
    indirect_fits (Value.Ptr Pointer.Null) ty must_tail args vs = tt
    indirect_fits (Value.Ptr (Pointer.At b o)) ty must_tail args vs = tt
    indirect_fits Value.Poison ty must_tail args vs = tt
    indirect_fits (Value.Int x) ty must_tail args vs = tt

    allocator_fits : (a : Allocator) (vs : List Value) → Fits w.values here (allocator_call a w (result_at here) vs)
    allocator_fits Allocator.Malloc vs = length_fits w.values here (nth vs 0) (λ n. Done (allocated w (result_at here) n)) (λ n. result_length w.values (result_at here) _)
    allocator_fits Allocator.Znwm vs = length_fits w.values here (nth vs 0) (λ n. Done (allocated w (result_at here) n)) (λ n. result_length w.values (result_at here) _)
    allocator_fits Allocator.Free vs = tt
    allocator_fits Allocator.ZdlPv vs = tt
    allocator_fits Allocator.ZdlPvm vs = tt

    copied_fits : (vs : List Value) → Fits w.values here (copied_bytes c w vs)
    copied_fits vs = length_fits w.values here (nth vs 2) (λ n. done (set_memory w) (copy c.rights w.world.memory (address (nth vs 0)) (address (nth vs 1)) n)) (λ n. done_fits w.values here (set_memory w) (copy c.rights w.world.memory (address (nth vs 0)) (address (nth vs 1)) n) (λ memory. refl))

  intrinsic_fits : (j : Intrinsic) (result : Option ℕ) (must_tail : Bool) (ty : Option Ty) (args : List Arg) (vs : List Value) → Fits w.values (AtInstr (Instr.Call result must_tail ty (Callee.Intrinsic j) args)) (intrinsic_call c w j result args vs)
  intrinsic_fits Intrinsic.LifetimeStart result must_tail ty args vs = refl
  intrinsic_fits Intrinsic.LifetimeEnd result must_tail ty args vs = refl
  intrinsic_fits Intrinsic.MemcpyI64 result must_tail ty args vs = copied_fits (AtInstr (Instr.Call result must_tail ty (Callee.Intrinsic Intrinsic.MemcpyI64) args)) vs
  intrinsic_fits Intrinsic.MemcpyI32 result must_tail ty args vs = copied_fits (AtInstr (Instr.Call result must_tail ty (Callee.Intrinsic Intrinsic.MemcpyI32) args)) vs
  intrinsic_fits j result must_tail ty args vs = (eq_itself (intrinsic_number j), refl)

  instr_fits : (i : Instr) → Fits w.values (AtInstr i) (instr_action c w i)
  instr_fits (Instr.Binary name op flags ty a b) = done_fits w.values (AtInstr (Instr.Binary name op flags ty a b)) (λ n. set_value w name (value_of n)) (binary op flags (number_at ty (value_at c w ty a)) (number_at ty (value_at c w ty b))) (λ n. set_length w.values name (value_of n))
  instr_fits (Instr.Icmp name pred ty a b) = compared_fits (AtInstr (Instr.Icmp name pred ty a b)) name pred ty (value_at c w ty a) (value_at c w ty b)
  instr_fits (Instr.Select name x a b) = set_length w.values name _
  instr_fits (Instr.Cast name op nneg arg to) = set_length w.values name _
  instr_fits (Instr.Alloca name ty align) = aligned_fits w.values (AtInstr (Instr.Alloca name ty align)) align (alloca c w name (size_of c.code ty) align) (set_length w.values name _)
  instr_fits (Instr.Load name ty p align) =
      aligned_fits w.values (AtInstr (Instr.Load name ty p align)) align (done (set_value w name) (load c.rights w.world.memory (address (value_at c w ptr p)) (access_of ty) align))
      (done_fits w.values (AtInstr (Instr.Load name ty p align)) (set_value w name) (load c.rights w.world.memory (address (value_at c w ptr p)) (access_of ty) align) (λ v. set_length w.values name v))
  instr_fits (Instr.Store arg p align) =
      let r = store c.rights w.world.memory (address (value_at c w ptr p)) (stored (access_of arg.ty) (arg_value c.code w.values arg)) (access_of arg.ty) align in
      aligned_fits w.values (AtInstr (Instr.Store arg p align)) align (done (set_memory w) r) (done_fits w.values (AtInstr (Instr.Store arg p align)) (set_memory w) r (λ memory. refl))
  instr_fits (Instr.Gep name inbounds ty base indices) = set_length w.values name _
  instr_fits (Instr.Call result must_tail ty (Callee.Named n) args) = named_fits (AtInstr (Instr.Call result must_tail ty (Callee.Named n) args)) (function_named c.code n) (declaration_named c.code n) ty must_tail (arg_values c.code w.values args)
  instr_fits (Instr.Call result must_tail ty (Callee.Allocator a) args) = allocator_fits (AtInstr (Instr.Call result must_tail ty (Callee.Allocator a) args)) a (arg_values c.code w.values args)
  instr_fits (Instr.Call result must_tail ty (Callee.Intrinsic j) args) = intrinsic_fits j result must_tail ty args (arg_values c.code w.values args)
  instr_fits (Instr.Call result must_tail ty (Callee.Local name) args) = indirect_fits (AtInstr (Instr.Call result must_tail ty (Callee.Local name) args)) (value_in w.values name) ty must_tail args (arg_values c.code w.values args)

  branch_fits : (here : Fetched) (v : Value) (a b : ℕ) → Fits w.values here (branch v a b)
  branch_fits here (Value.Int n) a b = tt
  branch_fits here Value.Poison a b = tt
  branch_fits here (Value.Ptr p) a b = tt

  term_fits : (t : Terminator) → Fits w.values (AtTerm t) (term_action c w t)
  term_fits (Terminator.Jump label) = tt
  term_fits (Terminator.Branch x a b) = branch_fits (AtTerm (Terminator.Branch x a b)) (value_at c w (int 1) x) a b
  term_fits (Terminator.Switch arg default cases) = on (arg_value c.code w.values arg)
    where
      on : (v : Value) → Fits w.values (AtTerm (Terminator.Switch arg default cases)) (switch c.code v default cases)
      on (Value.Int x) = tt
      on Value.Poison = tt
      on (Value.Ptr p) = tt
  term_fits (Terminator.Ret None) = tt
  term_fits (Terminator.Ret (Some arg)) = tt
  term_fits Terminator.Unreachable = tt

  pub fits : (here : Fetched) → Fits w.values here (action_of c w here)
  fits Nowhere = tt
  fits (AtInstr i) = instr_fits i
  fits (AtTerm t) = term_fits t
