-- What an instruction does, by its kind: names that it doesn't set keep their values, and a coro action comes of its
-- call alone.
use Rattle.std.proofs.Common.{◌≡◌, ℕ, Bool, true, false, List, Result, Ok, Err, refl, sym, ap, ◌∙◌, if◌then◌else◌}
use Rattle.std.specs.Prelude.{None, Option, Some, slice_get}
use Rattle.pass_elide_proof.proofs.Sized.{other_result}
use Rattle.pass_proofs.specs.ir_base.declared.cause.Cause.{Cause}
use Rattle.pass_proofs.specs.ir_base.declared.ops.Pred.{Pred}
use Rattle.pass_proofs.specs.ir_base.declared.outcome.Word.{Word}
use Rattle.pass_proofs.specs.ir_model.Names.{declaration_named, function_named}
use Rattle.pass_proofs.specs.ir_model.Ty.{Ty, array, int, named, ptr, structure, token}
use Rattle.pass_proofs.specs.ir_model.declared.instr.Case.{Case}
use Rattle.pass_proofs.specs.ir_model.declared.instr.Instr.{Instr}
use Rattle.pass_proofs.specs.ir_model.declared.instr.Terminator.{Terminator}
use Rattle.pass_proofs.specs.ir_model.declared.operand.Allocator.{Allocator}
use Rattle.pass_proofs.specs.ir_model.declared.operand.Arg.{Arg}
use Rattle.pass_proofs.specs.ir_model.declared.operand.Callee.{Callee}
use Rattle.pass_proofs.specs.ir_model.declared.operand.Intrinsic.{Intrinsic}
use Rattle.pass_proofs.specs.ir_model.declared.operand.Operand.{Operand}
use Rattle.pass_proofs.specs.ir_parts.Contents.{result_of}
use Rattle.pass_proofs.specs.run_ints.Numbers.{binary}
use Rattle.pass_proofs.specs.run_memory.Memory.{compare, copy, load, store}
use Rattle.pass_proofs.specs.run_memory.declared.block.MemoryBlock.{MemoryBlock}
use Rattle.pass_proofs.specs.run_memory.declared.pointer.Pointer.{Pointer}
use Rattle.pass_proofs.specs.run_memory.declared.pointer.Value.{Value}
use Rattle.pass_proofs.specs.run_step.Step.{Action, AtInstr, AtTerm, Context, Coro, Deallocate, Done, Enter, Fetched, GoTo, NewSlot, Nowhere, Return, Stuck, Work, action_of, allocated, allocator_call, branch, by_pred, compared, copied_bytes, done, fits_function, if_alignment, indirect_call, instr_action, intrinsic_call, is_alignment, named_call, observed, set_memory, set_value, switch, term_action, value_at, with_length, words_of}
use Rattle.pass_proofs.specs.run_step.Values.{Env, access_of, address, arg_value, arg_values, nth, number_at, stored, truth_value, value_in, value_of, with_result}

-- ---- names that aren't set

abbrev pub KeepsOthers : Option ℕ → Env → Env → Type 0
KeepsOthers result old new = (u : ℕ) → (result ≡ Some u → ⊥) → value_in new u ≡ value_in old u

sets_one : (env : Env) (name : ℕ) (w : Value) (new : Env) → new ≡ with_result env (Some name) w
    → KeepsOthers (Some name) env new
sets_one env name w new is u ne =
    ap (λ (z : Env). value_in z u) is
    ∙ other_result env (Some name) u w (λ v set same. ne (ap Some (one name v set ∙ sym same)))
  where
    one : (a b : ℕ) → Some a ≡ Some b → a ≡ b
    one a b e = cc

sets_result : (env : Env) (result : Option ℕ) (w : Value) → KeepsOthers result env (with_result env result w)
sets_result env result w u ne = other_result env result u w (λ v set same. ne (set ∙ ap Some (sym same)))

-- ---- instructions that are no calls

-- it calls nothing, and makes no block
abbrev pub IsPlain : Instr → Type 0
IsPlain (Instr.Call result must_tail ty callee args) = ⊥
IsPlain (Instr.Alloca name ty align) = ⊥
IsPlain i = Unit {0}

-- such an instruction is done or undefined
abbrev pub DoesCalmly : Instr → Env → Action → Type 0
DoesCalmly i env (Done w) = KeepsOthers (result_of i) env w.values
DoesCalmly i env (Stuck cause) = Unit {0}
DoesCalmly i env _ = ⊥

module _ (c : Context) (w : Work) where
  abbrev By : Instr → Action → Type 0
  By i a = DoesCalmly i w.values a

  done_sets : {A : Type 0} (i : Instr) (name : ℕ) (f : A → Value) (r : Result A Cause) → result_of i ≡ Some name
      → By i (done (λ (a : A). set_value w name (f a)) r)
  done_sets i name f (Err cause) is = tt
  done_sets i name f (Ok a) is =
      λ u ne. sets_one w.values name (f a) _ refl u (λ e. ne (is ∙ e))

  value_sets : (i : Instr) (name : ℕ) (v : Value) → result_of i ≡ Some name → By i (Done (set_value w name v))
  value_sets i name v is = λ u ne. sets_one w.values name v _ refl u (λ e. ne (is ∙ e))

  memory_keeps : (i : Instr) (r : Result (List MemoryBlock) Cause) → By i (done (set_memory w) r)
  memory_keeps i (Err cause) = tt
  memory_keeps i (Ok n) = λ u ne. refl

  aligned : (i : Instr) (align : ℕ) (a : Action) → By i a → By i (if_alignment align a)
  aligned i align a h = by (is_alignment align)
    where
      by : (t : Bool) → By i (if t then a else Stuck Cause.Align)
      by true = h
      by false = tt

  pointers : (name : ℕ) (pred : Pred) (ty : Ty) (x y : Operand) (a b : Value)
      → By (Instr.Icmp name pred ty x y) (done (λ same. set_value w name (truth_value (by_pred pred same)))
      (compare c.rights w.world.memory (address a) (address b)))
  pointers name pred ty x y a b =
      done_sets (Instr.Icmp name pred ty x y) name (λ same. truth_value (by_pred pred same))
      (compare c.rights w.world.memory (address a) (address b)) refl

  compared_calmly : (name : ℕ) (pred : Pred) (ty : Ty) (x y : Operand) (a b : Value)
      → By (Instr.Icmp name pred ty x y) (compared c w name pred ty a b)
  compared_calmly name pred (int j) x y a b = value_sets (Instr.Icmp name pred (int j) x y) name _ refl
  compared_calmly name pred ptr x y a b = pointers name pred ptr x y a b
  compared_calmly name pred token x y a b = pointers name pred token x y a b
  compared_calmly name pred (array j t) x y a b = pointers name pred (array j t) x y a b
  compared_calmly name pred (structure ts) x y a b = pointers name pred (structure ts) x y a b
  compared_calmly name pred (named j) x y a b = pointers name pred (named j) x y a b

  pub does_calmly : (i : Instr) → IsPlain i → By i (instr_action c w i)
  does_calmly (Instr.Binary name op flags ty a b) p =
      done_sets (Instr.Binary name op flags ty a b) name value_of
      (binary op flags (number_at ty (value_at c w ty a)) (number_at ty (value_at c w ty b))) refl
  does_calmly (Instr.Icmp name pred ty a b) p =
      compared_calmly name pred ty a b (value_at c w ty a) (value_at c w ty b)
  does_calmly (Instr.Select name x a b) p = value_sets (Instr.Select name x a b) name _ refl
  does_calmly (Instr.Cast name op nneg arg to) p = value_sets (Instr.Cast name op nneg arg to) name _ refl
  does_calmly (Instr.Alloca name ty align) p = absurd p
  does_calmly (Instr.Load name ty q align) p =
      aligned (Instr.Load name ty q align) align
      (done (set_value w name) (load c.rights w.world.memory (address (value_at c w ptr q)) (access_of ty) align))
      (done_sets (Instr.Load name ty q align) name (λ v. v)
      (load c.rights w.world.memory (address (value_at c w ptr q)) (access_of ty) align) refl)
  does_calmly (Instr.Store arg q align) p =
      aligned (Instr.Store arg q align) align
      (done (set_memory w)
      (store c.rights w.world.memory (address (value_at c w ptr q))
      (stored (access_of arg.ty) (arg_value c.code w.values arg)) (access_of arg.ty) align))
      (memory_keeps (Instr.Store arg q align)
      (store c.rights w.world.memory (address (value_at c w ptr q))
      (stored (access_of arg.ty) (arg_value c.code w.values arg)) (access_of arg.ty) align))
  does_calmly (Instr.Gep name inbounds ty base indices) p =
      value_sets (Instr.Gep name inbounds ty base indices) name _ refl
  does_calmly (Instr.Call result must_tail ty callee args) p = absurd p

-- ---- what a coro.free is

-- the call of an intrinsic
abbrev pub IsCallIn : Fetched → Intrinsic → List Arg → Option ℕ → Type 0
IsCallIn x i args result =
    (must_tail : Bool) × (ty : Option Ty)
    × (x ≡ AtInstr (Instr.Call result must_tail ty (Callee.Intrinsic i) args))

-- a terminator
abbrev pub IsTermIn : Fetched → Type 0
IsTermIn x = (t : Terminator) × (x ≡ AtTerm t)

-- an action is no coro intrinsic but of its call, and no branch but of a terminator
abbrev IsCoroOf : Fetched → Action → Type 0
IsCoroOf x (Coro i args result) = IsCallIn x i args result
IsCoroOf x (GoTo label) = IsTermIn x
IsCoroOf x _ = Unit {0}

module _ (c : Context) (w : Work) (x : Fetched) where
  abbrev Of : Action → Type 0
  Of a = IsCoroOf x a

  done_of : {A : Type 0} (f : A → Work) (r : Result A Cause) → Of (done f r)
  done_of f (Err cause) = tt
  done_of f (Ok a) = tt

  aligned_of : (align : ℕ) (a : Action) → Of a → Of (if_alignment align a)
  aligned_of align a h = by (is_alignment align)
    where
      by : (t : Bool) → Of (if t then a else Stuck Cause.Align)
      by true = h
      by false = tt

  length_of : (u : Value) (f : ℕ → Action) → ((j : ℕ) → Of (f j)) → Of (with_length u f)
  length_of (Value.Int y) f h = h y.bits
  length_of Value.Poison f h = tt
  length_of (Value.Ptr p) f h = tt

  pointers_of : (name : ℕ) (pred : Pred) (a b : Value)
      → Of (done (λ same. set_value w name (truth_value (by_pred pred same)))
      (compare c.rights w.world.memory (address a) (address b)))
  pointers_of name pred a b =
      done_of (λ same. set_value w name (truth_value (by_pred pred same)))
      (compare c.rights w.world.memory (address a) (address b))

  compared_of : (name : ℕ) (pred : Pred) (ty : Ty) (a b : Value) → Of (compared c w name pred ty a b)
  compared_of name pred (int j) a b = tt
  compared_of name pred ptr a b = pointers_of name pred a b
  compared_of name pred token a b = pointers_of name pred a b
  compared_of name pred (array j t) a b = pointers_of name pred a b
  compared_of name pred (structure ts) a b = pointers_of name pred a b
  compared_of name pred (named j) a b = pointers_of name pred a b

  observed_of : (d : ℕ) (ty : Option Ty) (result : Option ℕ) (args : Option (List Word))
      → Of (observed c w d ty result args)
  observed_of d ty result None = tt
  observed_of d None result (Some args) = tt
  observed_of d (Some ty) result (Some args) = tt

  named_of : (f d : Option ℕ) (ty : Option Ty) (result : Option ℕ) (must_tail : Bool) (vs : List Value)
      → Of (named_call c w f d ty result must_tail vs)
  named_of (Some f) d ty result must_tail vs = tt
  named_of None (Some d) ty result must_tail vs = observed_of d ty result (words_of vs)
  named_of None None ty result must_tail vs = tt

  copied_of : (vs : List Value) → Of (copied_bytes c w vs)
  copied_of vs =
      length_of (nth vs 2)
      (λ n. done (set_memory w) (copy c.rights w.world.memory (address (nth vs 0)) (address (nth vs 1)) n))
      (λ n. done_of (set_memory w) (copy c.rights w.world.memory (address (nth vs 0)) (address (nth vs 1)) n))

  intrinsic_of : (i : Intrinsic) (result : Option ℕ) (args : List Arg) (vs : List Value)
      → IsCallIn x i args result → Of (intrinsic_call c w i result args vs)
  intrinsic_of Intrinsic.LifetimeStart result args vs h = tt
  intrinsic_of Intrinsic.LifetimeEnd result args vs h = tt
  intrinsic_of Intrinsic.MemcpyI64 result args vs h = copied_of vs
  intrinsic_of Intrinsic.MemcpyI32 result args vs h = copied_of vs
  intrinsic_of _ result args vs h = h

  allocated_of : (result : Option ℕ) (v : Value) → Of (with_length v (λ n. Done (allocated w result n)))
  allocated_of result v = length_of v (λ n. Done (allocated w result n)) (λ n. tt)

  allocator_of : (a : Allocator) (result : Option ℕ) (vs : List Value) → Of (allocator_call a w result vs)
  allocator_of Allocator.Malloc result vs = allocated_of result (nth vs 0)
  allocator_of Allocator.Znwm result vs = allocated_of result (nth vs 0)
  allocator_of Allocator.Free result vs = tt
  allocator_of Allocator.ZdlPv result vs = tt
  allocator_of Allocator.ZdlPvm result vs = tt

  indirect_of : (v : Value) (ty : Option Ty) (result : Option ℕ) (must_tail : Bool) (args : List Arg)
      (vs : List Value) → Of (indirect_call c v ty result must_tail args vs)
  indirect_of (Value.Ptr (Pointer.Func f)) ty result must_tail args vs =
      by (fits_function ty args (slice_get c.code.functions f))
    where
      by : (t : Bool) → Of (if t then Enter f vs result must_tail else Stuck Cause.Call)
      by true = tt
      by false = tt
  indirect_of (Value.Ptr Pointer.Null) ty result must_tail args vs = tt
  indirect_of (Value.Ptr (Pointer.At b o)) ty result must_tail args vs = tt
  indirect_of Value.Poison ty result must_tail args vs = tt
  indirect_of (Value.Int n) ty result must_tail args vs = tt

  branch_of : IsTermIn x → (v : Value) (a b : ℕ) → Of (branch v a b)
  branch_of k (Value.Int y) a b = k
  branch_of k Value.Poison a b = tt
  branch_of k (Value.Ptr p) a b = tt

  switch_of : IsTermIn x → (v : Value) (default : ℕ) (cases : List Case) → Of (switch c.code v default cases)
  switch_of k (Value.Int y) default cases = k
  switch_of k Value.Poison default cases = tt
  switch_of k (Value.Ptr p) default cases = tt

  term_of : IsTermIn x → (t : Terminator) → Of (term_action c w t)
  term_of k (Terminator.Jump label) = k
  term_of k (Terminator.Branch y a b) = branch_of k (value_at c w (int 1) y) a b
  term_of k (Terminator.Switch arg default cases) = switch_of k (arg_value c.code w.values arg) default cases
  term_of k (Terminator.Ret None) = tt
  term_of k (Terminator.Ret (Some arg)) = tt
  term_of k Terminator.Unreachable = tt

  call_of : (result : Option ℕ) (must_tail : Bool) (ty : Option Ty) (callee : Callee) (args : List Arg)
      → x ≡ AtInstr (Instr.Call result must_tail ty callee args)
      → Of (instr_action c w (Instr.Call result must_tail ty callee args))
  call_of result must_tail ty (Callee.Named j) args is =
      named_of (function_named c.code j) (declaration_named c.code j) ty result must_tail
      (arg_values c.code w.values args)
  call_of result must_tail ty (Callee.Allocator a) args is = allocator_of a result (arg_values c.code w.values args)
  call_of result must_tail ty (Callee.Intrinsic i) args is =
      intrinsic_of i result args (arg_values c.code w.values args) (must_tail, ty, is)
  call_of result must_tail ty (Callee.Local name) args is =
      indirect_of (value_in w.values name) ty result must_tail args (arg_values c.code w.values args)

  instr_of : (i : Instr) → x ≡ AtInstr i → Of (instr_action c w i)
  instr_of (Instr.Binary name op flags ty a b) is =
      done_of (λ n. set_value w name (value_of n))
      (binary op flags (number_at ty (value_at c w ty a)) (number_at ty (value_at c w ty b)))
  instr_of (Instr.Icmp name pred ty a b) is = compared_of name pred ty (value_at c w ty a) (value_at c w ty b)
  instr_of (Instr.Select name y a b) is = tt
  instr_of (Instr.Cast name op nneg arg to) is = tt
  instr_of (Instr.Alloca name ty align) is = aligned_of align _ tt
  instr_of (Instr.Load name ty q align) is =
      aligned_of align
      (done (set_value w name) (load c.rights w.world.memory (address (value_at c w ptr q)) (access_of ty) align))
      (done_of (set_value w name)
      (load c.rights w.world.memory (address (value_at c w ptr q)) (access_of ty) align))
  instr_of (Instr.Store arg q align) is =
      aligned_of align
      (done (set_memory w)
      (store c.rights w.world.memory (address (value_at c w ptr q))
      (stored (access_of arg.ty) (arg_value c.code w.values arg)) (access_of arg.ty) align))
      (done_of (set_memory w)
      (store c.rights w.world.memory (address (value_at c w ptr q))
      (stored (access_of arg.ty) (arg_value c.code w.values arg)) (access_of arg.ty) align))
  instr_of (Instr.Gep name inbounds ty base indices) is = tt
  instr_of (Instr.Call result must_tail ty callee args) is = call_of result must_tail ty callee args is

  fetched_of : (y : Fetched) → x ≡ y → Of (action_of c w y)
  fetched_of Nowhere is = tt
  fetched_of (AtInstr i) is = instr_of i is
  fetched_of (AtTerm t) is = term_of (t, is) t

  pub coro_called : (i : Intrinsic) (args : List Arg) (result : Option ℕ) → action_of c w x ≡ Coro i args result
      → IsCallIn x i args result
  coro_called i args result is = by (action_of c w x) (fetched_of x refl) is
    where
      same_call : (j : Intrinsic) (bs : List Arg) (r : Option ℕ) → Coro j bs r ≡ Coro i args result
          → (j ≡ i) × (bs ≡ args) × (r ≡ result)
      same_call j bs r e = (cc, cc, cc)

      by : (a : Action) → Of a → a ≡ Coro i args result → IsCallIn x i args result
      by (Done v) h e = absurd (cc)
      by (NewSlot v z) h e = absurd (cc)
      by (Enter func vs r t) h e = absurd (cc)
      by (Coro j bs r) h e =
          let q = same_call j bs r e in (
            h.0,
            h.1,
            h.2 ∙ (λ k. AtInstr (Instr.Call (q.2 k) h.0 h.1 (Callee.Intrinsic (q.0 k)) (q.1 k))),
          )
      by (Deallocate p) h e = absurd (cc)
      by (GoTo label) h e = absurd (cc)
      by (Return v) h e = absurd (cc)
      by (Stuck cause) h e = absurd (cc)

  pub goto_there : (label : ℕ) → action_of c w x ≡ GoTo label → IsTermIn x
  goto_there label is = by (action_of c w x) (fetched_of x refl) is
    where
      by : (a : Action) → Of a → a ≡ GoTo label → IsTermIn x
      by (Done v) h e = absurd (cc)
      by (NewSlot v z) h e = absurd (cc)
      by (Enter func vs r t) h e = absurd (cc)
      by (Coro j bs r) h e = absurd (cc)
      by (Deallocate p) h e = absurd (cc)
      by (GoTo l) h e = h
      by (Return v) h e = absurd (cc)
      by (Stuck cause) h e = absurd (cc)
