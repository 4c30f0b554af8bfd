-- An ordinary step sets no other name than the one that it gives.
use Rattle.std.proofs.Common.{◌≡◌, ℕ, zero, suc, Bool, true, false, List, [], ◌∷◌, Option, Some, None, Result, Ok, Err, refl, ap, if◌then◌else◌}
use Rattle.std.specs.Prelude.{slice_get}
use Rattle.pass_kept_proof.specs.run_memory.Memory.{compare, copy, load, store}
use Rattle.pass_kept_proof.specs.run_memory.declared.block.MemoryBlock.{MemoryBlock}
use Rattle.pass_kept_proof.specs.run_memory.declared.pointer.Pointer.{Pointer}
use Rattle.pass_kept_proof.specs.run_memory.declared.pointer.Value.{Value}
use Rattle.pass_kept_proof.specs.ir_base.declared.cause.Cause.{Cause}
use Rattle.pass_kept_proof.specs.ir_base.declared.ops.Pred.{Pred}
use Rattle.pass_kept_proof.specs.ir_base.declared.outcome.Word.{Word}
use Rattle.pass_kept_proof.specs.run_ints.Numbers.{binary}
use Rattle.pass_kept_proof.specs.ir_model.Layout.{size_of}
use Rattle.pass_kept_proof.specs.ir_model.Names.{declaration_named, function_named}
use Rattle.pass_kept_proof.specs.ir_model.Ty.{Ty, array, int, named, ptr, structure, token}
use Rattle.pass_kept_proof.specs.ir_model.declared.instr.Case.{Case}
use Rattle.pass_kept_proof.specs.ir_model.declared.instr.Instr.{Instr}
use Rattle.pass_kept_proof.specs.ir_model.declared.instr.Terminator.{Terminator}
use Rattle.pass_kept_proof.specs.ir_model.declared.operand.Allocator.{Allocator}
use Rattle.pass_kept_proof.specs.ir_model.declared.operand.Arg.{Arg}
use Rattle.pass_kept_proof.specs.ir_model.declared.operand.Callee.{Callee}
use Rattle.pass_kept_proof.specs.ir_model.declared.operand.Intrinsic.{Intrinsic}
use Rattle.pass_kept_proof.specs.Needed.{given_by, given_by_allocator, given_by_intrinsic}
use Rattle.pass_kept_proof.specs.run_step.Step.{Action, AtInstr, AtTerm, Context, Done, Enter, Fetched, Nowhere, Stuck, Work, action_of, alloca, allocator_call, branch, by_pred, compared, copied_bytes, done, fits_function, if_alignment, indirect_call, instr_action, intrinsic_call, is_alignment, named_call, observed, set_memory, set_value, switch, term_action, value_at, with_length, words_of}
use Rattle.pass_kept_proof.specs.run_step.Values.{Env, access_of, address, arg_value, arg_values, nth, number_at, stored, truth_value, value_in, value_of, with_result, with_value}
use Rattle.pass_renewed_proof.specs.Steps.{SetsOnly, given_at}

pub set_elsewhere : (env : Env) (name at : ℕ) (x : Value) → (name ≡ at → ⊥) → value_in (with_value env name x) at ≡ value_in env at
set_elsewhere [] name at x ne = refl
set_elsewhere (y ∷ env) zero zero x ne = absurd (ne refl)
set_elsewhere (y ∷ env) zero (suc at) x ne = refl
set_elsewhere (y ∷ env) (suc name) zero x ne = refl
set_elsewhere (y ∷ env) (suc name) (suc at) x ne = set_elsewhere env name at x (λ e. ne (ap suc e))

pub result_elsewhere : (env : Env) (name : Option ℕ) (at : ℕ) (x : Value) → (name ≡ Some at → ⊥) → value_in (with_result env name x) at ≡ value_in env at
result_elsewhere env None at x ne = refl
result_elsewhere env (Some name) at x ne = set_elsewhere env name at x (λ e. ne (ap Some e))

module _ (c : Context) (w : Work) where
  abbrev Only : Option ℕ → Action → Type 0
  Only given a = SetsOnly given w.values a

  done_only : {A : Type 0} (given : Option ℕ) (f : A → Work) (r : Result A Cause) → ((a : A) → Only given (Done (f a))) → Only given (done f r)
  done_only given f (Err cause) h = tt
  done_only given f (Ok a) h = h a

  set_only : (name : ℕ) (v : Value) → Only (Some name) (Done (set_value w name v))
  set_only name v at ne = set_elsewhere w.values name at v (λ e. ne (ap Some e))

  if_only : (given : Option ℕ) (align : ℕ) (a : Action) → Only given a → Only given (if_alignment align a)
  if_only given align a h = on (is_alignment align)
    where
      on : (t : Bool) → Only given (if t then a else Stuck Cause.Align)
      on true = h
      on false = tt

  length_only : (given : Option ℕ) (v : Value) (f : ℕ → Action) → ((n : ℕ) → Only given (f n)) → Only given (with_length v f)
  length_only given (Value.Int y) f h = h y.bits
  length_only given Value.Poison f h = tt
  length_only given (Value.Ptr p) f h = tt

  memory_only : (given : Option ℕ) (r : Result (List MemoryBlock) Cause) → Only given (done (set_memory w) r)
  memory_only given (Err cause) = tt
  memory_only given (Ok k) = λ at ne. refl

  pointers_only : (name : ℕ) (pred : Pred) (r : Result Bool Cause) → Only (Some name) (done (λ same. set_value w name (truth_value (by_pred pred same))) r)
  pointers_only name pred r = done_only (Some name) (λ same. set_value w name (truth_value (by_pred pred same))) r (λ t. set_only name (truth_value (by_pred pred t)))

  compared_only : (name : ℕ) (pred : Pred) (ty : Ty) (a b : Value) → Only (Some name) (compared c w name pred ty a b)
  compared_only name pred (int n) a b = set_only name _
  compared_only name pred ptr a b = pointers_only name pred (compare c.rights w.world.memory (address a) (address b))
  compared_only name pred token a b = pointers_only name pred (compare c.rights w.world.memory (address a) (address b))
  compared_only name pred (array n t) a b = pointers_only name pred (compare c.rights w.world.memory (address a) (address b))
  compared_only name pred (structure ts) a b = pointers_only name pred (compare c.rights w.world.memory (address a) (address b))
  compared_only name pred (named n) a b = pointers_only name pred (compare c.rights w.world.memory (address a) (address b))

  observed_only : (d : ℕ) (ty : Option Ty) (result : Option ℕ) (args : Option (List Word)) → Only result (observed c w d ty result args)
  observed_only d ty result None = tt
  observed_only d None result (Some args) = λ at ne. result_elsewhere w.values result at _ ne
  observed_only d (Some ty) result (Some args) = λ at ne. result_elsewhere w.values result at _ ne

  named_only : (f d : Option ℕ) (ty : Option Ty) (result : Option ℕ) (must_tail : Bool) (vs : List Value) → Only result (named_call c w f d ty result must_tail vs)
  named_only (Some f) d ty result must_tail vs = tt
  named_only None (Some d) ty result must_tail vs = observed_only d ty result (words_of vs)
  named_only None None ty result must_tail vs = tt

  indirect_only : (given : Option ℕ) (v : Value) (ty : Option Ty) (result : Option ℕ) (must_tail : Bool) (args : List Arg) (vs : List Value) → Only given (indirect_call c v ty result must_tail args vs)
  indirect_only given (Value.Ptr (Pointer.Func f)) ty result must_tail args vs = on (fits_function ty args (slice_get c.code.functions f))
    where
      on : (t : Bool) → Only given (if t then Enter f vs result must_tail else Stuck Cause.Call)
      on true = tt
      on false = tt
  indirect_only given (Value.Ptr Pointer.Null) ty result must_tail args vs = tt
  indirect_only given (Value.Ptr (Pointer.At b o)) ty result must_tail args vs = tt
  indirect_only given Value.Poison ty result must_tail args vs = tt
  indirect_only given (Value.Int y) ty result must_tail args vs = tt

  copied_only : (given : Option ℕ) (vs : List Value) → Only given (copied_bytes c w vs)
  copied_only given vs = length_only given (nth vs 2) _ (λ n. memory_only given (copy c.rights w.world.memory (address (nth vs 0)) (address (nth vs 1)) n))

  intrinsic_only : (i : Intrinsic) (result : Option ℕ) (args : List Arg) (vs : List Value) → Only (given_by_intrinsic i result) (intrinsic_call c w i result args vs)
  intrinsic_only Intrinsic.LifetimeStart result args vs = λ at ne. refl
  intrinsic_only Intrinsic.LifetimeEnd result args vs = λ at ne. refl
  intrinsic_only Intrinsic.MemcpyI64 result args vs = copied_only None vs
  intrinsic_only Intrinsic.MemcpyI32 result args vs = copied_only None vs
  intrinsic_only _ result args vs = tt

  allocator_only : (a : Allocator) (result : Option ℕ) (vs : List Value) → Only (given_by_allocator a result) (allocator_call a w result vs)
  allocator_only Allocator.Malloc result vs = length_only result (nth vs 0) _ (λ n at ne. result_elsewhere w.values result at _ ne)
  allocator_only Allocator.Znwm result vs = length_only result (nth vs 0) _ (λ n at ne. result_elsewhere w.values result at _ ne)
  allocator_only Allocator.Free result vs = tt
  allocator_only Allocator.ZdlPv result vs = tt
  allocator_only Allocator.ZdlPvm result vs = tt

  call_only : (result : Option ℕ) (must_tail : Bool) (ty : Option Ty) (callee : Callee) (args : List Arg) → Only (given_by (Instr.Call result must_tail ty callee args)) (instr_action c w (Instr.Call result must_tail ty callee args))
  call_only result must_tail ty (Callee.Named n) args = named_only (function_named c.code n) (declaration_named c.code n) ty result must_tail (arg_values c.code w.values args)
  call_only result must_tail ty (Callee.Allocator a) args = allocator_only a result (arg_values c.code w.values args)
  call_only result must_tail ty (Callee.Intrinsic i) args = intrinsic_only i result args (arg_values c.code w.values args)
  call_only result must_tail ty (Callee.Local name) args = indirect_only result (value_in w.values name) ty result must_tail args (arg_values c.code w.values args)

  alloca_only : (name size align : ℕ) → Only (Some name) (alloca c w name size align)
  alloca_only name size align = λ at ne. set_elsewhere w.values name at _ (λ e. ne (ap Some e))

  instr_only : (i : Instr) → Only (given_by i) (instr_action c w i)
  instr_only (Instr.Binary name op flags ty a b) = done_only (Some name) (λ n. set_value w name (value_of n)) (binary op flags (number_at ty (value_at c w ty a)) (number_at ty (value_at c w ty b))) (λ n. set_only name (value_of n))
  instr_only (Instr.Icmp name pred ty a b) = compared_only name pred ty (value_at c w ty a) (value_at c w ty b)
  instr_only (Instr.Select name x a b) = set_only name _
  instr_only (Instr.Cast name op nneg arg to) = set_only name _
  instr_only (Instr.Alloca name ty align) = if_only (Some name) align _ (alloca_only name (size_of c.code ty) align)
  instr_only (Instr.Load name ty p align) = if_only (Some name) align _ (done_only (Some name) (set_value w name) (load c.rights w.world.memory (address (value_at c w ptr p)) (access_of ty) align) (set_only name))
  instr_only (Instr.Store arg p align) = if_only None align _ (memory_only None (store c.rights w.world.memory (address (value_at c w ptr p)) (stored (access_of arg.ty) (arg_value c.code w.values arg)) (access_of arg.ty) align))
  instr_only (Instr.Gep name inbounds ty base indices) = set_only name _
  instr_only (Instr.Call result must_tail ty callee args) = call_only result must_tail ty callee args

  branch_only : (v : Value) (a b : ℕ) → Only None (branch v a b)
  branch_only (Value.Int y) a b = tt
  branch_only Value.Poison a b = tt
  branch_only (Value.Ptr p) a b = tt

  switch_only : (v : Value) (default : ℕ) (cases : List Case) → Only None (switch c.code v default cases)
  switch_only (Value.Int y) default cases = tt
  switch_only Value.Poison default cases = tt
  switch_only (Value.Ptr p) default cases = tt

  term_only : (t : Terminator) → Only None (term_action c w t)
  term_only (Terminator.Jump label) = tt
  term_only (Terminator.Branch y a b) = branch_only (value_at c w (int 1) y) a b
  term_only (Terminator.Switch arg default cases) = switch_only (arg_value c.code w.values arg) default cases
  term_only (Terminator.Ret None) = tt
  term_only (Terminator.Ret (Some arg)) = tt
  term_only Terminator.Unreachable = tt

  pub step_sets : (here : Fetched) → SetsOnly (given_at here) w.values (action_of c w here)
  step_sets Nowhere = tt
  step_sets (AtInstr i) = instr_only i
  step_sets (AtTerm t) = term_only t
