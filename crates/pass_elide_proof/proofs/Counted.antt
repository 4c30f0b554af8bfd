-- An ordinary step doesn't look at the count of allocator calls.
use Rattle.std.proofs.Common.{◌≡◌, ℕ, Bool, true, false, List, Option, Result, Ok, Err, refl, if◌then◌else◌}
use Rattle.std.specs.Prelude.{None, Some}
use Rattle.pass_elide_proof.specs.Counts.{counted_action, counted_work}
use Rattle.pass_proofs.specs.ir_base.declared.cause.Cause.{Cause}
use Rattle.pass_proofs.specs.ir_base.declared.ops.Pred.{Pred}
use Rattle.pass_proofs.specs.ir_base.declared.outcome.Word.{Word}
use Rattle.pass_proofs.specs.ir_model.Names.{declaration_named, function_named}
use Rattle.pass_proofs.specs.ir_model.Ty.{Ty, array, int, named, ptr, structure, token}
use Rattle.pass_proofs.specs.ir_model.declared.instr.Instr.{Instr}
use Rattle.pass_proofs.specs.ir_model.declared.instr.Terminator.{Terminator}
use Rattle.pass_proofs.specs.ir_model.declared.operand.Allocator.{Allocator}
use Rattle.pass_proofs.specs.ir_model.declared.operand.Arg.{Arg}
use Rattle.pass_proofs.specs.ir_model.declared.operand.Callee.{Callee}
use Rattle.pass_proofs.specs.ir_model.declared.operand.Intrinsic.{Intrinsic}
use Rattle.pass_proofs.specs.run_ints.Numbers.{binary}
use Rattle.pass_proofs.specs.run_memory.Memory.{compare, copy, load, store}
use Rattle.pass_proofs.specs.run_memory.declared.block.MemoryBlock.{MemoryBlock}
use Rattle.pass_proofs.specs.run_memory.declared.pointer.Value.{Value}
use Rattle.pass_proofs.specs.run_step.Step.{Action, AtInstr, AtTerm, Context, Done, Fetched, Nowhere, Stuck, Work, action_of, allocator_call, by_pred, compared, copied_bytes, done, if_alignment, instr_action, intrinsic_call, is_alignment, named_call, observed, set_memory, set_value, term_action, value_at, with_length, words_of}
use Rattle.pass_proofs.specs.run_step.Values.{access_of, address, arg_value, arg_values, nth, number_at, stored, truth_value}

module _ (n k : ℕ) (c : Context) (w : Work) where
  abbrev m : List MemoryBlock
  m = w.world.memory

  abbrev v : Work
  v = counted_work k w

  abbrev Same : Action → Action → Type 0
  Same a b = counted_action n a ≡ counted_action n b

  -- ---- what goes on behind a test, a length or a result

  done_same : {A : Type 0} (f g : A → Work) (r : Result A Cause)
      → ((a : A) → counted_work n (f a) ≡ counted_work n (g a)) → Same (done f r) (done g r)
  done_same f g (Err cause) h = refl
  done_same f g (Ok a) h = λ i. Done (h a i)

  if_same : (align : ℕ) (a b : Action) → Same a b → Same (if_alignment align a) (if_alignment align b)
  if_same align a b h = on (is_alignment align)
    where
      on : (t : Bool) → Same (if t then a else Stuck Cause.Align) (if t then b else Stuck Cause.Align)
      on true = h
      on false = refl

  length_same : (u : Value) (f g : ℕ → Action) → ((j : ℕ) → Same (f j) (g j))
      → Same (with_length u f) (with_length u g)
  length_same (Value.Int y) f g h = h y.bits
  length_same Value.Poison f g h = refl
  length_same (Value.Ptr p) f g h = refl

  -- ---- comparisons

  pointers_same : (name : ℕ) (pred : Pred) (a b : Value)
      → Same (done (λ same. set_value v name (truth_value (by_pred pred same))) (compare c.rights m (address a)
      (address b)))
      (done (λ same. set_value w name (truth_value (by_pred pred same))) (compare c.rights m (address a) (address b)))
  pointers_same name pred a b = done_same _ _ (compare c.rights m (address a) (address b)) (λ t. refl)

  compared_same : (name : ℕ) (pred : Pred) (ty : Ty) (a b : Value)
      → Same (compared c v name pred ty a b) (compared c w name pred ty a b)
  compared_same name pred (int j) a b = refl
  compared_same name pred ptr a b = pointers_same name pred a b
  compared_same name pred token a b = pointers_same name pred a b
  compared_same name pred (array j t) a b = pointers_same name pred a b
  compared_same name pred (structure ts) a b = pointers_same name pred a b
  compared_same name pred (named j) a b = pointers_same name pred a b

  -- ---- calls

  observed_same : (d : ℕ) (ty : Option Ty) (result : Option ℕ) (args : Option (List Word))
      → Same (observed c v d ty result args) (observed c w d ty result args)
  observed_same d ty result None = refl
  observed_same d None result (Some args) = refl
  observed_same d (Some ty) result (Some args) = refl

  named_same : (f d : Option ℕ) (ty : Option Ty) (result : Option ℕ) (must_tail : Bool) (vs : List Value)
      → Same (named_call c v f d ty result must_tail vs) (named_call c w f d ty result must_tail vs)
  named_same (Some f) d ty result must_tail vs = refl
  named_same None (Some d) ty result must_tail vs = observed_same d ty result (words_of vs)
  named_same None None ty result must_tail vs = refl

  copied_same : (args : List Arg)
      → Same (copied_bytes c v (arg_values c.code w.values args)) (copied_bytes c w (arg_values c.code w.values args))
  copied_same args =
      length_same (nth (arg_values c.code w.values args) 2) _ _
      (λ j. done_same (set_memory v) (set_memory w)
      (copy c.rights m (address (nth (arg_values c.code w.values args) 0)) (address (nth
      (arg_values c.code w.values args) 1)) j)
      (λ a. refl))

  intrinsic_same : (i : Intrinsic) (result : Option ℕ) (args : List Arg)
      → Same (intrinsic_call c v i result args (arg_values c.code w.values args))
      (intrinsic_call c w i result args (arg_values c.code w.values args))
  intrinsic_same Intrinsic.LifetimeStart result args = refl
  intrinsic_same Intrinsic.LifetimeEnd result args = refl
  intrinsic_same Intrinsic.MemcpyI64 result args = copied_same args
  intrinsic_same Intrinsic.MemcpyI32 result args = copied_same args
  intrinsic_same _ result args = refl

  allocator_same : (a : Allocator) (result : Option ℕ) (vs : List Value)
      → Same (allocator_call a v result vs) (allocator_call a w result vs)
  allocator_same Allocator.Malloc result vs = length_same (nth vs 0) _ _ (λ j. refl)
  allocator_same Allocator.Znwm result vs = length_same (nth vs 0) _ _ (λ j. refl)
  allocator_same Allocator.Free result vs = refl
  allocator_same Allocator.ZdlPv result vs = refl
  allocator_same Allocator.ZdlPvm result vs = refl

  call_same : (result : Option ℕ) (must_tail : Bool) (ty : Option Ty) (callee : Callee) (args : List Arg)
      → Same (instr_action c v (Instr.Call result must_tail ty callee args))
      (instr_action c w (Instr.Call result must_tail ty callee args))
  call_same result must_tail ty (Callee.Named j) args =
      named_same (function_named c.code j) (declaration_named c.code j) ty result must_tail
      (arg_values c.code w.values args)
  call_same result must_tail ty (Callee.Allocator a) args = allocator_same a result (arg_values c.code w.values args)
  call_same result must_tail ty (Callee.Intrinsic i) args = intrinsic_same i result args
  call_same result must_tail ty (Callee.Local name) args = refl

  -- ---- instructions and terminators

  instr_same : (i : Instr) → Same (instr_action c v i) (instr_action c w i)
  instr_same (Instr.Binary name op flags ty a b) =
      done_same _ _ (binary op flags (number_at ty (value_at c w ty a)) (number_at ty (value_at c w ty b))) (λ j. refl)
  instr_same (Instr.Icmp name pred ty a b) = compared_same name pred ty (value_at c w ty a) (value_at c w ty b)
  instr_same (Instr.Select name x a b) = refl
  instr_same (Instr.Cast name op nneg arg to) = refl
  instr_same (Instr.Alloca name ty align) = if_same align _ _ refl
  instr_same (Instr.Load name ty p align) =
      if_same align _ _
      (done_same _ _ (load c.rights m (address (value_at c w ptr p)) (access_of ty) align) (λ j. refl))
  instr_same (Instr.Store arg p align) =
      if_same align _ _
      (done_same _ _
      (store c.rights m (address (value_at c w ptr p)) (stored (access_of arg.ty) (arg_value c.code w.values arg))
      (access_of arg.ty) align) (λ j. refl))
  instr_same (Instr.Gep name inbounds ty base indices) = refl
  instr_same (Instr.Call result must_tail ty callee args) = call_same result must_tail ty callee args

  pub step_same : (here : Fetched) → Same (action_of c v here) (action_of c w here)
  step_same Nowhere = refl
  step_same (AtInstr i) = instr_same i
  step_same (AtTerm t) = term_same t
    where
      term_same : (t : Terminator) → Same (term_action c v t) (term_action c w t)
      term_same (Terminator.Jump label) = refl
      term_same (Terminator.Branch y a b) = refl
      term_same (Terminator.Switch arg default cases) = refl
      term_same (Terminator.Ret None) = refl
      term_same (Terminator.Ret (Some arg)) = refl
      term_same Terminator.Unreachable = refl
