-- Only calls of functions, by their names or through pointers, enter one.
use Rattle.std.proofs.Common.{◌≡◌, ℕ, Bool, true, false, List, Option, Result, Ok, Err, if◌then◌else◌}
use Rattle.std.specs.Prelude.{None, Some}
use Rattle.pass_elide_proof.specs.PlacingStates.{is_entering}
use Rattle.pass_proofs.specs.ir_base.declared.cause.Cause.{Cause}
use Rattle.pass_proofs.specs.ir_base.declared.ops.Pred.{Pred}
use Rattle.pass_proofs.specs.ir_model.Layout.{size_of}
use Rattle.pass_proofs.specs.ir_model.Ty.{Ty, array, int, named, ptr, structure, token}
use Rattle.pass_proofs.specs.ir_model.declared.instr.Case.{Case}
use Rattle.pass_proofs.specs.ir_model.declared.instr.Instr.{Instr}
use Rattle.pass_proofs.specs.ir_model.declared.instr.Terminator.{Terminator}
use Rattle.pass_proofs.specs.ir_model.declared.operand.Allocator.{Allocator}
use Rattle.pass_proofs.specs.ir_model.declared.operand.Arg.{Arg}
use Rattle.pass_proofs.specs.ir_model.declared.operand.Callee.{Callee}
use Rattle.pass_proofs.specs.ir_model.declared.operand.Intrinsic.{Intrinsic}
use Rattle.pass_proofs.specs.run_ints.Numbers.{binary}
use Rattle.pass_proofs.specs.run_memory.Memory.{compare, copy, load, store}
use Rattle.pass_proofs.specs.run_memory.declared.pointer.Value.{Value}
use Rattle.pass_proofs.specs.run_step.Step.{Action, Context, Done, Enter, Stuck, Work, alloca, allocated, allocator_call, branch, by_pred, compared, copied_bytes, done, if_alignment, instr_action, intrinsic_call, is_alignment, set_memory, set_value, switch, term_action, value_at, with_length}
use Rattle.pass_proofs.specs.run_step.Values.{access_of, address, arg_value, arg_values, nth, number_at, stored, truth_value, value_of}

-- the action enters no function
abbrev pub EntersNone : Action → Type 0
EntersNone (Enter func args result must_tail) = ⊥
EntersNone _ = Unit {0}

done_none : {A : Type 0} (f : A → Work) (r : Result A Cause) → EntersNone (done f r)
done_none f (Err cause) = tt
done_none f (Ok a) = tt

aligned_none : (align : ℕ) (a : Action) → EntersNone a → EntersNone (if_alignment align a)
aligned_none align a h = by (is_alignment align)
  where
    by : (t : Bool) → EntersNone (if t then a else Stuck Cause.Align)
    by true = h
    by false = tt

length_none : (v : Value) (f : ℕ → Action) → ((n : ℕ) → EntersNone (f n)) → EntersNone (with_length v f)
length_none (Value.Int y) f h = h y.bits
length_none Value.Poison f h = tt
length_none (Value.Ptr p) f h = tt

module _ (c : Context) (w : Work) where
  pointers_none : (name : ℕ) (pred : Pred) (a b : Value)
      → EntersNone (done (λ same. set_value w name (truth_value (by_pred pred same)))
      (compare c.rights w.world.memory (address a) (address b)))
  pointers_none name pred a b =
      done_none (λ same. set_value w name (truth_value (by_pred pred same)))
      (compare c.rights w.world.memory (address a) (address b))

  compared_none : (name : ℕ) (pred : Pred) (ty : Ty) (a b : Value) → EntersNone (compared c w name pred ty a b)
  compared_none name pred (int n) a b = tt
  compared_none name pred ptr a b = pointers_none name pred a b
  compared_none name pred token a b = pointers_none name pred a b
  compared_none name pred (array n t) a b = pointers_none name pred a b
  compared_none name pred (structure ts) a b = pointers_none name pred a b
  compared_none name pred (named n) a b = pointers_none name pred a b

  copied_none : (vs : List Value) → EntersNone (copied_bytes c w vs)
  copied_none vs =
      length_none (nth vs 2)
      (λ n. done (set_memory w) (copy c.rights w.world.memory (address (nth vs 0)) (address (nth vs 1)) n))
      (λ n. done_none (set_memory w) (copy c.rights w.world.memory (address (nth vs 0)) (address (nth vs 1)) n))

  intrinsic_none : (i : Intrinsic) (result : Option ℕ) (args : List Arg) (vs : List Value)
      → EntersNone (intrinsic_call c w i result args vs)
  intrinsic_none Intrinsic.LifetimeStart result args vs = tt
  intrinsic_none Intrinsic.LifetimeEnd result args vs = tt
  intrinsic_none Intrinsic.MemcpyI64 result args vs = copied_none vs
  intrinsic_none Intrinsic.MemcpyI32 result args vs = copied_none vs
  intrinsic_none _ result args vs = tt

  allocator_none : (a : Allocator) (result : Option ℕ) (vs : List Value) → EntersNone (allocator_call a w result vs)
  allocator_none Allocator.Malloc result vs =
      length_none (nth vs 0) (λ n. Done (allocated w result n)) (λ n. tt)
  allocator_none Allocator.Znwm result vs =
      length_none (nth vs 0) (λ n. Done (allocated w result n)) (λ n. tt)
  allocator_none Allocator.Free result vs = tt
  allocator_none Allocator.ZdlPv result vs = tt
  allocator_none Allocator.ZdlPvm result vs = tt

  pub instr_none : (i : Instr) → is_entering i ≡ false → EntersNone (instr_action c w i)
  instr_none (Instr.Binary name op flags ty a b) e =
      done_none (λ n. set_value w name (value_of n))
      (binary op flags (number_at ty (value_at c w ty a)) (number_at ty (value_at c w ty b)))
  instr_none (Instr.Icmp name pred ty a b) e = compared_none name pred ty (value_at c w ty a) (value_at c w ty b)
  instr_none (Instr.Select name x a b) e = tt
  instr_none (Instr.Cast name op nneg arg to) e = tt
  instr_none (Instr.Alloca name ty align) e = aligned_none align (alloca c w name (size_of c.code ty) align) tt
  instr_none (Instr.Load name ty p align) e =
      aligned_none align
      (done (set_value w name) (load c.rights w.world.memory (address (value_at c w ptr p)) (access_of ty) align))
      (done_none (set_value w name)
      (load c.rights w.world.memory (address (value_at c w ptr p)) (access_of ty) align))
  instr_none (Instr.Store arg p align) e =
      aligned_none align
      (done (set_memory w)
      (store c.rights w.world.memory (address (value_at c w ptr p))
      (stored (access_of arg.ty) (arg_value c.code w.values arg)) (access_of arg.ty) align))
      (done_none (set_memory w)
      (store c.rights w.world.memory (address (value_at c w ptr p))
      (stored (access_of arg.ty) (arg_value c.code w.values arg)) (access_of arg.ty) align))
  instr_none (Instr.Gep name inbounds ty base indices) e = tt
  instr_none (Instr.Call result must_tail ty (Callee.Named n) args) e = absurd (cc)
  instr_none (Instr.Call result must_tail ty (Callee.Local v) args) e = absurd (cc)
  instr_none (Instr.Call result must_tail ty (Callee.Allocator a) args) e =
      allocator_none a result (arg_values c.code w.values args)
  instr_none (Instr.Call result must_tail ty (Callee.Intrinsic i) args) e =
      intrinsic_none i result args (arg_values c.code w.values args)

  branch_none : (v : Value) (a b : ℕ) → EntersNone (branch v a b)
  branch_none (Value.Int x) a b = tt
  branch_none Value.Poison a b = tt
  branch_none (Value.Ptr p) a b = tt

  switch_none : (v : Value) (default : ℕ) (cases : List Case) → EntersNone (switch c.code v default cases)
  switch_none (Value.Int x) default cases = tt
  switch_none Value.Poison default cases = tt
  switch_none (Value.Ptr p) default cases = tt

  pub term_none : (t : Terminator) → EntersNone (term_action c w t)
  term_none (Terminator.Jump label) = tt
  term_none (Terminator.Branch x a b) = branch_none (value_at c w (int 1) x) a b
  term_none (Terminator.Switch arg default cases) = switch_none (arg_value c.code w.values arg) default cases
  term_none (Terminator.Ret None) = tt
  term_none (Terminator.Ret (Some arg)) = tt
  term_none Terminator.Unreachable = tt
