-- A step that makes, marks and allocates no block changes no more than what bytes hold.
use Rattle.std.proofs.Common.{◌≡◌, ℕ, Bool, true, false, List, Option, Some, None, Result, Ok, Err, refl, sym, ap, ◌∙◌, subst, ⊎_elim, if◌then◌else◌}
use Rattle.std.specs.Prelude.{slice_get}
use Rattle.std.proofs.lemmas.Bool.{cases_eq}
use Rattle.run_memory.specs.Memory.{compare, copy, is_killed, is_live, load, same_kind, store, with_block}
use Rattle.run_memory.specs.declared.block.Byte.{Byte}
use Rattle.run_memory.specs.declared.block.Kind.{Kind}
use Rattle.run_memory.specs.declared.block.MemoryBlock.{MemoryBlock}
use Rattle.run_memory.specs.declared.pointer.Pointer.{Pointer}
use Rattle.run_memory.specs.declared.pointer.Value.{Value}
use Rattle.ir_base.specs.declared.cause.Cause.{Cause}
use Rattle.ir_base.specs.declared.ops.Pred.{Pred}
use Rattle.ir_base.specs.declared.outcome.Word.{Word}
use Rattle.run_ints.specs.Numbers.{binary}
use Rattle.run_ints.specs.declared.num.Num.{Num}
use Rattle.ir_model.specs.Names.{declaration_named, function_named}
use Rattle.ir_model.specs.Ty.{Ty, array, int, named, ptr, structure, token}
use Rattle.ir_model.specs.declared.instr.Case.{Case}
use Rattle.ir_model.specs.declared.instr.Instr.{Instr}
use Rattle.ir_model.specs.declared.instr.Terminator.{Terminator}
use Rattle.ir_model.specs.declared.operand.Allocator.{Allocator}
use Rattle.ir_model.specs.declared.operand.Arg.{Arg}
use Rattle.ir_model.specs.declared.operand.Callee.{Callee}
use Rattle.ir_model.specs.declared.operand.Intrinsic.{Intrinsic}
use Rattle.run_laws.proofs.memory.Written.{changed_elsewhere}
use Rattle.run_laws.specs.memory.Pointers.{Home, home_of}
use Rattle.run_step.specs.Step.{Action, AtInstr, AtTerm, Context, Enter, Fetched, Nowhere, Stuck, Work, action_of, branch, by_pred, compared, copied_bytes, done, fits_function, if_alignment, indirect_call, instr_action, intrinsic_call, is_alignment, named_call, observed, set_memory, set_value, switch, term_action, with_length, words_of}
use Rattle.run_step.specs.Values.{access_of, address, arg_value, arg_values, nth, number_at, operand_value, stored, truth_value, value_in, value_of}
use Rattle.run_laws.proofs.embedded.Memories.{copy_refills, same_refills, store_refills}
use Rattle.run_laws.specs.embedded.Marks.{IsAlone, IsTwin, LivesAlone}
use Rattle.run_laws.specs.embedded.Refilled.{AreRefilled, IsRefilled, OnlyRefills}
use Rattle.run_laws.specs.embedded.Related.{HasNoSlot}

module _ (c : Context) (w : Work) where
  abbrev m : List MemoryBlock
  m = w.world.memory

  abbrev Only : Action → Type 0
  Only a = OnlyRefills m a

  done_only : {A : Type 0} (f : A → Work) (r : Result A Cause) → ((a : A) → r ≡ Ok a → AreRefilled m (f a).world.memory) → Only (done f r)
  done_only f (Err cause) h = tt
  done_only f (Ok a) h = h a refl

  if_only : (align : ℕ) (a : Action) → Only a → Only (if_alignment align a)
  if_only align a h = on (is_alignment align)
    where
      on : (t : Bool) → Only (if t then a else Stuck Cause.Align)
      on true = h
      on false = tt

  length_only : (v : Value) (f : ℕ → Action) → ((n : ℕ) → Only (f n)) → Only (with_length v f)
  length_only (Value.Int y) f h = h y.bits
  length_only Value.Poison f h = tt
  length_only (Value.Ptr p) f h = tt

  numbers_only : (name : ℕ) (r : Result Num Cause) → Only (done (λ n. set_value w name (value_of n)) r)
  numbers_only name r = done_only (λ n. set_value w name (value_of n)) r (λ n e. same_refills m)

  pointers_only : (name : ℕ) (pred : Pred) (r : Result Bool Cause) → Only (done (λ same. set_value w name (truth_value (by_pred pred same))) r)
  pointers_only name pred r = done_only (λ same. set_value w name (truth_value (by_pred pred same))) r (λ t e. same_refills m)

  compared_only : (name : ℕ) (pred : Pred) (ty : Ty) (a b : Value) → Only (compared c w name pred ty a b)
  compared_only name pred (int n) a b = same_refills m
  compared_only name pred ptr a b = pointers_only name pred (compare c.rights m (address a) (address b))
  compared_only name pred token a b = pointers_only name pred (compare c.rights m (address a) (address b))
  compared_only name pred (array n t) a b = pointers_only name pred (compare c.rights m (address a) (address b))
  compared_only name pred (structure ts) a b = pointers_only name pred (compare c.rights m (address a) (address b))
  compared_only name pred (named n) a b = pointers_only name pred (compare c.rights m (address a) (address b))

  -- ---- calls

  observed_only : (n : ℕ) (ty : Option Ty) (result : Option ℕ) (args : Option (List Word)) → Only (observed c w n ty result args)
  observed_only n ty result None = tt
  observed_only n None result (Some args) = same_refills m
  observed_only n (Some ty) result (Some args) = same_refills m

  named_only : (f n : Option ℕ) (ty : Option Ty) (result : Option ℕ) (must_tail : Bool) (vs : List Value) → Only (named_call c w f n ty result must_tail vs)
  named_only (Some f) n ty result must_tail vs = tt
  named_only None (Some n) ty result must_tail vs = observed_only n ty result (words_of vs)
  named_only None None ty result must_tail vs = tt

  indirect_only : (v : Value) (ty : Option Ty) (result : Option ℕ) (must_tail : Bool) (args : List Arg) (vs : List Value) → Only (indirect_call c v ty result must_tail args vs)
  indirect_only (Value.Ptr (Pointer.Func f)) ty result must_tail args vs = on (fits_function ty args (slice_get c.code.functions f))
    where
      on : (t : Bool) → Only (if t then Enter f vs result must_tail else Stuck Cause.Call)
      on true = tt
      on false = tt
  indirect_only (Value.Ptr Pointer.Null) ty result must_tail args vs = tt
  indirect_only (Value.Ptr (Pointer.At b o)) ty result must_tail args vs = tt
  indirect_only Value.Poison ty result must_tail args vs = tt
  indirect_only (Value.Int y) ty result must_tail args vs = tt

  copied_only : (vs : List Value) → Only (copied_bytes c w vs)
  copied_only vs = length_only (nth vs 2) _ (λ n. done_only (set_memory w) (copy c.rights m (address (nth vs 0)) (address (nth vs 1)) n) (λ k e. copy_refills c.rights m k (address (nth vs 0)) (address (nth vs 1)) n e))

  intrinsic_only : (i : Intrinsic) (result : Option ℕ) (must_tail : Bool) (ty : Option Ty) (args : List Arg) (vs : List Value) → HasNoSlot (AtInstr (Instr.Call result must_tail ty (Callee.Intrinsic i) args)) → Only (intrinsic_call c w i result args vs)
  intrinsic_only Intrinsic.LifetimeStart result must_tail ty args vs s = absurd s
  intrinsic_only Intrinsic.LifetimeEnd result must_tail ty args vs s = absurd s
  intrinsic_only Intrinsic.MemcpyI64 result must_tail ty args vs s = copied_only vs
  intrinsic_only Intrinsic.MemcpyI32 result must_tail ty args vs s = copied_only vs
  intrinsic_only _ result must_tail ty args vs s = tt

  call_only : (result : Option ℕ) (must_tail : Bool) (ty : Option Ty) (callee : Callee) (args : List Arg) → HasNoSlot (AtInstr (Instr.Call result must_tail ty callee args)) → Only (instr_action c w (Instr.Call result must_tail ty callee args))
  call_only result must_tail ty (Callee.Named n) args s = named_only (function_named c.code n) (declaration_named c.code n) ty result must_tail (arg_values c.code w.values args)
  call_only result must_tail ty (Callee.Allocator Allocator.Malloc) args s = absurd s
  call_only result must_tail ty (Callee.Allocator Allocator.Znwm) args s = absurd s
  call_only result must_tail ty (Callee.Allocator Allocator.Free) args s = tt
  call_only result must_tail ty (Callee.Allocator Allocator.ZdlPv) args s = tt
  call_only result must_tail ty (Callee.Allocator Allocator.ZdlPvm) args s = tt
  call_only result must_tail ty (Callee.Intrinsic i) args s = intrinsic_only i result must_tail ty args (arg_values c.code w.values args) s
  call_only result must_tail ty (Callee.Local name) args s = indirect_only (value_in w.values name) ty result must_tail args (arg_values c.code w.values args)

  -- ---- instructions and terminators

  instr_only : (i : Instr) → HasNoSlot (AtInstr i) → Only (instr_action c w i)
  instr_only (Instr.Binary name op flags ty a b) s = numbers_only name (binary op flags (number_at ty (operand_value c.code w.values ty a)) (number_at ty (operand_value c.code w.values ty b)))
  instr_only (Instr.Icmp name pred ty a b) s = compared_only name pred ty _ _
  instr_only (Instr.Select name y a b) s = same_refills m
  instr_only (Instr.Cast name op nneg arg to) s = same_refills m
  instr_only (Instr.Alloca name ty align) s = absurd s
  instr_only (Instr.Load name ty p align) s = if_only align _ (done_only (set_value w name) (load c.rights m (address (operand_value c.code w.values ptr p)) (access_of ty) align) (λ v e. same_refills m))
  instr_only (Instr.Store arg p align) s =
      if_only align _
      (done_only (set_memory w) (store c.rights m (address (operand_value c.code w.values ptr p)) (stored (access_of arg.ty) (arg_value c.code w.values arg)) (access_of arg.ty) align)
      (λ k e. store_refills c.rights m k (address (operand_value c.code w.values ptr p)) (stored (access_of arg.ty) (arg_value c.code w.values arg)) (access_of arg.ty) align e))
  instr_only (Instr.Gep name inbounds ty base indices) s = same_refills m
  instr_only (Instr.Call result must_tail ty callee args) s = call_only result must_tail ty callee args s

  branch_only : (v : Value) (a b : ℕ) → Only (branch v a b)
  branch_only (Value.Int y) a b = tt
  branch_only Value.Poison a b = tt
  branch_only (Value.Ptr p) a b = tt

  switch_only : (v : Value) (default : ℕ) (cases : List Case) → Only (switch c.code v default cases)
  switch_only (Value.Int y) default cases = tt
  switch_only Value.Poison default cases = tt
  switch_only (Value.Ptr p) default cases = tt

  term_only : (t : Terminator) → Only (term_action c w t)
  term_only (Terminator.Jump label) = tt
  term_only (Terminator.Branch y a b) = branch_only (operand_value c.code w.values (int 1) y) a b
  term_only (Terminator.Switch arg default cases) = switch_only (arg_value c.code w.values arg) default cases
  term_only (Terminator.Ret None) = tt
  term_only (Terminator.Ret (Some arg)) = tt
  term_only Terminator.Unreachable = tt

pub step_only : (c : Context) (w : Work) (here : Fetched) → HasNoSlot here → OnlyRefills w.world.memory (action_of c w here)
step_only c w Nowhere s = tt
step_only c w (AtInstr i) s = instr_only c w i s
step_only c w (AtTerm t) s = term_only c w t

-- ---- blocks that stand alone

record Was (o : Option MemoryBlock) (y : MemoryBlock) : Type 0 where
  block : MemoryBlock
  there : o ≡ Some block
  same : y ≡ record block { bytes = y.bytes }

was : (o o' : Option MemoryBlock) (y : MemoryBlock) → IsRefilled o o' → o' ≡ Some y → Was o y
was None None y h e = absurd (cc)
was None (Some z) y h e = absurd h
was (Some x) None y h e = absurd h
was (Some x) (Some z) y h e = let is : z ≡ y = cc in record { block = x; there = refl; same = subst (λ (u : MemoryBlock). u ≡ record x { bytes = u.bytes }) is h }

pub lives_stay : (homes : List Home) (m k : List MemoryBlock) (b : ℕ) → AreRefilled m k → LivesAlone homes m b → LivesAlone homes k b
lives_stay homes m k b refilled alone = λ c z ne e live.
    let h = was (slice_get m c) (slice_get k c) z (refilled.each c) e in
    alone c h.block ne h.there (sym (ap (λ (u : MemoryBlock). is_live u.life) h.same) ∙ live)

pub alone_stays : (homes : List Home) (m k : List MemoryBlock) (b : ℕ) → AreRefilled m k → IsAlone homes m b → IsAlone homes k b
alone_stays homes m k b refilled alone = record {
  live = lives_stay homes m k b refilled alone.live;
  seen = alone.seen;
}

-- a block into which pointers may be about is marked, or dies, elsewhere
pub alone_changed : (homes : List Home) (m : List MemoryBlock) (b k : ℕ) (f : MemoryBlock → MemoryBlock) → (home_of homes k).is_seen ≡ true → IsAlone homes m b → IsAlone homes (with_block m k f) b
alone_changed homes m b k f seen alone = record {
  live = λ c z ne e live. ⊎_elim
      (λ is. alone.seen c ne (ap (λ i. (home_of homes i).is_seen) is ∙ seen))
      (λ other. alone.live c z ne (sym (changed_elsewhere m k c f other) ∙ e) live)
      (cases_eq c k);
  seen = alone.seen;
}

record Now (o : Option MemoryBlock) (x : MemoryBlock) : Type 0 where
  block : MemoryBlock
  there : o ≡ Some block
  same : block ≡ record x { bytes = block.bytes }

now : (o o' : Option MemoryBlock) (x : MemoryBlock) → IsRefilled o o' → o ≡ Some x → Now o' x
now None o' x h e = absurd (cc)
now (Some z) None x h e = absurd h
now (Some z) (Some y) x h e = let is : z ≡ x = cc in record { block = y; there = refl; same = subst (λ (u : MemoryBlock). y ≡ record u { bytes = y.bytes }) is h }

pub twin_stays : (n k : List MemoryBlock) (h : Home) (x : MemoryBlock) (bytes : List Byte) → AreRefilled n k → IsTwin n h x → IsTwin k h (record x { bytes = bytes })
twin_stays n k h x bytes refilled twin =
    let y = now (slice_get n h.block) (slice_get k h.block) twin.block (refilled.each h.block) twin.there in
    record {
      block = y.block;
      there = y.there;
      start = twin.start;
      unkilled = λ e. ap (λ (u : MemoryBlock). is_killed u.life) y.same ∙ twin.unkilled e;
      owner = ap (λ (u : MemoryBlock). u.owned) y.same ∙ twin.owner;
      align = ap (λ (u : MemoryBlock). u.align) y.same ∙ twin.align;
      writable = λ e. ap (λ (u : MemoryBlock). same_kind u.kind Kind.Constant) y.same ∙ twin.writable e;
    }
