-- An instruction's action depends only on the values that it reads.
use Rattle.std.proofs.Common.{◌≡◌, ℕ, ◌⊎◌, inl, inr, Bool, true, false, List, [], ◌∷◌, Option, Some, None, Result, Ok, Err, refl, sym, subst}
use Rattle.std.specs.Prelude.{◌==◌, IsTrue, IsFalse, map, slice_get, if◌then◌else◌}
use Rattle.ir_model.specs.Ty.{int, ptr}
use Rattle.pass_kept_proof.specs.Needed.{BranchesTo, PassesBy, given_by, given_by_call, given_by_intrinsic, reads, reads_at, reads_call}
use Rattle.pass_kept_proof.proofs.Same.{indices_same, SameOn, same_less, same_set, same_result, operand_same, args_same, either, or_left, or_right, eq_itself}
use Rattle.run_memory.specs.Memory.{compare, copy}
use Rattle.run_memory.specs.declared.block.MemoryBlock.{MemoryBlock}
use Rattle.run_memory.specs.declared.pointer.Pointer.{Pointer}
use Rattle.run_memory.specs.declared.pointer.Value.{Value}
use Rattle.ir_base.specs.declared.cause.Cause.{Cause}
use Rattle.ir_base.specs.declared.ops.Pred.{Pred}
use Rattle.ir_base.specs.declared.outcome.Word.{Word}
use Rattle.ir_model.specs.Names.{declaration_named, function_named, is_local}
use Rattle.ir_model.specs.Ty.{Ty}
use Rattle.ir_model.specs.declared.instr.Case.{Case}
use Rattle.ir_model.specs.declared.instr.Instr.{Instr}
use Rattle.ir_model.specs.declared.instr.Terminator.{Terminator}
use Rattle.ir_model.specs.declared.module.Module.{Module}
use Rattle.ir_model.specs.declared.operand.Allocator.{Allocator}
use Rattle.ir_model.specs.declared.operand.Arg.{Arg}
use Rattle.ir_model.specs.declared.operand.Callee.{Callee}
use Rattle.ir_model.specs.declared.operand.Intrinsic.{Intrinsic}
use Rattle.ir_model.specs.declared.operand.Operand.{Operand}
use Rattle.ir_paths.specs.Paths.{targets}
use Rattle.ir_paths.specs.Slots.{has_name, is_in_args, occurs_in_term}
use Rattle.run_step.specs.Step.{is_alignment, is_word, if_alignment, Action, AtInstr, AtTerm, Context, Coro, Deallocate, Done, Enter, Fetched, GoTo, NewSlot, Nowhere, Return, Stuck, Work, action_of, allocated, allocator_call, branch, by_pred, call, compared, done, fits_function, indirect_call, instr_action, intrinsic_call, named_call, observed, set_memory, set_value, switch, target_of, term_action, with_length, words_of}
use Rattle.run_step.specs.Values.{address, truth_value, Env, arg_value, arg_values, nth, operand_value, value_in, value_of, with_value}
use Rattle.run_step.specs.declared.world.World.{World}

-- the same action with other values; x is what stands there
abbrev pub SameAction : Module → (ℕ → Type 0) → Fetched → Env → Env → Action → Action → Type 0
SameAction m P x vs ws (Stuck c) b = Unit {0}
SameAction m P x vs ws (Done w) b = (us : Env) × (b ≡ Done (record { world = w.world; values = us })) × SameOn P w.values us
SameAction m P x vs ws (NewSlot w slot) b = (us : Env) × (b ≡ NewSlot (record { world = w.world; values = us }) slot) × SameOn P w.values us
SameAction m P x vs ws (Enter func args result must_tail) b =
    (b ≡ Enter func args result must_tail) × SameOn (λ v. P v × (result ≡ Some v → ⊥)) vs ws
SameAction m P x vs ws (Coro i args result) b =
    (b ≡ Coro i args result) × ((must_tail : Bool) × (ty : Option Ty) × (x ≡ AtInstr (Instr.Call result must_tail ty (Callee.Intrinsic i) args)))
SameAction m P x vs ws (Deallocate p) b = (b ≡ Deallocate p) × SameOn P vs ws
SameAction m P x vs ws (GoTo label) b = (b ≡ GoTo label) × BranchesTo label x
SameAction m P x vs ws (Return v) b = b ≡ Return v

abbrev pub work : World → Env → Work
work world values = record { world = world; values = values }

branch_here : (label : ℕ) (ls : List ℕ) → IsTrue (has_name (label ∷ ls) label)
branch_here label ls = or_left (label == label) _ (eq_itself label)

target_there : (m : Module) (x : Word) (default : ℕ) (cases : List Case) → IsTrue (has_name (default ∷ map (λ k. k.target) cases) (target_of m x default cases))
target_there m x default [] = branch_here default []
target_there m x default (k ∷ cases) = on (is_word x (arg_value m [] k.arg)) (target_there m x default cases)
  where
    on : (b : Bool) → IsTrue (has_name (default ∷ map (λ k. k.target) cases) (target_of m x default cases)) → IsTrue (has_name (default ∷ k.target ∷ map (λ k. k.target) cases) (if b then k.target else target_of m x default cases))
    on true h = or_right (default == k.target) _ (branch_here k.target _)
    on false h = on_either (either (default == target_of m x default cases) _ h)
      where
        on_either : ((default == target_of m x default cases) ≡ true) ⊎ (has_name (map (λ k. k.target) cases) (target_of m x default cases) ≡ true) → IsTrue (has_name (default ∷ k.target ∷ map (λ k. k.target) cases) (target_of m x default cases))
        on_either (inl e) = or_left _ _ e
        on_either (inr e) = or_right (default == target_of m x default cases) _ (or_right (k.target == target_of m x default cases) _ e)

module _ (c : Context) (world : World) (vs ws : Env) (Q P : ℕ → Type 0) (s : SameOn Q vs ws) (x : Fetched) where
  value_same : (ty : Ty) (a : Operand) → ((v : ℕ) → IsTrue (is_local v a) → Q v) → operand_value c.code ws ty a ≡ operand_value c.code vs ty a
  value_same ty a h = operand_same c.code vs ws ty a (λ v t. s.each v (h v t))

  values_same : (args : List Arg) → ((v : ℕ) → IsTrue (is_in_args v args) → Q v) → arg_values c.code ws args ≡ arg_values c.code vs args
  values_same args h = args_same c.code vs ws args (λ v t. s.each v (h v t))

  done_set : {A : Type 0} (name : ℕ) (g : A → Value) (r : Result A Cause) → ((v : ℕ) → P v → (v ≡ name → ⊥) → Q v) → SameAction c.code P x vs ws (done (λ a. set_value (work world vs) name (g a)) r) (done (λ a. set_value (work world ws) name (g a)) r)
  done_set name g (Err cause) h = tt
  done_set name g (Ok a) h = (with_value ws name (g a), refl, same_set P Q vs ws name (g a) s h)

  done_memory : (r : Result (List MemoryBlock) Cause) → ((v : ℕ) → P v → Q v) → SameAction c.code P x vs ws (done (set_memory (work world vs)) r) (done (set_memory (work world ws)) r)
  done_memory (Err cause) h = tt
  done_memory (Ok a) h = (ws, refl, same_less P Q vs ws s h)

  compared_same : (name : ℕ) (pred : Pred) (ty : Ty) (a b : Value) → ((v : ℕ) → P v → (v ≡ name → ⊥) → Q v) → SameAction c.code P x vs ws (compared c (work world vs) name pred ty a b) (compared c (work world ws) name pred ty a b)
  compared_same name pred (int n) a b h = (_, refl, same_set P Q vs ws name _ s h)
  compared_same name pred ty a b h = done_set name (λ same. truth_value (by_pred pred same)) (compare c.rights world.memory (address a) (address b)) h

  -- ---- calls
  enter_same : (f : ℕ) (result : Option ℕ) (must_tail : Bool) (us : List Value) → ((v : ℕ) → P v → (result ≡ Some v → ⊥) → Q v) → SameAction c.code P x vs ws (Enter f us result must_tail) (Enter f us result must_tail)
  enter_same f result must_tail us h = (refl, same_less _ Q vs ws s (λ v p. h v p.0 p.1))

  observed_same : (d : ℕ) (ty : Option Ty) (result : Option ℕ) (args : Option (List Word)) → ((v : ℕ) → P v → (result ≡ Some v → ⊥) → Q v) → SameAction c.code P x vs ws (observed c (work world vs) d ty result args) (observed c (work world ws) d ty result args)
  observed_same d ty result None h = tt
  observed_same d None result (Some args) h = (_, refl, same_result P Q vs ws result _ s h)
  observed_same d (Some ty) result (Some args) h = (_, refl, same_result P Q vs ws result _ s h)

  named_same : (f d : Option ℕ) (ty : Option Ty) (result : Option ℕ) (must_tail : Bool) (us : List Value) → ((v : ℕ) → P v → (result ≡ Some v → ⊥) → Q v) → SameAction c.code P x vs ws (named_call c (work world vs) f d ty result must_tail us) (named_call c (work world ws) f d ty result must_tail us)
  named_same (Some f) d ty result must_tail us h = enter_same f result must_tail us h
  named_same None (Some d) ty result must_tail us h = observed_same d ty result (words_of us) h
  named_same None None ty result must_tail us h = tt

  allocated_same : (result : Option ℕ) (v : Value) → ((v : ℕ) → P v → (result ≡ Some v → ⊥) → Q v) → SameAction c.code P x vs ws (with_length v (λ n. Done (allocated (work world vs) result n))) (with_length v (λ n. Done (allocated (work world ws) result n)))
  allocated_same result (Value.Int n) h = (_, refl, same_result P Q vs ws result _ s h)
  allocated_same result Value.Poison h = tt
  allocated_same result (Value.Ptr p) h = tt

  freed_same : (v : Value) → ((v : ℕ) → P v → Q v) → SameAction c.code P x vs ws (Deallocate v) (Deallocate v)
  freed_same v h = (refl, same_less P Q vs ws s h)

  none_given : (result : Option ℕ) → ((v : ℕ) → P v → (None ≡ Some v → ⊥) → Q v) → (v : ℕ) → P v → Q v
  none_given result h v p = h v p (λ k. absurd (cc))

  allocator_same : (a : Allocator) (result : Option ℕ) (us : List Value) → ((v : ℕ) → P v → (Rattle.pass_kept_proof.specs.Needed.given_by_allocator a result ≡ Some v → ⊥) → Q v) → SameAction c.code P x vs ws (allocator_call a (work world vs) result us) (allocator_call a (work world ws) result us)
  allocator_same Allocator.Malloc result us h = allocated_same result (nth us 0) h
  allocator_same Allocator.Znwm result us h = allocated_same result (nth us 0) h
  allocator_same Allocator.Free result us h = freed_same (address (nth us 0)) (none_given result h)
  allocator_same Allocator.ZdlPv result us h = freed_same (address (nth us 0)) (none_given result h)
  allocator_same Allocator.ZdlPvm result us h = freed_same (address (nth us 0)) (none_given result h)

  copied_same : (us : List Value) (n : Value) → ((v : ℕ) → P v → Q v) → SameAction c.code P x vs ws (with_length n (λ n. done (set_memory (work world vs)) (copy c.rights world.memory (address (nth us 0)) (address (nth us 1)) n))) (with_length n (λ n. done (set_memory (work world ws)) (copy c.rights world.memory (address (nth us 0)) (address (nth us 1)) n)))
  copied_same us (Value.Int n) h = done_memory _ h
  copied_same us Value.Poison h = tt
  copied_same us (Value.Ptr p) h = tt

  intrinsic_same : (i : Intrinsic) (result : Option ℕ) (must_tail : Bool) (ty : Option Ty) (args : List Arg) → x ≡ AtInstr (Instr.Call result must_tail ty (Callee.Intrinsic i) args) → ((v : ℕ) → IsTrue (Rattle.pass_kept_proof.specs.Needed.reads_intrinsic v i args) → Q v) → ((v : ℕ) → P v → IsFalse (Rattle.ir_model.specs.Names.same_intrinsic Intrinsic.CoroEnd i) → (given_by_intrinsic i result ≡ Some v → ⊥) → Q v) → SameAction c.code P x vs ws (intrinsic_call c (work world vs) i result args (arg_values c.code vs args)) (intrinsic_call c (work world ws) i result args (arg_values c.code ws args))
  intrinsic_same Intrinsic.LifetimeStart result must_tail ty args e rd nx = rw (values_same args rd) (ws, refl, same_less P Q vs ws s (λ v p. nx v p refl (λ k. absurd (cc))))
  intrinsic_same Intrinsic.LifetimeEnd result must_tail ty args e rd nx = rw (values_same args rd) (ws, refl, same_less P Q vs ws s (λ v p. nx v p refl (λ k. absurd (cc))))
  intrinsic_same Intrinsic.MemcpyI64 result must_tail ty args e rd nx = rw (values_same args rd) (copied_same (arg_values c.code vs args) (nth (arg_values c.code vs args) 2) (λ v p. nx v p refl (λ k. absurd (cc))))
  intrinsic_same Intrinsic.MemcpyI32 result must_tail ty args e rd nx = rw (values_same args rd) (copied_same (arg_values c.code vs args) (nth (arg_values c.code vs args) 2) (λ v p. nx v p refl (λ k. absurd (cc))))
  intrinsic_same _ result must_tail ty args e rd nx = (refl, (must_tail, ty, e))

  indirect_same : (n : Value) (ty : Option Ty) (result : Option ℕ) (must_tail : Bool) (args : List Arg) (us : List Value) → ((v : ℕ) → P v → (result ≡ Some v → ⊥) → Q v) → SameAction c.code P x vs ws (indirect_call c n ty result must_tail args us) (indirect_call c n ty result must_tail args us)
  indirect_same (Value.Ptr (Pointer.Func f)) ty result must_tail args us h = on (fits_function ty args (slice_get c.code.functions f))
    where
      on : (b : Bool) → SameAction c.code P x vs ws (if b then Enter f us result must_tail else Stuck Cause.Call) (if b then Enter f us result must_tail else Stuck Cause.Call)
      on true = enter_same f result must_tail us h
      on false = tt
  indirect_same _ ty result must_tail args us h = tt

  call_same : (result : Option ℕ) (must_tail : Bool) (ty : Option Ty) (callee : Callee) (args : List Arg) → x ≡ AtInstr (Instr.Call result must_tail ty callee args) → ((v : ℕ) → IsTrue (reads_call v callee args) → Q v) → ((v : ℕ) → P v → IsFalse (Rattle.ir_paths.specs.Windows.is_call_of Intrinsic.CoroEnd (Instr.Call result must_tail ty callee args)) → (given_by_call callee ty result ≡ Some v → ⊥) → Q v) → SameAction c.code P x vs ws (call c (work world vs) result must_tail ty callee args (arg_values c.code vs args)) (call c (work world ws) result must_tail ty callee args (arg_values c.code ws args))
  call_same result must_tail ty (Callee.Named n) args e rd nx =
      rw (values_same args rd) (named_same (function_named c.code n) (declaration_named c.code n) ty result must_tail (arg_values c.code vs args) (λ v p. nx v p refl))
  call_same result must_tail ty (Callee.Allocator a) args e rd nx = rw (values_same args rd) (allocator_same a result (arg_values c.code vs args) (λ v p. nx v p refl))
  call_same result must_tail ty (Callee.Intrinsic i) args e rd nx = intrinsic_same i result must_tail ty args e rd nx
  call_same result must_tail ty (Callee.Local l) args e rd nx =
      let k : value_in ws l ≡ value_in vs l = s.each l (rd l (or_left (l == l) _ (eq_itself l))) in
      rw (values_same args (λ v t. rd v (or_right (v == l) _ t)), k) (indirect_same (value_in vs l) ty result must_tail args (arg_values c.code vs args) (λ v p. nx v p refl))

  -- ---- instructions
  aligned_same : (align : ℕ) (a b : Action) → SameAction c.code P x vs ws a b → SameAction c.code P x vs ws (if_alignment align a) (if_alignment align b)
  aligned_same align a b h = on (is_alignment align)
    where
      on : (t : Bool) → SameAction c.code P x vs ws (if t then a else Stuck Cause.Align) (if t then b else Stuck Cause.Align)
      on true = h
      on false = tt

  instr_same : (i : Instr) → x ≡ AtInstr i → ((v : ℕ) → IsTrue (reads v i) → Q v) → ((v : ℕ) → P v → IsFalse (Rattle.ir_paths.specs.Windows.is_call_of Intrinsic.CoroEnd i) → (given_by i ≡ Some v → ⊥) → Q v) → SameAction c.code P x vs ws (instr_action c (work world vs) i) (instr_action c (work world ws) i)
  instr_same (Instr.Binary name op flags ty a b) e rd nx =
      rw (value_same ty a (λ v t. rd v (or_left _ _ t)), value_same ty b (λ v t. rd v (or_right (is_local v a) _ t)))
      (done_set name (λ n. value_of n) _ (λ v p ne. nx v p refl (λ (k : Some name ≡ Some v). ne (cc))))
  instr_same (Instr.Icmp name pred ty a b) e rd nx =
      rw (value_same ty a (λ v t. rd v (or_left _ _ t)), value_same ty b (λ v t. rd v (or_right (is_local v a) _ t)))
      (compared_same name pred ty _ _ (λ v p ne. nx v p refl (λ (k : Some name ≡ Some v). ne (cc))))
  instr_same (Instr.Select name y a b) e rd nx =
      rw (value_same (int 1) y (λ v t. rd v (or_left _ _ t)), value_same a.ty a.value (λ v t. rd v (or_right (is_local v y) _ (or_left _ _ t))), value_same b.ty b.value (λ v t. rd v (or_right (is_local v y) _ (or_right (is_local v a.value) _ t))))
      (_, refl, same_set P Q vs ws name _ s (λ v p ne. nx v p refl (λ (k : Some name ≡ Some v). ne (cc))))
  instr_same (Instr.Cast name op nneg arg to) e rd nx =
      rw (value_same arg.ty arg.value rd) (_, refl, same_set P Q vs ws name _ s (λ v p ne. nx v p refl (λ (k : Some name ≡ Some v). ne (cc))))
  instr_same (Instr.Alloca name ty align) e rd nx = aligned_same align _ _ (_, refl, same_set P Q vs ws name _ s (λ v p ne. nx v p refl (λ (k : Some name ≡ Some v). ne (cc))))
  instr_same (Instr.Load name ty p align) e rd nx =
      rw (value_same ptr p rd) (aligned_same align _ _ (done_set name (λ v. v) _ (λ v p ne. nx v p refl (λ (k : Some name ≡ Some v). ne (cc)))))
  instr_same (Instr.Store arg p align) e rd nx =
      rw (value_same ptr p (λ v t. rd v (or_right (is_local v arg.value) _ t)), value_same arg.ty arg.value (λ v t. rd v (or_left _ _ t)))
      (aligned_same align _ _ (done_memory _ (λ v p. nx v p refl (λ k. absurd (cc)))))
  instr_same (Instr.Gep name inbounds ty base indices) e rd nx =
      rw (value_same ptr base (λ v t. rd v (or_left _ _ t)), indices_same c.code vs ws indices (λ v t. s.each v (rd v (or_right (is_local v base) _ t))))
      (_, refl, same_set P Q vs ws name _ s (λ v p ne. nx v p refl (λ (k : Some name ≡ Some v). ne (cc))))
  instr_same (Instr.Call result must_tail ty callee args) e rd nx = call_same result must_tail ty callee args e rd nx

  -- ---- terminators
  goes : (label : ℕ) (t : Terminator) → x ≡ AtTerm t → IsTrue (has_name (targets t) label) → SameAction c.code P x vs ws (GoTo label) (GoTo label)
  goes label t e h = (refl, subst (BranchesTo label) (sym e) h)

  branch_same : (y : Operand) (v : Value) (a b : ℕ) → x ≡ AtTerm (Terminator.Branch y a b) → SameAction c.code P x vs ws (branch v a b) (branch v a b)
  branch_same y (Value.Int n) a b e = on (n.bits == 1)
    where
      on : (t : Bool) → SameAction c.code P x vs ws (GoTo (if t then a else b)) (GoTo (if t then a else b))
      on true = goes a (Terminator.Branch y a b) e (branch_here a (b ∷ []))
      on false = goes b (Terminator.Branch y a b) e (or_right (a == b) _ (branch_here b []))
  branch_same y Value.Poison a b e = tt
  branch_same y (Value.Ptr p) a b e = tt

  switch_same : (arg : Arg) (v : Value) (default : ℕ) (cases : List Case) → x ≡ AtTerm (Terminator.Switch arg default cases) → SameAction c.code P x vs ws (switch c.code v default cases) (switch c.code v default cases)
  switch_same arg (Value.Int n) default cases e = goes (target_of c.code n default cases) _ e (target_there c.code n default cases)
  switch_same arg Value.Poison default cases e = tt
  switch_same arg (Value.Ptr p) default cases e = tt

  term_same : (t : Terminator) → x ≡ AtTerm t → ((v : ℕ) → IsTrue (occurs_in_term v t) → Q v) → SameAction c.code P x vs ws (term_action c (work world vs) t) (term_action c (work world ws) t)
  term_same (Terminator.Jump label) e rd = goes label _ e (branch_here label [])
  term_same (Terminator.Branch y a b) e rd = rw (value_same (int 1) y rd) (branch_same y _ a b e)
  term_same (Terminator.Switch arg default cases) e rd = rw (value_same arg.ty arg.value rd) (switch_same arg _ default cases e)
  term_same (Terminator.Ret None) e rd = refl
  term_same (Terminator.Ret (Some arg)) e rd = rw (value_same arg.ty arg.value rd) refl
  term_same Terminator.Unreachable e rd = tt

  pub action_same : ((v : ℕ) → IsTrue (reads_at v x) → Q v) → ((v : ℕ) → P v → PassesBy v x → Q v) → SameAction c.code P x vs ws (action_of c (work world vs) x) (action_of c (work world ws) x)
  action_same rd nx = on x refl rd nx
    where
      on : (y : Fetched) → x ≡ y → ((v : ℕ) → IsTrue (reads_at v y) → Q v) → ((v : ℕ) → P v → PassesBy v y → Q v) → SameAction c.code P x vs ws (action_of c (work world vs) y) (action_of c (work world ws) y)
      on Nowhere e rd nx = tt
      on (AtInstr i) e rd nx = instr_same i e rd (λ v p no ne. nx v p (no, ne))
      on (AtTerm t) e rd nx = term_same t e rd
