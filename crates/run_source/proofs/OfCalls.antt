-- A call of a coro intrinsic is left with its own arguments and result.
use Rattle.std.proofs.Common.{◌≡◌, ℕ, Bool, true, false, List, [], ◌∷◌, refl, sym, subst, Option, Some, None, Ok, Err}
use Rattle.std.specs.Prelude.{Result, if◌then◌else◌}
use Rattle.run_memory.specs.Memory.{copy}
use Rattle.run_memory.specs.declared.block.MemoryBlock.{MemoryBlock}
use Rattle.run_memory.specs.declared.pointer.Pointer.{Pointer}
use Rattle.run_memory.specs.declared.pointer.Value.{Value}
use Rattle.ir_base.specs.declared.cause.Cause.{Cause}
use Rattle.ir_base.specs.declared.ops.Pred.{Pred}
use Rattle.ir_base.specs.declared.outcome.Word.{Word}
use Rattle.run_source_tables.specs.Lookups.{args_of}
use Rattle.run_source.specs.SourceEffects.{OfCall}
use Rattle.ir_model.specs.Ty.{Ty, Tys, array, int, named, ptr, structure, token}
use Rattle.ir_model.specs.declared.instr.Case.{Case}
use Rattle.ir_model.specs.declared.instr.Instr.{Instr}
use Rattle.ir_model.specs.declared.instr.Terminator.{Terminator}
use Rattle.ir_model.specs.declared.module.Module.{Module}
use Rattle.ir_model.specs.declared.operand.Allocator.{Allocator}
use Rattle.ir_model.specs.declared.operand.Arg.{Arg}
use Rattle.ir_model.specs.declared.operand.Callee.{Callee}
use Rattle.ir_model.specs.declared.operand.Intrinsic.{Intrinsic}
use Rattle.ir_paths.specs.Windows.{call_result}
use Rattle.run_source_tables.specs.run_step.Step.{Action, Context, Done, Enter, Stuck, Work, allocated, allocator_call, branch, call, compared, copied_bytes, done, if_alignment, indirect_call, instr_action, intrinsic_call, is_alignment, named_call, observed, set_memory, switch, term_action, with_length}
use Rattle.run_source_tables.specs.run_step.Values.{address, nth}

of-done : {A : Type 0} (args : List Arg) (res : Option ℕ) (f : A → Work) (r : Result A Cause) → OfCall args res (done f r)
of-done args res f (Ok a) = tt
of-done args res f (Err c) = tt

of-if : (args : List Arg) (res : Option ℕ) (b : Bool) (x y : Action) → OfCall args res x → OfCall args res y → OfCall args res (if b then x else y)
of-if args res true x y h k = h
of-if args res false x y h k = k

of-aligned : (args : List Arg) (res : Option ℕ) (align : ℕ) (a : Action) → OfCall args res a → OfCall args res (if_alignment align a)
of-aligned args res align a h = of-if args res (is_alignment align) a (Stuck Cause.Align) h tt

of-compared : (args : List Arg) (res : Option ℕ) (c : Context) (w : Work) (name : ℕ) (pred : Pred) (ty : Ty) (a b : Value) → OfCall args res (compared c w name pred ty a b)
of-compared args res c w name pred (int n) a b = tt
of-compared args res c w name pred ptr a b = of-done args res _ _
of-compared args res c w name pred token a b = of-done args res _ _
of-compared args res c w name pred (array n t) a b = of-done args res _ _
of-compared args res c w name pred (structure ts) a b = of-done args res _ _
of-compared args res c w name pred (named n) a b = of-done args res _ _

of-length : (args : List Arg) (res : Option ℕ) (v : Value) (go : ℕ → Action) → ((n : ℕ) → OfCall args res (go n)) → OfCall args res (with_length v go)
of-length args res (Value.Int n) go h = h n.bits
of-length args res Value.Poison go h = tt
of-length args res (Value.Ptr p) go h = tt

of-observed : (args : List Arg) (res : Option ℕ) (c : Context) (w : Work) (d : ℕ) (ty : Option Ty) (result : Option ℕ) (words : Option (List Word)) → OfCall args res (observed c w d ty result words)
of-observed args res c w d ty result None = tt
of-observed args res c w d None result (Some words) = tt
of-observed args res c w d (Some t) result (Some words) = tt

of-named : (args : List Arg) (res : Option ℕ) (c : Context) (w : Work) (f d : Option ℕ) (ty : Option Ty) (result : Option ℕ) (tail : Bool) (vs : List Value) → OfCall args res (named_call c w f d ty result tail vs)
of-named args res c w (Some f) d ty result tail vs = tt
of-named args res c w None (Some d) ty result tail vs = of-observed args res c w d ty result _
of-named args res c w None None ty result tail vs = tt

of-allocator : (args : List Arg) (res : Option ℕ) (a : Allocator) (w : Work) (result : Option ℕ) (vs : List Value) → OfCall args res (allocator_call a w result vs)
of-allocator args res Allocator.Malloc w result vs = of-length args res (nth vs 0) (λ n. Done (allocated w result n)) (λ n. tt)
of-allocator args res Allocator.Znwm w result vs = of-length args res (nth vs 0) (λ n. Done (allocated w result n)) (λ n. tt)
of-allocator args res Allocator.Free w result vs = tt
of-allocator args res Allocator.ZdlPv w result vs = tt
of-allocator args res Allocator.ZdlPvm w result vs = tt

of-copy : (c : Context) (w : Work) (args : List Arg) (res : Option ℕ) (vs : List Value) → OfCall args res (copied_bytes c w vs)
of-copy c w args res vs =
    let r : ℕ → Result (List MemoryBlock) Cause = λ n. copy c.rights w.world.memory (address (nth vs 0)) (address (nth vs 1)) n in
    of-length args res (nth vs 2) (λ n. done (set_memory w) (r n)) (λ n. of-done args res (set_memory w) (r n))

of-intrinsic : (c : Context) (w : Work) (i : Intrinsic) (result : Option ℕ) (args : List Arg) (vs : List Value) → OfCall args result (intrinsic_call c w i result args vs)
of-intrinsic c w Intrinsic.CoroId result args vs = (refl, refl)
of-intrinsic c w Intrinsic.CoroSizeI32 result args vs = (refl, refl)
of-intrinsic c w Intrinsic.CoroSizeI64 result args vs = (refl, refl)
of-intrinsic c w Intrinsic.CoroAlignI32 result args vs = (refl, refl)
of-intrinsic c w Intrinsic.CoroAlignI64 result args vs = (refl, refl)
of-intrinsic c w Intrinsic.CoroAlloc result args vs = (refl, refl)
of-intrinsic c w Intrinsic.CoroBegin result args vs = (refl, refl)
of-intrinsic c w Intrinsic.CoroFree result args vs = (refl, refl)
of-intrinsic c w Intrinsic.CoroFrame result args vs = (refl, refl)
of-intrinsic c w Intrinsic.CoroSave result args vs = (refl, refl)
of-intrinsic c w Intrinsic.CoroSuspend result args vs = (refl, refl)
of-intrinsic c w Intrinsic.CoroEnd result args vs = (refl, refl)
of-intrinsic c w Intrinsic.CoroResume result args vs = (refl, refl)
of-intrinsic c w Intrinsic.CoroDestroy result args vs = (refl, refl)
of-intrinsic c w Intrinsic.CoroDone result args vs = (refl, refl)
of-intrinsic c w Intrinsic.CoroPromise result args vs = (refl, refl)
of-intrinsic c w Intrinsic.LifetimeStart result args vs = tt
of-intrinsic c w Intrinsic.LifetimeEnd result args vs = tt
of-intrinsic c w Intrinsic.MemcpyI64 result args vs = of-copy c w args result vs
of-intrinsic c w Intrinsic.MemcpyI32 result args vs = of-copy c w args result vs

of-indirect : (args : List Arg) (res : Option ℕ) (c : Context) (v : Value) (ty : Option Ty) (result : Option ℕ) (tail : Bool) (its : List Arg) (vs : List Value) → OfCall args res (indirect_call c v ty result tail its vs)
of-indirect args res c Value.Poison ty result tail its vs = tt
of-indirect args res c (Value.Int n) ty result tail its vs = tt
of-indirect args res c (Value.Ptr Pointer.Null) ty result tail its vs = tt
of-indirect args res c (Value.Ptr (Pointer.At b o)) ty result tail its vs = tt
of-indirect args res c (Value.Ptr (Pointer.Func f)) ty result tail its vs = of-if args res _ (Enter f vs result tail) (Stuck Cause.Call) tt tt

of-callee : (c : Context) (w : Work) (result : Option ℕ) (tail : Bool) (ty : Option Ty) (callee : Callee) (args : List Arg) (vs : List Value) → OfCall args result (call c w result tail ty callee args vs)
of-callee c w result tail ty (Callee.Named n) args vs = of-named args result c w _ _ ty result tail vs
of-callee c w result tail ty (Callee.Allocator a) args vs = of-allocator args result a w result vs
of-callee c w result tail ty (Callee.Intrinsic i) args vs = of-intrinsic c w i result args vs
of-callee c w result tail ty (Callee.Local name) args vs = of-indirect args result c _ ty result tail args vs

pub of-instr : (c : Context) (w : Work) (i : Instr) → OfCall (args_of i) (call_result i) (instr_action c w i)
of-instr c w (Instr.Binary name op flags ty a b) = of-done [] None _ _
of-instr c w (Instr.Icmp name pred ty a b) = of-compared [] None c w name pred ty _ _
of-instr c w (Instr.Select name x a b) = tt
of-instr c w (Instr.Cast name op nneg arg to) = tt
of-instr c w (Instr.Alloca name ty align) = of-aligned [] None align _ tt
of-instr c w (Instr.Load name ty p align) = of-aligned [] None align _ (of-done [] None _ _)
of-instr c w (Instr.Store arg p align) = of-aligned [] None align _ (of-done [] None _ _)
of-instr c w (Instr.Gep name inbounds ty base indices) = tt
of-instr c w (Instr.Call result tail ty callee args) = of-callee c w result tail ty callee args _

pub of-given : (c : Context) (w : Work) (i : Instr) (args : List Arg) (res : Option ℕ) → args ≡ args_of i → res ≡ call_result i → OfCall args res (instr_action c w i)
of-given c w i args res a r =
    subst (λ (l : List Arg). OfCall l res (instr_action c w i)) (sym a)
    (subst (λ (o : Option ℕ). OfCall (args_of i) o (instr_action c w i)) (sym r) (of-instr c w i))

of-branch : (args : List Arg) (res : Option ℕ) (v : Value) (a b : ℕ) → OfCall args res (branch v a b)
of-branch args res (Value.Int x) a b = tt
of-branch args res Value.Poison a b = tt
of-branch args res (Value.Ptr p) a b = tt

of-switch : (m : Module) (v : Value) (default : ℕ) (cases : List Case) → OfCall [] None (switch m v default cases)
of-switch m (Value.Int x) default cases = tt
of-switch m Value.Poison default cases = tt
of-switch m (Value.Ptr p) default cases = tt

pub of-term : (c : Context) (w : Work) (t : Terminator) → OfCall [] None (term_action c w t)
of-term c w (Terminator.Jump label) = tt
of-term c w (Terminator.Branch x a b) = of-branch [] None _ a b
of-term c w (Terminator.Switch arg default cases) = of-switch c.code _ default cases
of-term c w (Terminator.Ret None) = tt
of-term c w (Terminator.Ret (Some arg)) = tt
of-term c w Terminator.Unreachable = tt
