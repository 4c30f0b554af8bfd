-- What stands at a point, and what an instruction's action may set.
use Rattle.std.proofs.Common.{◌≡◌, ◌⊎◌, inl, inr, ℕ, Bool, true, false, List, [], ◌∷◌, length, refl, sym, subst}
use Rattle.std.specs.List.{list_any}
use Rattle.std.specs.Prelude.{IsTrue, Some, None, Ok, Err, Option, Result, map, slice_get, if◌then◌else◌, ◌==◌, ◌||◌, ◌&&◌}
use Rattle.ir_laws.specs.run_memory.Memory.{compare, copy, load, store}
use Rattle.ir_laws.specs.run_memory.declared.pointer.Pointer.{Pointer}
use Rattle.ir_laws.specs.run_memory.declared.pointer.Value.{Value}
use Rattle.ir_laws.specs.ir_base.declared.cause.Cause.{Cause}
use Rattle.ir_laws.specs.ir_base.declared.ops.Pred.{Pred}
use Rattle.ir_laws.specs.ir_base.declared.outcome.Word.{Word}
use Rattle.ir_laws.proofs.facts.Truth.{itself}
use Rattle.ir_laws.specs.run_ints.Numbers.{binary, icmp}
use Rattle.ir_laws.specs.ir_model.Layout.{size_of}
use Rattle.ir_laws.specs.ir_model.Names.{declaration_named, function_named, intrinsic_number}
use Rattle.ir_laws.specs.ir_model.Ty.{Ty, array, int, named, ptr, structure, token}
use Rattle.ir_laws.specs.ir_model.declared.instr.Case.{Case}
use Rattle.ir_laws.specs.ir_model.declared.instr.Instr.{Instr}
use Rattle.ir_laws.specs.ir_model.declared.instr.Terminator.{Terminator}
use Rattle.ir_laws.specs.ir_model.declared.module.Module.{Module}
use Rattle.ir_laws.specs.ir_model.declared.operand.Allocator.{Allocator}
use Rattle.ir_laws.specs.ir_model.declared.operand.Arg.{Arg}
use Rattle.ir_laws.specs.ir_model.declared.operand.Callee.{Callee}
use Rattle.ir_laws.specs.ir_model.declared.operand.Intrinsic.{Intrinsic}
use Rattle.ir_laws.specs.ir_model.declared.operand.Operand.{Operand}
use Rattle.ir_laws.specs.ir_paths.Paths.{targets}
use Rattle.ir_laws.specs.ir_paths.Windows.{is_call_of}
use Rattle.ir_laws.specs.run_step.Step.{Action, Context, Coro, Deallocate, Done, Enter, GoTo, NewSlot, Return, Stuck, Work, alloca, allocated, allocator_call, answer, branch, by_pred, cast_to, chosen, compared, copied_bytes, done, fits_function, if_alignment, indirect_call, instr_action, intrinsic_call, is_alignment, is_word, named_call, observed, set_memory, set_value, switch, target_of, term_action, value_at, with_length, words_of}
use Rattle.ir_laws.specs.run_step.Values.{Env, access_of, address, arg_value, arg_values, distance, element, indices_of, literal, nth, number_at, number_of_width, pointer_to, stored, truth_value, value_in, value_of, with_result}
use Rattle.ir_laws.specs.run_laws.changed.Changed.{result_of}

-- ---- what an action sets

-- neither a coro.frame nor a coro.begin, nor, where the activation was resumed, a coro.end
abbrev pub IsOrdinary : Bool → Instr → Type 0
IsOrdinary resumed i = (is_call_of Intrinsic.CoroFrame i ≡ false) × (is_call_of Intrinsic.CoroBegin i ≡ false) × ((resumed && is_call_of Intrinsic.CoroEnd i) ≡ false)

pub ordinary_in : (resumed : Bool) (i : Instr) → IsOrdinary true i → IsOrdinary resumed i
ordinary_in true i h = h
ordinary_in false i h = (h.0, h.1, refl)

-- the values, or with a result set
abbrev pub IsSet : Env → Option ℕ → Env → Type 0
IsSet env o env2 = (env2 ≡ env) ⊎ ((v : Value) × (env2 ≡ with_result env o v))

abbrev pub Fits : Env → Instr → Action → Type 0
Fits env i (Done w) = IsOrdinary true i × IsSet env (result_of i) w.values
Fits env i (NewSlot w slot) = IsOrdinary true i × IsSet env (result_of i) w.values
Fits env i (Enter func args result must_tail) = IsOrdinary true i × (result ≡ result_of i)
Fits env i (Coro j args result) = (is_call_of j i ≡ true) × (result ≡ result_of i)
Fits env i (Deallocate p) = IsOrdinary true i
Fits env i (GoTo label) = ⊥
Fits env i (Return v) = ⊥
Fits env i (Stuck cause) = Unit {0}

done_fits : {A : Type 0} (env : Env) (i : Instr) (f : A → Work) (r : Result A Cause) → IsOrdinary true i → ((a : A) → IsSet env (result_of i) (f a).values) → Fits env i (done f r)
done_fits env i f (Err cause) o h = tt
done_fits env i f (Ok a) o h = (o, h a)

aligned_fits : (env : Env) (i : Instr) (align : ℕ) (a : Action) → Fits env i a → Fits env i (if_alignment align a)
aligned_fits env i align a h = on (is_alignment align)
  where
    on : (b : Bool) → Fits env i (if b then a else Stuck Cause.Align)
    on true = h
    on false = tt

length_fits : (env : Env) (i : Instr) (v : Value) (go : ℕ → Action) → ((n : ℕ) → Fits env i (go n)) → Fits env i (with_length v go)
length_fits env i (Value.Int n) go h = h n.bits
length_fits env i Value.Poison go h = tt
length_fits env i (Value.Ptr p) go h = tt

module _ (c : Context) (w : Work) where
  compared_fits : (name : ℕ) (pred : Pred) (ty : Ty) (x y : Operand) (a b : Value) → Fits w.values (Instr.Icmp name pred ty x y) (compared c w name pred ty a b)
  compared_fits name pred (int n) x y a b = ((refl, refl, refl), inr (value_of (icmp pred (number_of_width n a) (number_of_width n b)), refl))
  compared_fits name pred ptr x y a b = done_fits w.values (Instr.Icmp name pred ptr x y) (λ same. set_value w name (truth_value (by_pred pred same))) (compare c.rights w.world.memory (address a) (address b)) (refl, refl, refl) (λ same. inr (truth_value (by_pred pred same), refl))
  compared_fits name pred token x y a b = done_fits w.values (Instr.Icmp name pred token x y) (λ same. set_value w name (truth_value (by_pred pred same))) (compare c.rights w.world.memory (address a) (address b)) (refl, refl, refl) (λ same. inr (truth_value (by_pred pred same), refl))
  compared_fits name pred (array n t) x y a b = done_fits w.values (Instr.Icmp name pred (array n t) x y) (λ same. set_value w name (truth_value (by_pred pred same))) (compare c.rights w.world.memory (address a) (address b)) (refl, refl, refl) (λ same. inr (truth_value (by_pred pred same), refl))
  compared_fits name pred (structure ts) x y a b = done_fits w.values (Instr.Icmp name pred (structure ts) x y) (λ same. set_value w name (truth_value (by_pred pred same))) (compare c.rights w.world.memory (address a) (address b)) (refl, refl, refl) (λ same. inr (truth_value (by_pred pred same), refl))
  compared_fits name pred (named n) x y a b = done_fits w.values (Instr.Icmp name pred (named n) x y) (λ same. set_value w name (truth_value (by_pred pred same))) (compare c.rights w.world.memory (address a) (address b)) (refl, refl, refl) (λ same. inr (truth_value (by_pred pred same), refl))

  module _ (i : Instr) (ordinary : IsOrdinary true i) where
    observed_fits : (d : ℕ) (ty : Option Ty) (args : Option (List Word)) → Fits w.values i (observed c w d ty (result_of i) args)
    observed_fits d ty None = tt
    observed_fits d None (Some args) = (ordinary, inr (Value.Poison, refl))
    observed_fits d (Some ty) (Some args) = (ordinary, inr (literal ty (answer c.answers w.world.answers_used), refl))

    named_fits : (f d : Option ℕ) (ty : Option Ty) (must_tail : Bool) (vs : List Value) → Fits w.values i (named_call c w f d ty (result_of i) must_tail vs)
    named_fits (Some f) d ty must_tail vs = (ordinary, refl)
    named_fits None (Some d) ty must_tail vs = observed_fits d ty (words_of vs)
    named_fits None None ty must_tail vs = tt

    indirect_fits : (v : Value) (ty : Option Ty) (must_tail : Bool) (args : List Arg) (vs : List Value) → Fits w.values i (indirect_call c v ty (result_of i) must_tail args vs)
    indirect_fits (Value.Ptr (Pointer.Func f)) ty must_tail args vs = on (fits_function ty args (slice_get c.code.functions f))
      where
        on : (b : Bool) → Fits w.values i (if b then Enter f vs (result_of i) must_tail else Stuck Cause.Call)
        on true = (ordinary, refl)
        on false = tt
    indirect_fits (Value.Ptr Pointer.Null) ty must_tail args vs = tt
    indirect_fits (Value.Ptr (Pointer.At b o)) ty must_tail args vs = tt
    indirect_fits Value.Poison ty must_tail args vs = tt
    indirect_fits (Value.Int x) ty must_tail args vs = tt

    allocator_fits : (a : Allocator) (vs : List Value) → Fits w.values i (allocator_call a w (result_of i) vs)
    allocator_fits Allocator.Malloc vs = length_fits w.values i (nth vs 0) (λ n. Done (allocated w (result_of i) n)) (λ n. (ordinary, inr (pointer_to (length w.world.memory), refl)))
    allocator_fits Allocator.Znwm vs = length_fits w.values i (nth vs 0) (λ n. Done (allocated w (result_of i) n)) (λ n. (ordinary, inr (pointer_to (length w.world.memory), refl)))
    allocator_fits Allocator.Free vs = ordinary
    allocator_fits Allocator.ZdlPv vs = ordinary
    allocator_fits Allocator.ZdlPvm vs = ordinary

    copied_fits : (vs : List Value) → Fits w.values i (copied_bytes c w vs)
    copied_fits vs = length_fits w.values i (nth vs 2) (λ n. done (set_memory w) (copy c.rights w.world.memory (address (nth vs 0)) (address (nth vs 1)) n)) (λ n. done_fits w.values i (set_memory w) (copy c.rights w.world.memory (address (nth vs 0)) (address (nth vs 1)) n) ordinary (λ memory. inl refl))

  intrinsic_fits : (j : Intrinsic) (result : Option ℕ) (must_tail : Bool) (ty : Option Ty) (args : List Arg) (vs : List Value) → Fits w.values (Instr.Call result must_tail ty (Callee.Intrinsic j) args) (intrinsic_call c w j result args vs)
  intrinsic_fits Intrinsic.LifetimeStart result must_tail ty args vs = ((refl, refl, refl), inl refl)
  intrinsic_fits Intrinsic.LifetimeEnd result must_tail ty args vs = ((refl, refl, refl), inl refl)
  intrinsic_fits Intrinsic.MemcpyI64 result must_tail ty args vs = copied_fits (Instr.Call result must_tail ty (Callee.Intrinsic Intrinsic.MemcpyI64) args) (refl, refl, refl) vs
  intrinsic_fits Intrinsic.MemcpyI32 result must_tail ty args vs = copied_fits (Instr.Call result must_tail ty (Callee.Intrinsic Intrinsic.MemcpyI32) args) (refl, refl, refl) vs
  intrinsic_fits j result must_tail ty args vs = (itself (intrinsic_number j), refl)

  pub fits : (i : Instr) → Fits w.values i (instr_action c w i)
  fits (Instr.Binary name op flags ty a b) = done_fits w.values (Instr.Binary name op flags ty a b) (λ n. set_value w name (value_of n)) (binary op flags (number_at ty (value_at c w ty a)) (number_at ty (value_at c w ty b))) (refl, refl, refl) (λ n. inr (value_of n, refl))
  fits (Instr.Icmp name pred ty a b) = compared_fits name pred ty a b (value_at c w ty a) (value_at c w ty b)
  fits (Instr.Select name x a b) = ((refl, refl, refl), inr (chosen (value_at c w (int 1) x) (arg_value c.code w.values a) (arg_value c.code w.values b), refl))
  fits (Instr.Cast name op nneg arg to) = ((refl, refl, refl), inr (cast_to op nneg (number_at arg.ty (arg_value c.code w.values arg)) to, refl))
  fits (Instr.Alloca name ty align) = aligned_fits w.values (Instr.Alloca name ty align) align (alloca c w name (size_of c.code ty) align) ((refl, refl, refl), inr (pointer_to (length w.world.memory), refl))
  fits (Instr.Load name ty p align) =
      aligned_fits w.values (Instr.Load name ty p align) align (done (set_value w name) (load c.rights w.world.memory (address (value_at c w ptr p)) (access_of ty) align))
      (done_fits w.values (Instr.Load name ty p align) (set_value w name) (load c.rights w.world.memory (address (value_at c w ptr p)) (access_of ty) align) (refl, refl, refl) (λ v. inr (v, refl)))
  fits (Instr.Store arg p align) =
      let r = store c.rights w.world.memory (address (value_at c w ptr p)) (stored (access_of arg.ty) (arg_value c.code w.values arg)) (access_of arg.ty) align in
      aligned_fits w.values (Instr.Store arg p align) align (done (set_memory w) r) (done_fits w.values (Instr.Store arg p align) (set_memory w) r (refl, refl, refl) (λ memory. inl refl))
  fits (Instr.Gep name inbounds ty base indices) = ((refl, refl, refl), inr (element w.world.memory inbounds (value_at c w ptr base) (distance c.code ty (indices_of c.code w.values indices)), refl))
  fits (Instr.Call result must_tail ty (Callee.Named n) args) = named_fits (Instr.Call result must_tail ty (Callee.Named n) args) (refl, refl, refl) (function_named c.code n) (declaration_named c.code n) ty must_tail (arg_values c.code w.values args)
  fits (Instr.Call result must_tail ty (Callee.Allocator a) args) = allocator_fits (Instr.Call result must_tail ty (Callee.Allocator a) args) (refl, refl, refl) a (arg_values c.code w.values args)
  fits (Instr.Call result must_tail ty (Callee.Intrinsic j) args) = intrinsic_fits j result must_tail ty args (arg_values c.code w.values args)
  fits (Instr.Call result must_tail ty (Callee.Local name) args) = indirect_fits (Instr.Call result must_tail ty (Callee.Local name) args) (refl, refl, refl) (value_in w.values name) ty must_tail args (arg_values c.code w.values args)

  -- ---- terminators

  -- a label of the terminator, or no branch
  abbrev pub Ends : Terminator → Action → Type 0
  Ends t (GoTo label) = IsTrue (list_any (λ l. l == label) (targets t))
  Ends t (Return v) = Unit {0}
  Ends t (Stuck cause) = Unit {0}
  Ends t _ = ⊥

  here_is : (l : ℕ) (b : Bool) → IsTrue ((l == l) || b)
  here_is l b = subst (λ (t : Bool). IsTrue (t || b)) (sym (itself l)) refl

  later_is : (a b : Bool) → IsTrue b → IsTrue (a || b)
  later_is true b h = refl
  later_is false b h = h

  branch_ends : (v : Value) (x : Operand) (a b : ℕ) → Ends (Terminator.Branch x a b) (branch v a b)
  branch_ends (Value.Int n) x a b = on (n.bits == 1)
    where
      on : (t : Bool) → IsTrue (list_any (λ l. l == (if t then a else b)) (a ∷ b ∷ []))
      on true = here_is a ((b == a) || false)
      on false = later_is (a == b) ((b == b) || false) (here_is b false)
  branch_ends Value.Poison x a b = tt
  branch_ends (Value.Ptr p) x a b = tt

  target_in : (m : Module) (x : Word) (default : ℕ) (cases : List Case) → IsTrue (list_any (λ l. l == target_of m x default cases) (default ∷ map (λ k. k.target) cases))
  target_in m x default [] = here_is default false
  target_in m x default (k ∷ cases) = on (is_word x (arg_value m [] k.arg)) (target_in m x default cases)
    where
      swap : (a b d : Bool) → IsTrue (a || d) → IsTrue (a || (b || d))
      swap true b d h = refl
      swap false b d h = later_is b d h

      on : (t : Bool) → IsTrue (list_any (λ l. l == target_of m x default cases) (default ∷ map (λ c. c.target) cases)) → IsTrue (list_any (λ l. l == (if t then k.target else target_of m x default cases)) (default ∷ k.target ∷ map (λ c. c.target) cases))
      on true h = later_is (default == k.target) ((k.target == k.target) || list_any (λ l. l == k.target) (map (λ c. c.target) cases)) (here_is k.target (list_any (λ l. l == k.target) (map (λ c. c.target) cases)))
      on false h = swap (default == target_of m x default cases) (k.target == target_of m x default cases) (list_any (λ l. l == target_of m x default cases) (map (λ c. c.target) cases)) h

  switch_ends : (v : Value) (arg : Arg) (default : ℕ) (cases : List Case) → Ends (Terminator.Switch arg default cases) (switch c.code v default cases)
  switch_ends (Value.Int x) arg default cases = target_in c.code x default cases
  switch_ends Value.Poison arg default cases = tt
  switch_ends (Value.Ptr p) arg default cases = tt

  pub ends : (t : Terminator) → Ends t (term_action c w t)
  ends (Terminator.Jump label) = here_is label false
  ends (Terminator.Branch x a b) = branch_ends (value_at c w (int 1) x) x a b
  ends (Terminator.Switch arg default cases) = switch_ends (arg_value c.code w.values arg) arg default cases
  ends (Terminator.Ret None) = tt
  ends (Terminator.Ret (Some arg)) = tt
  ends Terminator.Unreachable = tt
