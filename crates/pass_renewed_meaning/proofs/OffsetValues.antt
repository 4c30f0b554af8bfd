-- An instruction keeps offsets of 64 bits.
use Rattle.std.proofs.Common.{◌≡◌, ◌<◌, ℕ, zero, suc, ◌+◌, ◌%◌, ◌^◌, Bool, true, false, not, List, [], ◌∷◌, length, Option}
use Rattle.std.proofs.Common.{Some, None, Result, Ok, Err, refl, sym, ap, ◌∙◌, subst, arith, replicate, if◌then◌else◌, ◌&&◌}
use Rattle.std.proofs.Common.{◌==◌}
use Rattle.std.proofs.Math.Nat.{mod-lt}
use Rattle.std.specs.Prelude.{ℤ, slice_get, unwrap_or}
use Rattle.run_types.specs.ir_base.declared.cause.Cause.{Cause}
use Rattle.run_types.specs.ir_base.declared.ops.CastOp.{CastOp}
use Rattle.run_types.specs.ir_base.declared.ops.Pred.{Pred}
use Rattle.run_types.specs.ir_base.declared.outcome.Word.{Word}
use Rattle.run_types.specs.ir_model.Layout.{size_of}
use Rattle.run_types.specs.ir_model.Names.{declaration_named, function_named}
use Rattle.run_types.specs.ir_model.Ty.{Ty, array, int, named, ptr, structure, token}
use Rattle.run_types.specs.ir_model.declared.instr.Case.{Case}
use Rattle.run_types.specs.ir_model.declared.instr.Instr.{Instr}
use Rattle.run_types.specs.ir_model.declared.instr.Phi.{Phi}
use Rattle.run_types.specs.ir_model.declared.instr.Terminator.{Terminator}
use Rattle.run_types.specs.ir_model.declared.module.Block.{Block}
use Rattle.run_types.specs.ir_model.declared.module.Function.{Function}
use Rattle.run_types.specs.ir_model.declared.module.Module.{Module}
use Rattle.run_types.specs.ir_model.declared.module.Param.{Param}
use Rattle.run_types.specs.ir_model.declared.operand.Allocator.{Allocator}
use Rattle.run_types.specs.ir_model.declared.operand.Arg.{Arg}
use Rattle.run_types.specs.ir_model.declared.operand.Callee.{Callee}
use Rattle.run_types.specs.ir_model.declared.operand.Intrinsic.{Intrinsic}
use Rattle.run_types.specs.pass_kept_proof.Kept.{kept}
use Rattle.run_types.specs.run_ints.Numbers.{cast}
use Rattle.run_types.specs.run_ints.declared.num.Num.{Num}
use Rattle.run_types.specs.run_memory.Memory.{copy, end, fresh, load, start, store}
use Rattle.run_types.specs.run_memory.Pointers.{moved}
use Rattle.run_types.specs.run_memory.declared.block.Kind.{Kind}
use Rattle.run_types.specs.run_memory.declared.block.MemoryBlock.{MemoryBlock}
use Rattle.run_types.specs.run_memory.declared.pointer.Access.{Access}
use Rattle.run_types.specs.run_memory.declared.pointer.Pointer.{Pointer}
use Rattle.run_types.specs.run_memory.declared.pointer.Value.{Value}
use Rattle.run_types.specs.run_step.Step.{Action, AtInstr, AtTerm, Context, Done, Enter, Fetched, NewSlot}
use Rattle.run_types.specs.run_step.Step.{Nowhere, Return, Stuck, Work, action_of, alloca, alloca_kind, allocated, allocator_call}
use Rattle.run_types.specs.run_step.Step.{answer, block_of, branch, by_pred, cast_to, chosen, compared, copied_bytes, done, entry_values}
use Rattle.run_types.specs.run_step.Step.{fits_function, has_markers, if_alignment, incoming_from, indirect_call, instr_action}
use Rattle.run_types.specs.run_step.Step.{intrinsic_call, is_alignment, named_call, observed, on_block, phi_values, phis_of}
use Rattle.run_types.specs.run_step.Step.{set_memory, set_value, switch, term_action, value_at, values_in, with_all, with_length}
use Rattle.run_types.specs.run_step.Step.{with_params, words_of}
use Rattle.run_types.specs.run_step.Values.{Env, access_of, address, arg_value, arg_values, distance, element, indices_of, literal}
use Rattle.run_types.specs.run_step.Values.{moved_by, nth, number_at, number_of_width, operand_value, pointer_to, stored, truth_value}
use Rattle.run_types.specs.run_step.Values.{value_in, value_of, with_result, with_value, is_in_bounds}
use Rattle.pass_renewed_meaning.proofs.OffsetBytes.{GivesSmall, HaveSmall, copy_has, ended_has, fresh_has, loaded, started_has}
use Rattle.pass_renewed_meaning.proofs.OffsetBytes.{store_has}
use Rattle.pass_renewed_meaning.proofs.OrdinaryCases.{small_operand}
use Rattle.run_types.specs.pass_renewed_proof.Small.{HasSmallOffset}

-- ---- values of an activation

abbrev pub AreSmall : Env → Type 0
AreSmall env = (v : ℕ) → HasSmallOffset (value_in env v)

pub set_small : (env : Env) (n : ℕ) (x : Value) → AreSmall env → HasSmallOffset x → AreSmall (with_value env n x)
set_small [] n x h k v = h v
set_small (o ∷ env) zero x h k zero = k
set_small (o ∷ env) zero x h k (suc v) = h (suc v)
set_small (o ∷ env) (suc n) x h k zero = h zero
set_small (o ∷ env) (suc n) x h k (suc v) = set_small env n x (λ u. h (suc u)) k v

pub result_small : (env : Env) (result : Option ℕ) (x : Value) → AreSmall env → HasSmallOffset x
    → AreSmall (with_result env result x)
result_small env None x h k = h
result_small env (Some n) x h k = set_small env n x h k

pub unset_small : (n : ℕ) → AreSmall (replicate n None)
unset_small zero v = tt
unset_small (suc n) zero = tt
unset_small (suc n) (suc v) = unset_small n v

-- each of a list
abbrev pub AllSmall : List Value → Type 0
AllSmall [] = Unit {0}
AllSmall (v ∷ vs) = HasSmallOffset v × AllSmall vs

pub nth_small : (vs : List Value) (k : ℕ) → AllSmall vs → HasSmallOffset (nth vs k)
nth_small [] k h = tt
nth_small (v ∷ vs) zero h = h.0
nth_small (v ∷ vs) (suc k) h = nth_small vs k h.1

pub args_small : (m : Module) (env : Env) (args : List Arg) → AreSmall env → AllSmall (arg_values m env args)
args_small m env [] h = tt
args_small m env (a ∷ args) h = (small_operand m env h a.ty a.value, args_small m env args h)

params_small : (env : Env) (params : List Param) (vs : List Value) → AreSmall env → AllSmall vs
    → AreSmall (with_params env params vs)
params_small env [] vs h k = h
params_small env (p ∷ params) [] h k = h
params_small env (p ∷ params) (v ∷ vs) h k = params_small (with_value env p.name v) params vs (set_small env p.name v h k.0)
    k.1

pub entry_small : (f : Function) (vs : List Value) → AllSmall vs → AreSmall (entry_values f vs)
entry_small f vs k = params_small (replicate (length f.names) None) f.params vs (unset_small (length f.names)) k

abbrev PairsSmall : List (ℕ × Value) → Type 0
PairsSmall [] = Unit {0}
PairsSmall (p ∷ ps) = HasSmallOffset p.1 × PairsSmall ps

pairs_small : (env : Env) (ps : List (ℕ × Value)) → AreSmall env → PairsSmall ps → AreSmall (with_all env ps)
pairs_small env [] h k = h
pairs_small env (p ∷ ps) h k = pairs_small (with_value env p.0 p.1) ps (set_small env p.0 p.1 h k.0) k.1

phis_small : (m : Module) (env : Env) (label : ℕ) (phis : List Phi) → AreSmall env → PairsSmall (phi_values m env label phis)
phis_small m env label [] h = tt
phis_small m env label (p ∷ phis) h = (
  small_operand m env h p.ty (incoming_from p.incoming label),
  phis_small m env label phis h,
)

pub block_small : (m : Module) (b : Option Block) (label : ℕ) (env : Env) → AreSmall env
    → AreSmall (values_in m b label env)
block_small m b label env h = pairs_small env (phi_values m env label (phis_of b)) h (phis_small m env label (phis_of b) h)

pub kept_small : (keep : ℕ → Bool) (env : Env) → AreSmall env → AreSmall (kept keep env)
kept_small keep [] h v = h v
kept_small keep (o ∷ env) h zero = on (keep 0) (h zero)
  where
    on : (t : Bool) → HasSmallOffset (value_in (o ∷ env) 0) → HasSmallOffset (value_in ((if t then o else None) ∷ kept (λ i.
        keep (suc i)) env) 0)
    on true k = k
    on false k = tt
kept_small keep (o ∷ env) h (suc v) = kept_small (λ i. keep (suc i)) env (λ u. h (suc u)) v

-- ---- values that instructions give

number_small : (x : Num) → HasSmallOffset (value_of x)
number_small Num.Poison = tt
number_small (Num.Is w) = tt

pub zero_small : (b : ℕ) → HasSmallOffset (pointer_to b)
zero_small b = by
  where
    by : 0 < 2 ^ 64
    by = omega arith

literal_small : (ty : Ty) (z : ℤ) → HasSmallOffset (literal ty z)
literal_small (int n) z = tt
literal_small ptr z = tt
literal_small token z = tt
literal_small (array n ty) z = tt
literal_small (structure tys) z = tt
literal_small (named n) z = tt

chosen_small : (x a b : Value) → HasSmallOffset a → HasSmallOffset b → HasSmallOffset (chosen x a b)
chosen_small Value.Poison a b h k = tt
chosen_small (Value.Int n) a b h k = on (n.bits == 1)
  where
    on : (t : Bool) → HasSmallOffset (if t then a else b)
    on true = h
    on false = k
chosen_small (Value.Ptr p) a b h k = tt

cast_small : (op : CastOp) (nneg : Bool) (n : Num) (to : Ty) → HasSmallOffset (cast_to op nneg n to)
cast_small op nneg n (int w) = number_small (cast op nneg n w)
cast_small op nneg n ptr = tt
cast_small op nneg n token = tt
cast_small op nneg n (array k t) = tt
cast_small op nneg n (structure ts) = tt
cast_small op nneg n (named k) = tt

moved_small : (memory : List MemoryBlock) (inbounds : Bool) (v : Value) (d : ℕ) → HasSmallOffset (moved_by memory inbounds v
    d)
moved_small memory inbounds (Value.Ptr Pointer.Null) d = on (d == 0)
  where
    on : (t : Bool) → HasSmallOffset (if t then Value.Ptr Pointer.Null else Value.Poison)
    on true = tt
    on false = tt
moved_small memory inbounds (Value.Ptr (Pointer.At b o)) d = on (inbounds && not (is_in_bounds (slice_get memory b) (moved o
    d)))
  where
    less : (o.bits + d) % 2 ^ 64 < 2 ^ 64
    less = let p : 0 < 2 ^ 64 = omega arith in mod-lt (o.bits + d) p

    on : (t : Bool) → HasSmallOffset (if t then Value.Poison else Value.Ptr (Pointer.At b (moved o d)))
    on true = tt
    on false = less
moved_small memory inbounds (Value.Ptr (Pointer.Func f)) d = tt
moved_small memory inbounds Value.Poison d = tt
moved_small memory inbounds (Value.Int w) d = tt

element_small : (memory : List MemoryBlock) (inbounds : Bool) (v : Value) (d : Option ℕ) → HasSmallOffset (element memory
    inbounds v d)
element_small memory inbounds v None = tt
element_small memory inbounds v (Some d) = moved_small memory inbounds v d

address_small : (v : Value) → HasSmallOffset v → HasSmallOffset (address v)
address_small (Value.Ptr p) h = h
address_small (Value.Int n) h = tt
address_small Value.Poison h = tt

pub stored_small : (what : Access) (v : Value) → HasSmallOffset v → HasSmallOffset (stored what v)
stored_small (Access.Int w) v h = number_small (number_of_width w v)
stored_small Access.Ptr v h = address_small v h

-- ---- an instruction

abbrev pub IsSmallAction : Action → Type 0
IsSmallAction (Done w) = AreSmall w.values × HaveSmall w.world.memory
IsSmallAction (NewSlot w slot) = AreSmall w.values × HaveSmall w.world.memory
IsSmallAction (Enter func args result must_tail) = AllSmall args
IsSmallAction (Return v) = HasSmallOffset (unwrap_or v Value.Poison)
IsSmallAction _ = Unit {0}

module _ (c : Context) (w : Work) (h : AreSmall w.values) (bytes : HaveSmall w.world.memory) where
  set : (name : ℕ) (v : Value) → HasSmallOffset v → IsSmallAction (Done (set_value w name v))
  set name v k = (set_small w.values name v h k, bytes)

  done_fine : {A : Type 0} (g : A → Work) (r : Result A Cause) → ((a : A) → r ≡ Ok a → IsSmallAction (Done (g a)))
      → IsSmallAction (done g r)
  done_fine g (Err cause) k = tt
  done_fine g (Ok a) k = k a refl

  if_fine : (align : ℕ) (a : Action) → IsSmallAction a → IsSmallAction (if_alignment align a)
  if_fine align a k = on (is_alignment align)
    where
      on : (t : Bool) → IsSmallAction (if t then a else Stuck Cause.Align)
      on true = k
      on false = tt

  length_fine : (v : Value) (g : ℕ → Action) → ((k : ℕ) → IsSmallAction (g k)) → IsSmallAction (with_length v g)
  length_fine (Value.Int x) g k = k x.bits
  length_fine Value.Poison g k = tt
  length_fine (Value.Ptr p) g k = tt

  memory_fine : (r : Result (List MemoryBlock) Cause) → GivesSmall r → IsSmallAction (done (set_memory w) r)
  memory_fine (Err cause) k = tt
  memory_fine (Ok memory) k = (h, k)

  compared_fine : (name : ℕ) (pred : Pred) (ty : Ty) (a b : Value) → IsSmallAction (compared c w name pred ty a b)
  compared_fine name pred (int k) a b = set name _ (number_small _)
  compared_fine name pred ptr a b = done_fine _ _ (λ same e. set name _ tt)
  compared_fine name pred token a b = done_fine _ _ (λ same e. set name _ tt)
  compared_fine name pred (array k t) a b = done_fine _ _ (λ same e. set name _ tt)
  compared_fine name pred (structure ts) a b = done_fine _ _ (λ same e. set name _ tt)
  compared_fine name pred (named k) a b = done_fine _ _ (λ same e. set name _ tt)

  observed_fine : (d : ℕ) (ty : Option Ty) (result : Option ℕ) (words : Option (List Word)) → IsSmallAction (observed c w d ty
      result words)
  observed_fine d ty result None = tt
  observed_fine d None result (Some words) = (result_small w.values result Value.Poison h tt, bytes)
  observed_fine d (Some t) result (Some words) = (
    result_small w.values result (literal t (answer c.answers w.world.answers_used)) h (literal_small t (answer c.answers
        w.world.answers_used)),
    bytes,
  )

  named_fine : (f d : Option ℕ) (ty : Option Ty) (result : Option ℕ) (must_tail : Bool) (vs : List Value) → AllSmall vs
      → IsSmallAction (named_call c w f d ty result must_tail vs)
  named_fine (Some f) d ty result must_tail vs k = k
  named_fine None (Some d) ty result must_tail vs k = observed_fine d ty result (words_of vs)
  named_fine None None ty result must_tail vs k = tt

  indirect_fine : (v : Value) (ty : Option Ty) (result : Option ℕ) (must_tail : Bool) (args : List Arg) (vs : List Value)
      → AllSmall vs → IsSmallAction (indirect_call c v ty result must_tail args vs)
  indirect_fine (Value.Ptr (Pointer.Func f)) ty result must_tail args vs k = on (fits_function ty args (slice_get
      c.code.functions f))
    where
      on : (t : Bool) → IsSmallAction (if t then Enter f vs result must_tail else Stuck Cause.Call)
      on true = k
      on false = tt
  indirect_fine (Value.Ptr Pointer.Null) ty result must_tail args vs k = tt
  indirect_fine (Value.Ptr (Pointer.At b o)) ty result must_tail args vs k = tt
  indirect_fine Value.Poison ty result must_tail args vs k = tt
  indirect_fine (Value.Int n) ty result must_tail args vs k = tt

  allocates_fine : (result : Option ℕ) (vs : List Value) → IsSmallAction (with_length (nth vs 0) (λ n. Done (allocated w result
      n)))
  allocates_fine result vs = length_fine (nth vs 0) (λ n. Done (allocated w result n)) (λ n. (
    result_small w.values result (pointer_to (length w.world.memory)) h (zero_small (length w.world.memory)),
    fresh_has w.world.memory n 16 Kind.Allocator bytes,
  ))

  allocator_fine : (a : Allocator) (result : Option ℕ) (vs : List Value) → IsSmallAction (allocator_call a w result vs)
  allocator_fine Allocator.Malloc result vs = allocates_fine result vs
  allocator_fine Allocator.Znwm result vs = allocates_fine result vs
  allocator_fine Allocator.Free result vs = tt
  allocator_fine Allocator.ZdlPv result vs = tt
  allocator_fine Allocator.ZdlPvm result vs = tt

  marked : (g : List MemoryBlock → ℕ → List MemoryBlock) → ((b : ℕ) → HaveSmall (g w.world.memory b)) → (o : Option ℕ)
      → IsSmallAction (Done (set_memory w (on_block g w.world.memory o)))
  marked g k None = (h, bytes)
  marked g k (Some b) = (h, k b)

  copied_fine : (vs : List Value) → IsSmallAction (copied_bytes c w vs)
  copied_fine vs = length_fine (nth vs 2) (λ k. done (set_memory w) (copy c.rights w.world.memory (address (nth vs 0)) (address
      (nth vs 1)) k)) (λ k. memory_fine (copy c.rights w.world.memory (address (nth vs 0)) (address (nth vs 1)) k) (copy_has
      c.rights w.world.memory (address (nth vs 0)) (address (nth vs 1)) k bytes))

  intrinsic_fine : (x : Intrinsic) (result : Option ℕ) (args : List Arg) (vs : List Value) → IsSmallAction (intrinsic_call c w x
      result args vs)
  intrinsic_fine Intrinsic.LifetimeStart result args vs = marked start (λ b. started_has w.world.memory b bytes) (block_of (nth
      vs 1))
  intrinsic_fine Intrinsic.LifetimeEnd result args vs = marked end (λ b. ended_has w.world.memory b bytes) (block_of (nth vs
      1))
  intrinsic_fine Intrinsic.MemcpyI64 result args vs = copied_fine vs
  intrinsic_fine Intrinsic.MemcpyI32 result args vs = copied_fine vs
  intrinsic_fine Intrinsic.CoroId result args vs = tt
  intrinsic_fine Intrinsic.CoroSizeI32 result args vs = tt
  intrinsic_fine Intrinsic.CoroSizeI64 result args vs = tt
  intrinsic_fine Intrinsic.CoroAlignI32 result args vs = tt
  intrinsic_fine Intrinsic.CoroAlignI64 result args vs = tt
  intrinsic_fine Intrinsic.CoroAlloc result args vs = tt
  intrinsic_fine Intrinsic.CoroBegin result args vs = tt
  intrinsic_fine Intrinsic.CoroFree result args vs = tt
  intrinsic_fine Intrinsic.CoroFrame result args vs = tt
  intrinsic_fine Intrinsic.CoroSave result args vs = tt
  intrinsic_fine Intrinsic.CoroSuspend result args vs = tt
  intrinsic_fine Intrinsic.CoroEnd result args vs = tt
  intrinsic_fine Intrinsic.CoroResume result args vs = tt
  intrinsic_fine Intrinsic.CoroDestroy result args vs = tt
  intrinsic_fine Intrinsic.CoroDone result args vs = tt
  intrinsic_fine Intrinsic.CoroPromise result args vs = tt

  made : (t : Bool) (size align : ℕ) → HaveSmall (if t then end (fresh w.world.memory size align (alloca_kind c.function))
      (length w.world.memory) else fresh w.world.memory size align (alloca_kind c.function))
  made true size align = ended_has (fresh w.world.memory size align (alloca_kind c.function)) (length w.world.memory) (fresh_has
      w.world.memory size align (alloca_kind c.function) bytes)
  made false size align = fresh_has w.world.memory size align (alloca_kind c.function) bytes

  instr_fine : (i : Instr) → IsSmallAction (instr_action c w i)
  instr_fine (Instr.Binary name op flags ty a b) = done_fine _ _ (λ x e. set name (value_of x) (number_small x))
  instr_fine (Instr.Icmp name pred ty a b) = compared_fine name pred ty _ _
  instr_fine (Instr.Select name x a b) = set name _ (chosen_small (value_at c w (int 1) x) _ _ (small_operand c.code w.values h a.ty a.value)
      (small_operand c.code w.values h b.ty b.value))
  instr_fine (Instr.Cast name op nneg arg to) = set name _ (cast_small op nneg _ to)
  instr_fine (Instr.Alloca name ty align) = if_fine align (alloca c w name (size_of c.code ty) align) (
    set_small w.values name (pointer_to (length w.world.memory)) h (zero_small (length w.world.memory)),
    made (has_markers c.function name) (size_of c.code ty) align,
  )
  instr_fine (Instr.Load name ty p align) = if_fine align (done (set_value w name) (load c.rights w.world.memory (address
      (value_at c w ptr p)) (access_of ty) align)) (done_fine (set_value w name) (load c.rights w.world.memory (address
      (value_at c w ptr p)) (access_of ty) align) (λ v e. set name v (loaded c.rights w.world.memory (address (value_at c w ptr
      p)) (access_of ty) align bytes v e)))
  instr_fine (Instr.Store arg p align) = if_fine align (done (set_memory w) (store c.rights w.world.memory (address (value_at c w
      ptr p)) (stored (access_of arg.ty) (arg_value c.code w.values arg)) (access_of arg.ty) align)) (memory_fine (store
      c.rights w.world.memory (address (value_at c w ptr p)) (stored (access_of arg.ty) (arg_value c.code w.values arg))
      (access_of arg.ty) align) (store_has c.rights w.world.memory (address (value_at c w ptr p)) (stored (access_of arg.ty)
      (arg_value c.code w.values arg)) (access_of arg.ty) align bytes (stored_small (access_of arg.ty) (arg_value c.code
      w.values arg) (small_operand c.code w.values h arg.ty arg.value))))
  instr_fine (Instr.Gep name inbounds ty base indices) = set name _ (element_small w.world.memory inbounds (value_at c w ptr base) (distance
      c.code ty (indices_of c.code w.values indices)))
  instr_fine (Instr.Call result must_tail ty (Callee.Named n) args) = named_fine (function_named c.code n) (declaration_named
      c.code n) ty result must_tail (arg_values c.code w.values args) (args_small c.code w.values args h)
  instr_fine (Instr.Call result must_tail ty (Callee.Allocator a) args) = allocator_fine a result (arg_values c.code w.values
      args)
  instr_fine (Instr.Call result must_tail ty (Callee.Intrinsic x) args) = intrinsic_fine x result args (arg_values c.code
      w.values args)
  instr_fine (Instr.Call result must_tail ty (Callee.Local v) args) = indirect_fine (value_in w.values v) ty result must_tail
      args (arg_values c.code w.values args) (args_small c.code w.values args h)

  branch_fine : (v : Value) (a b : ℕ) → IsSmallAction (branch v a b)
  branch_fine (Value.Int x) a b = tt
  branch_fine Value.Poison a b = tt
  branch_fine (Value.Ptr p) a b = tt

  switch_fine : (v : Value) (default : ℕ) (cases : List Case) → IsSmallAction (switch c.code v default cases)
  switch_fine (Value.Int x) default cases = tt
  switch_fine Value.Poison default cases = tt
  switch_fine (Value.Ptr p) default cases = tt

  pub action_fine : (x : Fetched) → IsSmallAction (action_of c w x)
  action_fine Nowhere = tt
  action_fine (AtInstr i) = instr_fine i
  action_fine (AtTerm (Terminator.Jump label)) = tt
  action_fine (AtTerm (Terminator.Branch x a b)) = branch_fine (value_at c w (int 1) x) a b
  action_fine (AtTerm (Terminator.Switch arg default cases)) = switch_fine (arg_value c.code w.values arg) default cases
  action_fine (AtTerm (Terminator.Ret None)) = tt
  action_fine (AtTerm (Terminator.Ret (Some arg))) = small_operand c.code w.values h arg.ty arg.value
  action_fine (AtTerm Terminator.Unreachable) = tt
