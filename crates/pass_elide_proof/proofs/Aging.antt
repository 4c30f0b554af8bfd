-- Blocks of stacks stay such blocks, and get no owner by ordinary steps.
use Rattle.std.proofs.Common.{◌≡◌, ◌⊎◌, inl, inr, ⊎_elim, ℕ, zero, suc, Bool, true, false, not, List, [], ◌∷◌, ◌++◌, length, Result, Ok, Err, refl, sym, ap, ◌∙◌, subst, if◌then◌else◌, ◌&&◌, ◌==◌}
use Rattle.std.specs.Option.{option_map_or}
use Rattle.std.specs.Prelude.{None, Option, Some, replicate, slice_get}
use Rattle.pass_elide_proof.proofs.Begun.{end_or_before}
use Rattle.pass_proofs.specs.ir_base.declared.cause.Cause.{Cause}
use Rattle.pass_proofs.specs.ir_base.declared.ops.Pred.{Pred}
use Rattle.pass_proofs.specs.ir_base.declared.outcome.Word.{Word}
use Rattle.pass_proofs.specs.ir_model.Names.{declaration_named, function_named}
use Rattle.pass_proofs.specs.ir_model.Layout.{size_of}
use Rattle.pass_proofs.specs.ir_model.Ty.{Ty, array, int, named, ptr, structure, token}
use Rattle.pass_proofs.specs.ir_model.declared.instr.Case.{Case}
use Rattle.pass_proofs.specs.ir_model.declared.instr.Instr.{Instr}
use Rattle.pass_proofs.specs.ir_model.declared.instr.Terminator.{Terminator}
use Rattle.pass_proofs.specs.ir_model.declared.operand.Allocator.{Allocator}
use Rattle.pass_proofs.specs.ir_model.declared.operand.Arg.{Arg}
use Rattle.pass_proofs.specs.ir_model.declared.operand.Callee.{Callee}
use Rattle.pass_proofs.specs.ir_model.declared.operand.Intrinsic.{Intrinsic}
use Rattle.pass_proofs.specs.run_framed.Framed.{is_stack_block}
use Rattle.pass_proofs.specs.run_ints.Numbers.{binary}
use Rattle.pass_proofs.specs.run_laws.memory.Standing.{blank_block}
use Rattle.pass_proofs.specs.run_memory.Memory.{access_bytes, both, bytes_at, compare, copied, copy, disowned, encode, end, ended, is_constant, is_killed, is_owned, is_unkilled, killed, killed_block, load, on_ok, overlaps, range, same_kind, start, started, store, unless_constant, with_block, with_bytes, write}
use Rattle.pass_proofs.specs.run_memory.declared.block.Byte.{Byte}
use Rattle.pass_proofs.specs.run_memory.declared.block.Kind.{Kind}
use Rattle.pass_proofs.specs.run_memory.declared.block.Life.{Life}
use Rattle.pass_proofs.specs.run_memory.declared.block.MemoryBlock.{MemoryBlock}
use Rattle.pass_proofs.specs.run_memory.declared.pointer.Access.{Access}
use Rattle.pass_proofs.specs.run_memory.declared.pointer.Pointer.{Pointer}
use Rattle.pass_proofs.specs.run_memory.declared.pointer.Spot.{Spot}
use Rattle.pass_proofs.specs.run_memory.declared.pointer.Value.{Value}
use Rattle.pass_proofs.specs.run_step.Step.{Action, AtInstr, AtTerm, Context, Done, Enter, Fetched, NewSlot, Nowhere, Stuck, Work, action_of, alloca, alloca_kind, allocated, allocator_call, block_of, branch, by_pred, compared, copied_bytes, deallocated, done, fits_function, has_markers, if_alignment, indirect_call, instr_action, intrinsic_call, is_alignment, named_call, observed, on_block, set_memory, set_value, switch, term_action, value_at, with_length, without_slots, words_of}
use Rattle.pass_proofs.specs.run_step.Values.{access_of, address, arg_value, arg_values, nth, number_at, stored, truth_value, value_in, value_of}
use Rattle.pass_proofs.specs.run_step.declared.world.Slot.{Slot}

-- what owns a stack block did before, and stack blocks stay such
pub record Ages (m n : List MemoryBlock) : Type 0 where
  pub owned : (b k : ℕ) (y : MemoryBlock) → slice_get n b ≡ Some y → y.kind ≡ Kind.Stack → y.owned ≡ Some k
      → (z : MemoryBlock) × (i : ℕ) × (slice_get m b ≡ Some z) × (z.kind ≡ Kind.Stack) × (z.owned ≡ Some i)
  pub stacks : (b : ℕ) → is_stack_block m b ≡ true → is_stack_block n b ≡ true

pub ages_itself : (m : List MemoryBlock) → Ages m m
ages_itself m = record { owned = λ b k y at kind own. (y, k, at, kind, own); stacks = λ b is. is }

pub ages_then : (m n k : List MemoryBlock) → Ages m n → Ages n k → Ages m k
ages_then m n k first second = record {
  owned = λ b j y at kind own.
      let z = second.owned b j y at kind own in
      first.owned b z.1 z.0 z.2 z.3 z.4;
  stacks = λ b is. second.stacks b (first.stacks b is);
}

-- a change of a block that keeps its kind, and at most takes its owner
pub record KeepsOwner (f : MemoryBlock → MemoryBlock) : Type 0 where
  pub kind : (x : MemoryBlock) → (f x).kind ≡ x.kind
  pub owner : (x : MemoryBlock) → ((f x).owned ≡ x.owned) ⊎ ((f x).owned ≡ None)

no_owner : (o : Option ℕ) (k : ℕ) → o ≡ None → o ≡ Some k → ⊥
no_owner None k e h = absurd (cc)
no_owner (Some i) k e h = absurd (cc)

-- one list's head changes, or none
abbrev StackIn : Option MemoryBlock → Bool
StackIn o = option_map_or (λ (x : MemoryBlock). same_kind x.kind Kind.Stack) o false

pub ages_block : (m : List MemoryBlock) (b : ℕ) (f : MemoryBlock → MemoryBlock) → KeepsOwner f
    → Ages m (with_block m b f)
ages_block [] b f keeps = ages_itself []
ages_block (x ∷ m) zero f keeps = record {
  owned = here;
  stacks = λ b is. stack b is;
}
  where
    here : (c k : ℕ) (y : MemoryBlock) → slice_get (f x ∷ m) c ≡ Some y → y.kind ≡ Kind.Stack → y.owned ≡ Some k
        → (z : MemoryBlock) × (i : ℕ) × (slice_get (x ∷ m) c ≡ Some z) × (z.kind ≡ Kind.Stack) × (z.owned ≡ Some i)
    here zero k y at kind own =
        let same : f x ≡ y = cc in
        ⊎_elim
        (λ kept. (
          x,
          k,
          refl,
          sym (keeps.kind x) ∙ (ap (λ (z : MemoryBlock). z.kind) same ∙ kind),
          sym kept ∙ (ap (λ (z : MemoryBlock). z.owned) same ∙ own),
        ))
        (λ none. absurd (no_owner (f x).owned k none (ap (λ (z : MemoryBlock). z.owned) same ∙ own)))
        (keeps.owner x)
    here (suc c) k y at kind own = (y, k, at, kind, own)

    stack : (c : ℕ) → is_stack_block (x ∷ m) c ≡ true → is_stack_block (f x ∷ m) c ≡ true
    stack zero is = ap (λ (q : Kind). same_kind q Kind.Stack) (keeps.kind x) ∙ is
    stack (suc c) is = is
ages_block (x ∷ m) (suc b) f keeps = behind (ages_block m b f keeps)
  where
    behind : Ages m (with_block m b f) → Ages (x ∷ m) (x ∷ with_block m b f)
    behind rest = record { owned = owned; stacks = stacks }
      where
        owned : (c k : ℕ) (y : MemoryBlock) → slice_get (x ∷ with_block m b f) c ≡ Some y → y.kind ≡ Kind.Stack
            → y.owned ≡ Some k
            → (z : MemoryBlock) × (i : ℕ) × (slice_get (x ∷ m) c ≡ Some z) × (z.kind ≡ Kind.Stack)
            × (z.owned ≡ Some i)
        owned zero k y at kind own = (y, k, at, kind, own)
        owned (suc c) k y at kind own = rest.owned c k y at kind own

        stacks : (c : ℕ) → is_stack_block (x ∷ m) c ≡ true → is_stack_block (x ∷ with_block m b f) c ≡ true
        stacks zero is = is
        stacks (suc c) is = rest.stacks c is

pub ages_more : (m : List MemoryBlock) (x : MemoryBlock) → x.owned ≡ None → Ages m (m ++ x ∷ [])
ages_more m x free = record { owned = owned; stacks = stacks m }
  where
    owned : (c k : ℕ) (y : MemoryBlock) → slice_get (m ++ x ∷ []) c ≡ Some y → y.kind ≡ Kind.Stack
        → y.owned ≡ Some k
        → (z : MemoryBlock) × (i : ℕ) × (slice_get m c ≡ Some z) × (z.kind ≡ Kind.Stack) × (z.owned ≡ Some i)
    owned c k y at kind own = ⊎_elim
        (λ last. absurd (no_owner y.owned k (ap (λ (z : MemoryBlock). z.owned) last.1 ∙ free) own))
        (λ old. (y, k, old, kind, own))
        (end_or_before m x y c at)

    stacks : (n : List MemoryBlock) (c : ℕ) → is_stack_block n c ≡ true → is_stack_block (n ++ x ∷ []) c ≡ true
    stacks [] c is = absurd (cc)
    stacks (z ∷ n) zero is = is
    stacks (z ∷ n) (suc c) is = stacks n c is

-- ---- the changes

bytes_keep : (o : ℕ) (new : List Byte) → KeepsOwner (with_bytes o new)
bytes_keep o new = record { kind = λ x. refl; owner = λ x. inl refl }

pub kill_keeps : KeepsOwner killed_block
kill_keeps = record { kind = λ x. refl; owner = λ x. inr refl }

pub disown_keeps : KeepsOwner disowned
disown_keeps = record { kind = λ x. refl; owner = λ x. inr refl }

start_keeps : KeepsOwner started
start_keeps = record { kind = λ x. kind x (is_killed x.life); owner = λ x. owner x (is_killed x.life) }
  where
    kind : (x : MemoryBlock) (t : Bool)
        → (if t then x else record x { life = Life.Live; bytes = replicate x.size Byte.Undefined }).kind ≡ x.kind
    kind x true = refl
    kind x false = refl

    owner : (x : MemoryBlock) (t : Bool)
        → ((if t then x else record x { life = Life.Live; bytes = replicate x.size Byte.Undefined }).owned ≡ x.owned)
        ⊎ ((if t then x else record x { life = Life.Live; bytes = replicate x.size Byte.Undefined }).owned ≡ None)
    owner x true = inl refl
    owner x false = inl refl

end_keeps : KeepsOwner ended
end_keeps = record { kind = λ x. kind x (is_killed x.life); owner = λ x. owner x (is_killed x.life) }
  where
    kind : (x : MemoryBlock) (t : Bool) → (if t then x else record x { life = Life.Ended }).kind ≡ x.kind
    kind x true = refl
    kind x false = refl

    owner : (x : MemoryBlock) (t : Bool)
        → ((if t then x else record x { life = Life.Ended }).owned ≡ x.owned)
        ⊎ ((if t then x else record x { life = Life.Ended }).owned ≡ None)
    owner x true = inl refl
    owner x false = inl refl

pub slots_age : (m : List MemoryBlock) (slots : List Slot) → Ages m (without_slots m slots)
slots_age m [] = ages_itself m
slots_age m (z ∷ slots) =
    ages_then m (killed m z.block) (without_slots (killed m z.block) slots)
    (ages_block m z.block killed_block kill_keeps)
    (slots_age (killed m z.block) slots)

-- ---- results

abbrev pub AgesTo : List MemoryBlock → Result (List MemoryBlock) Cause → Type 0
AgesTo m (Err cause) = Unit {0}
AgesTo m (Ok n) = Ages m n

if_ages : (m : List MemoryBlock) (t : Bool) (r q : Result (List MemoryBlock) Cause) → AgesTo m r → AgesTo m q
    → AgesTo m (if t then r else q)
if_ages m true r q h k = h
if_ages m false r q h k = k

pub kill_ages : (m : List MemoryBlock) (p : Value) → AgesTo m (deallocated m p)
kill_ages m (Value.Ptr Pointer.Null) = ages_itself m
kill_ages m (Value.Ptr (Pointer.At b o)) =
    if_ages m (not (o.bits == 0 && is_unkilled Kind.Allocator (slice_get m b))) (Err Cause.Free)
    (if is_owned (slice_get m b) then Err Cause.Owned else Ok (killed m b)) tt
    (if_ages m (is_owned (slice_get m b)) (Err Cause.Owned) (Ok (killed m b)) tt
    (ages_block m b killed_block kill_keeps))
kill_ages m (Value.Ptr (Pointer.Func f)) = tt
kill_ages m Value.Poison = tt
kill_ages m (Value.Int n) = tt

write_ages : (m : List MemoryBlock) (spot : Spot) (new : List Byte) → Ages m (write m spot new)
write_ages m spot new = ages_block m spot.block (with_bytes spot.offset new) (bytes_keep spot.offset new)

pub store_ages : (c : Context) (m : List MemoryBlock) (p v : Value) (what : Access) (align : ℕ)
    → AgesTo m (store c.rights m p v what align)
store_ages c m p v what align = by (range c.rights m p (access_bytes what) align)
  where
    by : (r : Result Spot Cause)
        → AgesTo m (on_ok (λ spot. unless_constant m spot (write m spot (encode (access_bytes what) v))) r)
    by (Err cause) = tt
    by (Ok spot) =
        if_ages m (is_constant (slice_get m spot.block)) (Err Cause.Constant)
        (Ok (write m spot (encode (access_bytes what) v))) tt (write_ages m spot (encode (access_bytes what) v))

pub copy_ages : (c : Context) (m : List MemoryBlock) (to from : Value) (n : ℕ) → AgesTo m (copy c.rights m to from n)
copy_ages c m to from zero = ages_itself m
copy_ages c m to from (suc n) = by (both (range c.rights m to (suc n) 1) (range c.rights m from (suc n) 1))
  where
    by : (r : Result (Spot × Spot) Cause) → AgesTo m (on_ok (λ (a, b). copied m a b (suc n)) r)
    by (Err cause) = tt
    by (Ok (a, b)) =
        if_ages m (is_constant (slice_get m a.block)) (Err Cause.Constant) _ tt
        (if_ages m (overlaps a b (suc n)) (Err Cause.Overlap) (Ok (write m a (bytes_at m b (suc n)))) tt
        (write_ages m a (bytes_at m b (suc n))))

-- ---- actions

-- so the memory does by a step, whose new slot is one of these
abbrev pub AgesBy : List MemoryBlock → (Slot → Type 0) → Action → Type 0
AgesBy m P (Done w) = Ages m w.world.memory
AgesBy m P (NewSlot w slot) = Ages m w.world.memory × P slot
AgesBy m P _ = Unit {0}

module _ (c : Context) (w : Work) (P : Slot → Type 0) where
  abbrev m : List MemoryBlock
  m = w.world.memory

  abbrev By : Action → Type 0
  By a = AgesBy m P a

  -- what changes no memory
  still_ages : {A : Type 0} (f : A → Work) (r : Result A Cause) → ((a : A) → (f a).world.memory ≡ m)
      → By (done f r)
  still_ages f (Err cause) h = tt
  still_ages f (Ok a) h = subst (Ages m) (sym (h a)) (ages_itself m)

  memory_ages : (r : Result (List MemoryBlock) Cause) → AgesTo m r → By (done (set_memory w) r)
  memory_ages (Err cause) h = tt
  memory_ages (Ok n) h = h

  aligned_ages : (align : ℕ) (a : Action) → By a → By (if_alignment align a)
  aligned_ages align a h = by (is_alignment align)
    where
      by : (t : Bool) → By (if t then a else Stuck Cause.Align)
      by true = h
      by false = tt

  length_ages : (u : Value) (f : ℕ → Action) → ((j : ℕ) → By (f j)) → By (with_length u f)
  length_ages (Value.Int y) f h = h y.bits
  length_ages Value.Poison f h = tt
  length_ages (Value.Ptr p) f h = tt

  pointers_age : (name : ℕ) (pred : Pred) (a b : Value)
      → By (done (λ same. set_value w name (truth_value (by_pred pred same)))
      (compare c.rights m (address a) (address b)))
  pointers_age name pred a b =
      still_ages (λ same. set_value w name (truth_value (by_pred pred same)))
      (compare c.rights m (address a) (address b)) (λ t. refl)

  compared_age : (name : ℕ) (pred : Pred) (ty : Ty) (a b : Value) → By (compared c w name pred ty a b)
  compared_age name pred (int j) a b = ages_itself m
  compared_age name pred ptr a b = pointers_age name pred a b
  compared_age name pred token a b = pointers_age name pred a b
  compared_age name pred (array j t) a b = pointers_age name pred a b
  compared_age name pred (structure ts) a b = pointers_age name pred a b
  compared_age name pred (named j) a b = pointers_age name pred a b

  alloca_ages : (name size align : ℕ) → P (record { alloca = name; block = length m })
      → By (alloca c w name size align)
  alloca_ages name size align made = (by (has_markers c.function name), made)
    where
      by : (t : Bool)
          → Ages m (if t then end (m ++ blank_block size align (alloca_kind c.function) ∷ []) (length m)
          else m ++ blank_block size align (alloca_kind c.function) ∷ [])
      by true =
          ages_then m (m ++ blank_block size align (alloca_kind c.function) ∷ []) _
          (ages_more m (blank_block size align (alloca_kind c.function)) refl)
          (ages_block (m ++ blank_block size align (alloca_kind c.function) ∷ []) (length m) ended end_keeps)
      by false = ages_more m (blank_block size align (alloca_kind c.function)) refl

  observed_age : (d : ℕ) (ty : Option Ty) (result : Option ℕ) (args : Option (List Word))
      → By (observed c w d ty result args)
  observed_age d ty result None = tt
  observed_age d None result (Some args) = ages_itself m
  observed_age d (Some ty) result (Some args) = ages_itself m

  named_age : (f d : Option ℕ) (ty : Option Ty) (result : Option ℕ) (must_tail : Bool) (vs : List Value)
      → By (named_call c w f d ty result must_tail vs)
  named_age (Some f) d ty result must_tail vs = tt
  named_age None (Some d) ty result must_tail vs = observed_age d ty result (words_of vs)
  named_age None None ty result must_tail vs = tt

  copied_age : (vs : List Value) → By (copied_bytes c w vs)
  copied_age vs =
      length_ages (nth vs 2)
      (λ n. done (set_memory w) (copy c.rights m (address (nth vs 0)) (address (nth vs 1)) n))
      (λ n. memory_ages (copy c.rights m (address (nth vs 0)) (address (nth vs 1)) n)
      (copy_ages c m (address (nth vs 0)) (address (nth vs 1)) n))

  started_age : (o : Option ℕ) → Ages m (on_block start m o)
  started_age None = ages_itself m
  started_age (Some b) = ages_block m b started start_keeps

  ended_age : (o : Option ℕ) → Ages m (on_block end m o)
  ended_age None = ages_itself m
  ended_age (Some b) = ages_block m b ended end_keeps

  intrinsic_age : (i : Intrinsic) (result : Option ℕ) (args : List Arg) (vs : List Value)
      → By (intrinsic_call c w i result args vs)
  intrinsic_age Intrinsic.LifetimeStart result args vs = started_age (block_of (nth vs 1))
  intrinsic_age Intrinsic.LifetimeEnd result args vs = ended_age (block_of (nth vs 1))
  intrinsic_age Intrinsic.MemcpyI64 result args vs = copied_age vs
  intrinsic_age Intrinsic.MemcpyI32 result args vs = copied_age vs
  intrinsic_age _ result args vs = tt

  allocated_age : (result : Option ℕ) (v : Value) → By (with_length v (λ n. Done (allocated w result n)))
  allocated_age result v =
      length_ages v (λ n. Done (allocated w result n)) (λ n. ages_more m (blank_block n 16 Kind.Allocator) refl)

  allocator_age : (a : Allocator) (result : Option ℕ) (vs : List Value) → By (allocator_call a w result vs)
  allocator_age Allocator.Malloc result vs = allocated_age result (nth vs 0)
  allocator_age Allocator.Znwm result vs = allocated_age result (nth vs 0)
  allocator_age Allocator.Free result vs = tt
  allocator_age Allocator.ZdlPv result vs = tt
  allocator_age Allocator.ZdlPvm result vs = tt

  indirect_age : (v : Value) (ty : Option Ty) (result : Option ℕ) (must_tail : Bool) (args : List Arg)
      (vs : List Value) → By (indirect_call c v ty result must_tail args vs)
  indirect_age (Value.Ptr (Pointer.Func f)) ty result must_tail args vs =
      by (fits_function ty args (slice_get c.code.functions f))
    where
      by : (t : Bool) → By (if t then Enter f vs result must_tail else Stuck Cause.Call)
      by true = tt
      by false = tt
  indirect_age (Value.Ptr Pointer.Null) ty result must_tail args vs = tt
  indirect_age (Value.Ptr (Pointer.At b o)) ty result must_tail args vs = tt
  indirect_age Value.Poison ty result must_tail args vs = tt
  indirect_age (Value.Int n) ty result must_tail args vs = tt

  call_age : (result : Option ℕ) (must_tail : Bool) (ty : Option Ty) (callee : Callee) (args : List Arg)
      → By (instr_action c w (Instr.Call result must_tail ty callee args))
  call_age result must_tail ty (Callee.Named j) args =
      named_age (function_named c.code j) (declaration_named c.code j) ty result must_tail
      (arg_values c.code w.values args)
  call_age result must_tail ty (Callee.Allocator a) args = allocator_age a result (arg_values c.code w.values args)
  call_age result must_tail ty (Callee.Intrinsic i) args =
      intrinsic_age i result args (arg_values c.code w.values args)
  call_age result must_tail ty (Callee.Local name) args =
      indirect_age (value_in w.values name) ty result must_tail args (arg_values c.code w.values args)

  abbrev Makes : Fetched → Type 0
  Makes here =
      (name align : ℕ) (ty : Ty) → here ≡ AtInstr (Instr.Alloca name ty align)
      → P (record { alloca = name; block = length m })

  instr_age : (i : Instr) → Makes (AtInstr i) → By (instr_action c w i)
  instr_age (Instr.Binary name op flags ty a b) made =
      still_ages (λ n. set_value w name (value_of n))
      (binary op flags (number_at ty (value_at c w ty a)) (number_at ty (value_at c w ty b))) (λ n. refl)
  instr_age (Instr.Icmp name pred ty a b) made = compared_age name pred ty (value_at c w ty a) (value_at c w ty b)
  instr_age (Instr.Select name x a b) made = ages_itself m
  instr_age (Instr.Cast name op nneg arg to) made = ages_itself m
  instr_age (Instr.Alloca name ty align) made =
      aligned_ages align (alloca c w name (size_of c.code ty) align)
      (alloca_ages name (size_of c.code ty) align (made name align ty refl))
  instr_age (Instr.Load name ty p align) made =
      aligned_ages align
      (done (set_value w name) (load c.rights m (address (value_at c w ptr p)) (access_of ty) align))
      (still_ages (set_value w name) (load c.rights m (address (value_at c w ptr p)) (access_of ty) align) (λ v. refl))
  instr_age (Instr.Store arg p align) made =
      aligned_ages align
      (done (set_memory w)
      (store c.rights m (address (value_at c w ptr p)) (stored (access_of arg.ty) (arg_value c.code w.values arg))
      (access_of arg.ty) align))
      (memory_ages
      (store c.rights m (address (value_at c w ptr p)) (stored (access_of arg.ty) (arg_value c.code w.values arg))
      (access_of arg.ty) align)
      (store_ages c m (address (value_at c w ptr p)) (stored (access_of arg.ty) (arg_value c.code w.values arg))
      (access_of arg.ty) align))
  instr_age (Instr.Gep name inbounds ty base indices) made = ages_itself m
  instr_age (Instr.Call result must_tail ty callee args) made = call_age result must_tail ty callee args

  branch_age : (v : Value) (a b : ℕ) → By (branch v a b)
  branch_age (Value.Int x) a b = tt
  branch_age Value.Poison a b = tt
  branch_age (Value.Ptr p) a b = tt

  switch_age : (v : Value) (default : ℕ) (cases : List Case) → By (switch c.code v default cases)
  switch_age (Value.Int x) default cases = tt
  switch_age Value.Poison default cases = tt
  switch_age (Value.Ptr p) default cases = tt

  term_age : (t : Terminator) → By (term_action c w t)
  term_age (Terminator.Jump label) = tt
  term_age (Terminator.Branch x a b) = branch_age (value_at c w (int 1) x) a b
  term_age (Terminator.Switch arg default cases) = switch_age (arg_value c.code w.values arg) default cases
  term_age (Terminator.Ret None) = tt
  term_age (Terminator.Ret (Some arg)) = tt
  term_age Terminator.Unreachable = tt

  pub actions_age : (here : Fetched) → Makes here → By (action_of c w here)
  actions_age Nowhere made = tt
  actions_age (AtInstr i) made = instr_age i made
  actions_age (AtTerm t) made = term_age t
