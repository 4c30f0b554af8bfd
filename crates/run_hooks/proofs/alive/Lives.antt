-- Which blocks live where memory changes, and that ordinary steps start none.
use Rattle.std.proofs.Common.{◌≡◌, ◌<◌, ◌≤◌, ℕ, zero, suc, Bool, true, false, List, [], ◌∷◌, ◌++◌, length}
use Rattle.std.proofs.Common.{Option, Some, None, Result, Ok, Err, refl, subst, arith}
use Rattle.std.specs.Prelude.{if◌then◌else◌, slice_get, not, ◌==◌, ◌&&◌}
use Rattle.pass_renewed_proof.specs.ir_base.declared.cause.Cause.{Cause}
use Rattle.pass_renewed_proof.specs.ir_base.declared.ops.Pred.{Pred}
use Rattle.pass_renewed_proof.specs.ir_base.declared.outcome.Word.{Word}
use Rattle.pass_renewed_proof.specs.ir_model.Names.{declaration_named, function_named}
use Rattle.pass_renewed_proof.specs.ir_model.Ty.{Ty, array, int, named, ptr, structure, token}
use Rattle.pass_renewed_proof.specs.ir_model.declared.instr.Instr.{Instr}
use Rattle.pass_renewed_proof.specs.ir_model.declared.operand.Allocator.{Allocator}
use Rattle.pass_renewed_proof.specs.ir_model.declared.operand.Arg.{Arg}
use Rattle.pass_renewed_proof.specs.ir_model.declared.operand.Callee.{Callee}
use Rattle.pass_renewed_proof.specs.ir_model.declared.operand.Intrinsic.{Intrinsic}
use Rattle.pass_renewed_proof.specs.ir_paths.Windows.{is_call_of}
use Rattle.run_hooks.specs.alive.Slots.{is_gone, life_of, lives}
use Rattle.pass_renewed_proof.specs.run_ints.Numbers.{binary}
use Rattle.pass_renewed_proof.specs.run_memory.Memory.{Rights, compare, copied, copy, disowned, ended, is_constant, is_killed, is_live}
use Rattle.pass_renewed_proof.specs.run_memory.Memory.{kill, killed}
use Rattle.pass_renewed_proof.specs.run_memory.Memory.{killed_block, load, overlaps, own, owned_to, store, with_block, with_bytes}
use Rattle.pass_renewed_proof.specs.run_memory.Memory.{both, check, is_unkilled, is_owned, may_be_owned, on_ok, range, unless_constant}
use Rattle.pass_renewed_proof.specs.run_memory.Memory.{bytes_at, write}
use Rattle.pass_renewed_proof.specs.run_memory.declared.block.Byte.{Byte}
use Rattle.pass_renewed_proof.specs.run_memory.declared.block.Kind.{Kind}
use Rattle.pass_renewed_proof.specs.run_memory.declared.block.Life.{Life}
use Rattle.pass_renewed_proof.specs.run_memory.declared.block.MemoryBlock.{MemoryBlock}
use Rattle.pass_renewed_proof.specs.run_memory.declared.pointer.Access.{Access}
use Rattle.pass_renewed_proof.specs.run_memory.declared.pointer.Pointer.{Pointer}
use Rattle.pass_renewed_proof.specs.run_memory.declared.pointer.Spot.{Spot}
use Rattle.pass_renewed_proof.specs.run_memory.declared.pointer.Value.{Value}
use Rattle.pass_renewed_proof.specs.run_step.Step.{Action, Context, Done, Enter, Stuck, Work}
use Rattle.pass_renewed_proof.specs.run_step.Step.{allocator_call, block_of, by_pred, compared, copied_bytes, deallocated, done}
use Rattle.pass_renewed_proof.specs.run_step.Step.{fits_function, if_alignment}
use Rattle.pass_renewed_proof.specs.run_step.Step.{indirect_call, instr_action, intrinsic_call, is_alignment, named_call, observed}
use Rattle.pass_renewed_proof.specs.run_step.Step.{on_block, set_memory}
use Rattle.pass_renewed_proof.specs.run_step.Step.{set_value, value_at, with_length, without_slots, words_of}
use Rattle.pass_renewed_proof.specs.run_step.Values.{access_of, address, arg_value, arg_values, nth, number_at, stored, truth_value}
use Rattle.pass_renewed_proof.specs.run_step.Values.{value_in, value_of}
use Rattle.pass_renewed_proof.specs.run_step.declared.world.Slot.{Slot}

-- no block lives that didn't, and none comes back
pub record AreFewer (m n : List MemoryBlock) : Type 0 where
  pub longer : length m ≤ length n
  pub live : (b : ℕ) → b < length m → lives n b ≡ true → lives m b ≡ true
  pub gone : (b : ℕ) → b < length m → is_gone m b ≡ true → is_gone n b ≡ true

pub same_fewer : (m : List MemoryBlock) → AreFewer m m
same_fewer m = record { longer = omega arith; live = λ b lt e. e; gone = λ b lt e. e }

pub then_fewer : {m n k : List MemoryBlock} → AreFewer m n → AreFewer n k → AreFewer m k
then_fewer {m} {n} {k} a c = record {
  longer = let l = a.longer in let h = c.longer in omega arith;
  live = λ b lt e. a.live b lt (c.live b (let l = a.longer in omega arith) e);
  gone = λ b lt e. c.gone b (let l = a.longer in omega arith) (a.gone b lt e);
}

-- of one block
pub record IsFewer (x y : MemoryBlock) : Type 0 where
  pub live : is_live y.life ≡ true → is_live x.life ≡ true
  pub gone : is_killed x.life ≡ true → is_killed y.life ≡ true

pub same_block : (x : MemoryBlock) → IsFewer x x
same_block x = record { live = λ e. e; gone = λ e. e }

cons_fewer : (x y : MemoryBlock) (m n : List MemoryBlock) → IsFewer x y → AreFewer m n → AreFewer (x ∷ m) (y ∷ n)
cons_fewer x y m n h k = record { longer = let l = k.longer in omega arith; live = live; gone = gone }
  where
    live : (b : ℕ) → b < suc (length m) → lives (y ∷ n) b ≡ true → lives (x ∷ m) b ≡ true
    live zero lt e = h.live e
    live (suc b) lt e = k.live b (omega (arith, lt)) e

    gone : (b : ℕ) → b < suc (length m) → is_gone (x ∷ m) b ≡ true → is_gone (y ∷ n) b ≡ true
    gone zero lt e = h.gone e
    gone (suc b) lt e = k.gone b (omega (arith, lt)) e

pub changed_fewer : (m : List MemoryBlock) (b : ℕ) (f : MemoryBlock → MemoryBlock)
    → ((x : MemoryBlock) → IsFewer x (f x)) → AreFewer m (with_block m b f)
changed_fewer [] b f h = same_fewer []
changed_fewer (x ∷ m) zero f h = cons_fewer x (f x) m m (h x) (same_fewer m)
changed_fewer (x ∷ m) (suc b) f h = cons_fewer x x m (with_block m b f) (same_block x) (changed_fewer m b f h)

pub more_fewer : (m k : List MemoryBlock) → AreFewer m (m ++ k)
more_fewer [] k = record {
  longer = omega arith;
  live = λ b lt e. absurd (omega (arith, lt));
  gone = λ b lt e. absurd
      (omega (arith, lt));
}
more_fewer (x ∷ m) k = cons_fewer x x m (m ++ k) (same_block x) (more_fewer m k)

pub ended_fewer : (x : MemoryBlock) → IsFewer x (ended x)
ended_fewer x = on (is_killed x.life) refl
  where
    on : (t : Bool) → is_killed x.life ≡ t → IsFewer x (if t then x else record x { life = Life.Ended })
    on true e = same_block x
    on false e = record { live = λ h. absurd (cc); gone = λ h. absurd (cc) }

pub killed_fewer : (x : MemoryBlock) → IsFewer x (killed_block x)
killed_fewer x = record { live = λ h. absurd (cc); gone = λ h. refl }

-- ---- blocks that are killed

pub lives_there : (m : List MemoryBlock) (b : ℕ) → lives m b ≡ true → b < length m
lives_there [] b e = absurd (cc)
lives_there (x ∷ m) zero e = omega arith
lives_there (x ∷ m) (suc b) e = let h = lives_there m b e in omega (arith, h)

pub not_gone : (m : List MemoryBlock) (b : ℕ) → lives m b ≡ true → is_gone m b ≡ true → ⊥
not_gone m b e h = on (life_of (slice_get m b)) e h
  where
    on : (l : Life) → is_live l ≡ true → is_killed l ≡ true → ⊥
    on Life.Live e h = absurd (cc)
    on Life.Ended e h = absurd (cc)
    on Life.Killed e h = absurd (cc)

pub killed_gone : (m : List MemoryBlock) (b : ℕ) → is_gone (killed m b) b ≡ true
killed_gone [] b = refl
killed_gone (x ∷ m) zero = refl
killed_gone (x ∷ m) (suc b) = killed_gone m b

pub without_fewer : (m : List MemoryBlock) (slots : List Slot) → AreFewer m (without_slots m slots)
without_fewer m [] = same_fewer m
without_fewer m (s ∷ slots) = then_fewer (changed_fewer m s.block killed_block killed_fewer)
    (without_fewer (killed m s.block) slots)

-- ---- operations

pub owned_fewer : (m k : List MemoryBlock) (v : Value) (n : ℕ) (kind : Kind) → own m v n kind ≡ Ok k → AreFewer m k
owned_fewer m k (Value.Ptr (Pointer.At b o)) n kind e = on ((o.bits == 0) && may_be_owned kind n (slice_get m b)) e
  where
    on : (t : Bool) → check t Cause.Begin (Ok (with_block m b (owned_to n))) ≡ Ok k → AreFewer m k
    on true h = let same : with_block m b (owned_to n) ≡ k = cc in subst (AreFewer m) same
        (changed_fewer m b (owned_to n) (λ x. record { live = λ e. e; gone = λ e. e }))
    on false h = absurd (cc)
owned_fewer m k (Value.Ptr Pointer.Null) n kind e = absurd (cc)
owned_fewer m k (Value.Ptr (Pointer.Func f)) n kind e = absurd (cc)
owned_fewer m k Value.Poison n kind e = absurd (cc)
owned_fewer m k (Value.Int w) n kind e = absurd (cc)

kill_fewer : (m k : List MemoryBlock) (v : Value) (kind : Kind) → kill m v kind ≡ Ok k → AreFewer m k
kill_fewer m k (Value.Ptr (Pointer.At b o)) kind e = on (not ((o.bits == 0) && is_unkilled kind (slice_get m b)))
    (is_owned (slice_get m b)) e
  where
    on : (t u : Bool) → (if t then Err Cause.Free else if u then Err Cause.Owned else Ok (killed m b)) ≡ Ok k
        → AreFewer m k
    on true u h = absurd (cc)
    on false true h = absurd (cc)
    on false false h = let same : killed m b ≡ k = cc in subst (AreFewer m) same
        (changed_fewer m b killed_block killed_fewer)
kill_fewer m k (Value.Ptr Pointer.Null) kind e = absurd (cc)
kill_fewer m k (Value.Ptr (Pointer.Func f)) kind e = absurd (cc)
kill_fewer m k Value.Poison kind e = absurd (cc)
kill_fewer m k (Value.Int w) kind e = absurd (cc)

pub deallocated_fewer : (m k : List MemoryBlock) (v : Value) → deallocated m v ≡ Ok k → AreFewer m k
deallocated_fewer m k (Value.Ptr Pointer.Null) e = let same : m ≡ k = cc in subst (AreFewer m) same (same_fewer m)
deallocated_fewer m k (Value.Ptr (Pointer.At b o)) e = kill_fewer m k (Value.Ptr (Pointer.At b o)) Kind.Allocator e
deallocated_fewer m k (Value.Ptr (Pointer.Func f)) e = absurd (cc)
deallocated_fewer m k Value.Poison e = absurd (cc)
deallocated_fewer m k (Value.Int w) e = absurd (cc)

-- ---- instructions that are done

abbrev pub StaysFewer : List MemoryBlock → Action → Type 0
StaysFewer m (Done w) = AreFewer m w.world.memory
StaysFewer m _ = Unit {0}

-- a result of an operation on memory
abbrev IsFewerResult : List MemoryBlock → Result (List MemoryBlock) Cause → Type 0
IsFewerResult m (Err cause) = Unit {0}
IsFewerResult m (Ok k) = AreFewer m k

written_fewer : (m : List MemoryBlock) (spot : Spot) (new : List Byte) → AreFewer m (write m spot new)
written_fewer m spot new = changed_fewer m spot.block (with_bytes spot.offset new)
    (λ x. record { live = λ e. e; gone = λ e. e })

store_fewer : (rights : Rights) (m : List MemoryBlock) (p v : Value) (what : Access) (align : ℕ)
    → IsFewerResult m (store rights m p v what align)
store_fewer rights m p v what align = on (range rights m p _ align)
  where
    unless : (spot : Spot) (new : List Byte) (t : Bool) → IsFewerResult m
        (if t then Err Cause.Constant else Ok (write m spot new))
    unless spot new true = tt
    unless spot new false = written_fewer m spot new

    on : (r : Result Spot Cause) → IsFewerResult m (on_ok (λ spot. unless_constant m spot
        (write m spot (Rattle.pass_renewed_proof.specs.run_memory.Memory.encode (Rattle.pass_renewed_proof.specs.run_memory.Memory.access_bytes what) v))) r)
    on (Err cause) = tt
    on (Ok spot) = unless spot _ (is_constant (slice_get m spot.block))

copied_fewer : (m : List MemoryBlock) (a b : Spot) (len : ℕ) → IsFewerResult m (copied m a b len)
copied_fewer m a b len = on (is_constant (slice_get m a.block)) (overlaps a b len)
  where
    on : (t u : Bool) → IsFewerResult m (if t then Err Cause.Constant else if u then Err Cause.Overlap else Ok
        (write m a (bytes_at m b len)))
    on true u = tt
    on false true = tt
    on false false = written_fewer m a _

copy_fewer : (rights : Rights) (m : List MemoryBlock) (to from : Value) (n : ℕ)
    → IsFewerResult m (copy rights m to from n)
copy_fewer rights m to from zero = same_fewer m
copy_fewer rights m to from (suc n) = on (both (range rights m to (suc n) 1) (range rights m from (suc n) 1))
  where
    on : (r : Result (Spot × Spot) Cause) → IsFewerResult m (on_ok (λ (a, b). copied m a b (suc n)) r)
    on (Err cause) = tt
    on (Ok p) = copied_fewer m p.0 p.1 (suc n)

module _ (c : Context) (w : Work) where
  abbrev m : List MemoryBlock
  m = w.world.memory

  abbrev Fine : Action → Type 0
  Fine a = StaysFewer w.world.memory a

  memory_fine : (r : Result (List MemoryBlock) Cause) → IsFewerResult w.world.memory r → Fine (done (set_memory w) r)
  memory_fine (Err cause) h = tt
  memory_fine (Ok k) h = h

  value_fine : {A : Type 0} (name : ℕ) (g : A → Value) (r : Result A Cause)
      → Fine (done (λ a. set_value w name (g a)) r)
  value_fine name g (Err cause) = tt
  value_fine name g (Ok a) = same_fewer w.world.memory

  if_fine : (align : ℕ) (a : Action) → Fine a → Fine (if_alignment align a)
  if_fine align a h = on (is_alignment align)
    where
      on : (t : Bool) → Fine (if t then a else Stuck Cause.Align)
      on true = h
      on false = tt

  length_fine : (v : Value) (f : ℕ → Action) → ((n : ℕ) → Fine (f n)) → Fine (with_length v f)
  length_fine (Value.Int y) f h = h y.bits
  length_fine Value.Poison f h = tt
  length_fine (Value.Ptr p) f h = tt

  pointers_fine : (name : ℕ) (pred : Pred) (r : Result Bool Cause) → Fine
      (done (λ same. set_value w name (truth_value (by_pred pred same))) r)
  pointers_fine name pred r = value_fine name (λ same. truth_value (by_pred pred same)) r

  compared_fine : (name : ℕ) (pred : Pred) (ty : Ty) (a b : Value) → Fine (compared c w name pred ty a b)
  compared_fine name pred (int n) a b = same_fewer w.world.memory
  compared_fine name pred ptr a b = pointers_fine name pred (compare c.rights w.world.memory (address a) (address b))
  compared_fine name pred token a b = pointers_fine name pred (compare c.rights w.world.memory (address a) (address b))
  compared_fine name pred (array n t) a b = pointers_fine name pred (compare c.rights w.world.memory (address a)
      (address b))
  compared_fine name pred (structure ts) a b = pointers_fine name pred
      (compare c.rights w.world.memory (address a) (address b))
  compared_fine name pred (named n) a b = pointers_fine name pred (compare c.rights w.world.memory (address a)
      (address b))

  observed_fine : (d : ℕ) (ty : Option Ty) (result : Option ℕ) (args : Option (List Word))
      → Fine (observed c w d ty result args)
  observed_fine d ty result None = tt
  observed_fine d None result (Some args) = same_fewer w.world.memory
  observed_fine d (Some ty) result (Some args) = same_fewer w.world.memory

  named_fine : (f d : Option ℕ) (ty : Option Ty) (result : Option ℕ) (must_tail : Bool) (vs : List Value)
      → Fine (named_call c w f d ty result must_tail vs)
  named_fine (Some f) d ty result must_tail vs = tt
  named_fine None (Some d) ty result must_tail vs = observed_fine d ty result (words_of vs)
  named_fine None None ty result must_tail vs = tt

  indirect_fine : (v : Value) (ty : Option Ty) (result : Option ℕ) (must_tail : Bool) (args : List Arg)
      (vs : List Value) → Fine (indirect_call c v ty result must_tail args vs)
  indirect_fine (Value.Ptr (Pointer.Func f)) ty result must_tail args vs =
      on (fits_function ty args (slice_get c.code.functions f))
    where
      on : (t : Bool) → Fine (if t then Enter f vs result must_tail else Stuck Cause.Call)
      on true = tt
      on false = tt
  indirect_fine (Value.Ptr Pointer.Null) ty result must_tail args vs = tt
  indirect_fine (Value.Ptr (Pointer.At b o)) ty result must_tail args vs = tt
  indirect_fine Value.Poison ty result must_tail args vs = tt
  indirect_fine (Value.Int y) ty result must_tail args vs = tt

  copied_fine : (vs : List Value) → Fine (copied_bytes c w vs)
  copied_fine vs = length_fine (nth vs 2) _ (λ n. memory_fine (copy c.rights w.world.memory (address (nth vs 0))
      (address (nth vs 1)) n) (copy_fewer c.rights w.world.memory (address (nth vs 0)) (address (nth vs 1)) n))

  end_fine : (o : Option ℕ) → AreFewer w.world.memory (on_block Rattle.pass_renewed_proof.specs.run_memory.Memory.end w.world.memory o)
  end_fine None = same_fewer w.world.memory
  end_fine (Some b) = changed_fewer w.world.memory b ended ended_fewer

  intrinsic_fine : (i : Intrinsic) (result : Option ℕ) (must_tail : Bool) (ty : Option Ty) (args : List Arg)
      (vs : List Value)
      → is_call_of Intrinsic.LifetimeStart (Instr.Call result must_tail ty (Callee.Intrinsic i) args) ≡ false
      → Fine (intrinsic_call c w i result args vs)
  intrinsic_fine Intrinsic.LifetimeStart result must_tail ty args vs never = absurd (cc)
  intrinsic_fine Intrinsic.LifetimeEnd result must_tail ty args vs never = end_fine (block_of (nth vs 1))
  intrinsic_fine Intrinsic.MemcpyI64 result must_tail ty args vs never = copied_fine vs
  intrinsic_fine Intrinsic.MemcpyI32 result must_tail ty args vs never = copied_fine vs
  intrinsic_fine _ result must_tail ty args vs never = tt

  allocator_fine : (a : Allocator) (result : Option ℕ) (vs : List Value) → Fine (allocator_call a w result vs)
  allocator_fine Allocator.Malloc result vs = length_fine (nth vs 0) _ (λ n. more_fewer w.world.memory _)
  allocator_fine Allocator.Znwm result vs = length_fine (nth vs 0) _ (λ n. more_fewer w.world.memory _)
  allocator_fine Allocator.Free result vs = tt
  allocator_fine Allocator.ZdlPv result vs = tt
  allocator_fine Allocator.ZdlPvm result vs = tt

  call_fine : (result : Option ℕ) (must_tail : Bool) (ty : Option Ty) (callee : Callee) (args : List Arg)
      → is_call_of Intrinsic.LifetimeStart (Instr.Call result must_tail ty callee args) ≡ false
      → Fine (instr_action c w (Instr.Call result must_tail ty callee args))
  call_fine result must_tail ty (Callee.Named n) args never = named_fine (function_named c.code n)
      (declaration_named c.code n) ty result must_tail (arg_values c.code w.values args)
  call_fine result must_tail ty (Callee.Allocator a) args never = allocator_fine a result
      (arg_values c.code w.values args)
  call_fine result must_tail ty (Callee.Intrinsic i) args never = intrinsic_fine i result must_tail ty args
      (arg_values c.code w.values args) never
  call_fine result must_tail ty (Callee.Local name) args never = indirect_fine (value_in w.values name) ty result
      must_tail args (arg_values c.code w.values args)

  -- an instruction that is done starts no block, unless it is a start
  pub instr_fewer : (i : Instr) → is_call_of Intrinsic.LifetimeStart i ≡ false
      → StaysFewer w.world.memory (instr_action c w i)
  instr_fewer (Instr.Binary name op flags ty a b) never = value_fine name value_of
      (binary op flags (number_at ty (value_at c w ty a)) (number_at ty (value_at c w ty b)))
  instr_fewer (Instr.Icmp name pred ty a b) never = compared_fine name pred ty (value_at c w ty a) (value_at c w ty b)
  instr_fewer (Instr.Select name x a b) never = same_fewer w.world.memory
  instr_fewer (Instr.Cast name op nneg arg to) never = same_fewer w.world.memory
  instr_fewer (Instr.Alloca name ty align) never = if_fine align _ tt
  instr_fewer (Instr.Load name ty p align) never = if_fine align _ (value_fine name (λ v. v)
      (load c.rights w.world.memory (address (value_at c w ptr p)) (access_of ty) align))
  instr_fewer (Instr.Store arg p align) never = if_fine align _ (memory_fine _
      (store_fewer c.rights w.world.memory (address (value_at c w ptr p))
      (stored (access_of arg.ty) (arg_value c.code w.values arg)) (access_of arg.ty) align))
  instr_fewer (Instr.Gep name inbounds ty base indices) never = same_fewer w.world.memory
  instr_fewer (Instr.Call result must_tail ty callee args) never = call_fine result must_tail ty callee args never
