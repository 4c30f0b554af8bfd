-- What a step does to a block that holds nothing: it writes into none but those that it accesses.
use Rattle.std.proofs.Common.{◌≡◌, inl, inr, ℕ, zero, suc, Bool, true, false, List, [], ◌∷◌, ◌++◌, length}
use Rattle.std.proofs.Common.{Option, Some, None, Result, Ok, Err, refl, sym, ap, subst, not, ◌&&◌, ◌==◌, replicate}
use Rattle.std.specs.Prelude.{if◌then◌else◌, slice_get}
use Rattle.pass_frames_proof.specs.flow_solver.Paths.{IsListed}
use Rattle.pass_frames_proof.specs.ir_base.declared.cause.Cause.{Cause}
use Rattle.pass_frames_proof.specs.ir_model.Layout.{size_of}
use Rattle.pass_frames_proof.specs.ir_model.Ty.{Ty, ptr}
use Rattle.pass_frames_proof.specs.ir_model.declared.instr.Instr.{Instr}
use Rattle.pass_frames_proof.specs.ir_model.declared.module.Module.{Module}
use Rattle.pass_frames_proof.specs.ir_model.declared.operand.Allocator.{Allocator}
use Rattle.pass_frames_proof.specs.ir_model.declared.operand.Arg.{Arg}
use Rattle.pass_frames_proof.specs.ir_model.declared.operand.Callee.{Callee}
use Rattle.pass_frames_proof.specs.ir_model.declared.operand.Intrinsic.{Intrinsic}
use Rattle.pass_frames_proof.specs.ir_model.declared.operand.Operand.{Operand}
use Rattle.pass_frames_proof.specs.ir_parts.Contents.{arg_operands, instr_operands}
use Rattle.pass_frames_proof.specs.pass_copies.Uses.{is_access}
use Rattle.pass_frames_meaning.specs.Blank.{HoldsNothing, IsAwayFrom, IsBlankAt}
use Rattle.pass_frames_proof.proofs.run_laws.access.Blocks.{others_left}
use Rattle.pass_frames_proof.proofs.run_laws.embedded.Refills.{step_only}
use Rattle.pass_frames_proof.specs.run_laws.access.Accessed.{accessed, by_copy, copy_accesses, led_into, of_length}
use Rattle.pass_frames_proof.specs.run_laws.access.Changed.{IsNoneOf, LeavesOthers}
use Rattle.pass_frames_proof.specs.run_laws.embedded.Refilled.{OnlyRefills}
use Rattle.pass_frames_proof.specs.run_laws.embedded.Related.{HasNoSlot}
use Rattle.pass_frames_proof.specs.run_memory.Memory.{check, disown, disowned, end, ended, is_killed, is_owned}
use Rattle.pass_frames_proof.specs.run_memory.Memory.{is_unkilled, killed}
use Rattle.pass_frames_proof.specs.run_memory.Memory.{killed_block, may_be_owned, own, owned_to, start, started}
use Rattle.pass_frames_proof.specs.run_memory.Memory.{with_block}
use Rattle.pass_frames_proof.specs.run_memory.declared.block.Byte.{Byte}
use Rattle.pass_frames_proof.specs.run_memory.declared.block.Kind.{Kind}
use Rattle.pass_frames_proof.specs.run_memory.declared.block.Life.{Life}
use Rattle.pass_frames_proof.specs.run_memory.declared.block.MemoryBlock.{MemoryBlock}
use Rattle.pass_frames_proof.specs.run_memory.declared.pointer.Pointer.{Pointer}
use Rattle.pass_frames_proof.specs.run_memory.declared.pointer.Value.{Value}
use Rattle.pass_frames_proof.specs.run_step.Step.{Action, AtInstr, AtTerm, Context, Done, Fetched, NewSlot, Nowhere}
use Rattle.pass_frames_proof.specs.run_step.Step.{Stuck, Work}
use Rattle.pass_frames_proof.specs.run_step.Step.{action_of, alloca_kind, block_of, deallocated, has_markers}
use Rattle.pass_frames_proof.specs.run_step.Step.{is_alignment, on_block}
use Rattle.pass_frames_proof.specs.run_step.Step.{set_memory, set_value, with_length, without_slots}
use Rattle.pass_frames_proof.specs.run_step.Values.{Env, address, arg_values, nth, operand_value, pointer_to}
use Rattle.pass_frames_proof.specs.run_step.declared.world.Slot.{Slot}

-- ---- one block

-- it holds nothing afterwards, if it held nothing
abbrev KeepsNothing : (MemoryBlock → MemoryBlock) → Type 0
KeepsNothing f = (x : MemoryBlock) → HoldsNothing (Some x) → HoldsNothing (Some (f x))

pub block_blank : (f : MemoryBlock → MemoryBlock) → KeepsNothing f → (m : List MemoryBlock) (b n : ℕ) → IsBlankAt m n
    → IsBlankAt (with_block m b f) n
block_blank f k [] b n h = h
block_blank f k (x ∷ m) zero zero h = k x h
block_blank f k (x ∷ m) zero (suc n) h = h
block_blank f k (x ∷ m) (suc b) zero h = h
block_blank f k (x ∷ m) (suc b) (suc n) h = block_blank f k m b n h

started_nothing : KeepsNothing started
started_nothing x h = on (is_killed x.life)
  where
    on : (t : Bool) → HoldsNothing (Some (if t then x else record x {
      life = Life.Live;
      bytes = replicate x.size Byte.Undefined;
    }))
    on true = h
    on false = λ live. refl

ended_nothing : KeepsNothing ended
ended_nothing x h = on (is_killed x.life)
  where
    on : (t : Bool) → HoldsNothing (Some (if t then x else record x { life = Life.Ended }))
    on true = h
    on false = λ live. absurd (cc)

killed_nothing : KeepsNothing killed_block
killed_nothing x h = λ live. absurd (cc)

pub start_blank : (m : List MemoryBlock) (b n : ℕ) → IsBlankAt m n → IsBlankAt (start m b) n
start_blank m b n h = block_blank started started_nothing m b n h

pub end_blank : (m : List MemoryBlock) (b n : ℕ) → IsBlankAt m n → IsBlankAt (end m b) n
end_blank m b n h = block_blank ended ended_nothing m b n h

pub killed_blank : (m : List MemoryBlock) (b n : ℕ) → IsBlankAt m n → IsBlankAt (killed m b) n
killed_blank m b n h = block_blank killed_block killed_nothing m b n h

pub disown_blank : (m : List MemoryBlock) (b n : ℕ) → IsBlankAt m n → IsBlankAt (disown m b) n
disown_blank m b n h = block_blank disowned (λ x k. k) m b n h

pub without_blank : (m : List MemoryBlock) (slots : List Slot) (n : ℕ) → IsBlankAt m n
    → IsBlankAt (without_slots m slots) n
without_blank m [] n h = h
without_blank m (s ∷ slots) n h =
    without_blank (killed m s.block) slots n (killed_blank m s.block n h)

-- a new block holds nothing
pub more_blank : (m : List MemoryBlock) (x : MemoryBlock) → HoldsNothing (Some x) → (n : ℕ) → IsBlankAt m n
    → IsBlankAt (m ++ x ∷ []) n
more_blank [] x k zero h = k
more_blank [] x k (suc n) h = tt
more_blank (y ∷ m) x k zero h = h
more_blank (y ∷ m) x k (suc n) h = more_blank m x k n h

-- what may fail
abbrev pub GivesBlanks : ℕ → Result (List MemoryBlock) Cause → Type 0
GivesBlanks n (Err cause) = Unit {0}
GivesBlanks n (Ok k) = IsBlankAt k n

pub own_blank : (m : List MemoryBlock) (v : Value) (size : ℕ) (kind : Kind) (n : ℕ) → IsBlankAt m n
    → GivesBlanks n (own m v size kind)
own_blank m (Value.Ptr (Pointer.At b o)) size kind n h =
    on ((o.bits == 0) && may_be_owned kind size (slice_get m b))
  where
    on : (t : Bool) → GivesBlanks n (check t Cause.Begin (Ok (with_block m b (owned_to size))))
    on true = block_blank (owned_to size) (λ x k. k) m b n h
    on false = tt
own_blank m (Value.Ptr Pointer.Null) size kind n h = tt
own_blank m (Value.Ptr (Pointer.Func f)) size kind n h = tt
own_blank m Value.Poison size kind n h = tt
own_blank m (Value.Int x) size kind n h = tt

kill_blank : (m : List MemoryBlock) (b n : ℕ) (t u : Bool) → IsBlankAt m n
    → GivesBlanks n (if t then Err Cause.Free else if u then Err Cause.Owned else Ok (killed m b))
kill_blank m b n true u h = tt
kill_blank m b n false true h = tt
kill_blank m b n false false h = killed_blank m b n h

pub deallocated_blank : (m : List MemoryBlock) (v : Value) (n : ℕ) → IsBlankAt m n
    → GivesBlanks n (deallocated m v)
deallocated_blank m (Value.Ptr Pointer.Null) n h = h
deallocated_blank m (Value.Ptr (Pointer.At b o)) n h =
    kill_blank m b n (not ((o.bits == 0) && is_unkilled Kind.Allocator (slice_get m b))) (is_owned (slice_get m b)) h
deallocated_blank m (Value.Ptr (Pointer.Func f)) n h = tt
deallocated_blank m Value.Poison n h = tt
deallocated_blank m (Value.Int x) n h = tt

-- ---- operands

-- the block isn't the one into which a value leads
none_led : (n : ℕ) (v : Value) → (block_of v ≡ Some n → ⊥) → IsNoneOf n (led_into (address v))
none_led n (Value.Ptr (Pointer.At b o)) h = (λ e. h (ap Some (sym e)), tt)
none_led n (Value.Ptr Pointer.Null) h = tt
none_led n (Value.Ptr (Pointer.Func f)) h = tt
none_led n Value.Poison h = tt
none_led n (Value.Int x) h = tt

both_none : (n : ℕ) (xs ys : List ℕ) → IsNoneOf n xs → IsNoneOf n ys → IsNoneOf n (xs ++ ys)
both_none n [] ys h k = k
both_none n (x ∷ xs) ys h k = (h.0, both_none n xs ys h.1 k)

module _ (n : ℕ) (m : Module) (env : Env) where
  arg_led : (args : List Arg)
      → ((o : Operand) → IsListed o (arg_operands args) → (ty : Ty) → block_of (operand_value m env ty o) ≡ Some n → ⊥)
      → (k : ℕ) → block_of (nth (arg_values m env args) k) ≡ Some n → ⊥
  arg_led [] h k e = absurd (cc)
  arg_led (a ∷ args) h zero e = h a.value (inl refl) a.ty e
  arg_led (a ∷ args) h (suc k) e = arg_led args (λ o l. h o (inr l)) k e

  copy_led : (args : List Arg)
      → ((o : Operand) → IsListed o (arg_operands args) → (ty : Ty) → block_of (operand_value m env ty o) ≡ Some n → ⊥)
      → IsNoneOf n (copy_accesses (arg_values m env args))
  copy_led args h = on (nth (arg_values m env args) 2)
    where
      to : Value
      to = nth (arg_values m env args) 0

      from : Value
      from = nth (arg_values m env args) 1

      by : (k : ℕ) → IsNoneOf n (by_copy (address to) (address from) k)
      by zero = tt
      by (suc k) = both_none n (led_into (address to)) (led_into (address from)) (none_led n to (arg_led args h 0))
          (none_led n from (arg_led args h 1))

      on : (v : Value) → IsNoneOf n (of_length v (by_copy (address to) (address from)))
      on (Value.Int x) = by x.bits
      on Value.Poison = tt
      on (Value.Ptr p) = tt

-- ---- instructions

-- a new slot has the block behind all others, and its alloca stands there
abbrev pub GivesBlank : ℕ → List MemoryBlock → Fetched → Action → Type 0
GivesBlank n memory x (Done w) = IsBlankAt w.world.memory n
GivesBlank n memory x (NewSlot w slot) =
    IsBlankAt w.world.memory n × (slot.block ≡ length memory) × (ty : Ty) × (align : ℕ)
    × (x ≡ AtInstr (Instr.Alloca slot.alloca ty align))
GivesBlank n memory x _ = Unit {0}

left_blank : (n : ℕ) (memory : List MemoryBlock) (x : Fetched) (blocks : List ℕ) (a : Action)
    → OnlyRefills memory a → LeavesOthers blocks memory a → IsNoneOf n blocks → IsBlankAt memory n
    → GivesBlank n memory x a
left_blank n memory x blocks (Done w) only left none h = subst HoldsNothing (sym (left.others n none)) h
left_blank n memory x blocks (NewSlot w slot) only left none h = absurd only
left_blank n memory x blocks _ only left none h = tt

module _ (n : ℕ) (c : Context) (w : Work) (h : IsBlankAt w.world.memory n) where
  abbrev m : List MemoryBlock
  m = w.world.memory

  on_blank : (f : List MemoryBlock → ℕ → List MemoryBlock) → ((b : ℕ) → IsBlankAt (f m b) n) → (o : Option ℕ)
      → IsBlankAt (on_block f m o) n
  on_blank f k None = h
  on_blank f k (Some b) = k b

  length_blank : (x : Fetched) (v : Value) (f : ℕ → Action) → ((k : ℕ) → GivesBlank n m x (f k))
      → GivesBlank n m x (with_length v f)
  length_blank x (Value.Int y) f k = k y.bits
  length_blank x Value.Poison f k = tt
  length_blank x (Value.Ptr p) f k = tt

  by_access : (i : Instr) → HasNoSlot (AtInstr i) → IsNoneOf n (accessed c w (AtInstr i))
      → GivesBlank n m (AtInstr i) (action_of c w (AtInstr i))
  by_access i none away = left_blank n m (AtInstr i) (accessed c w (AtInstr i)) (action_of c w (AtInstr i))
      (step_only c w (AtInstr i) none) (others_left c w (AtInstr i)) away h

  abbrev Away : Instr → Type 0
  Away i = (o : Operand) → IsListed o (instr_operands i) → (ty : Ty)
      → block_of (operand_value c.code w.values ty o) ≡ Some n → ⊥

  instr_blank : (i : Instr) → (is_access i ≡ true → Away i) → GivesBlank n m (AtInstr i) (action_of c w (AtInstr i))
  instr_blank (Instr.Call result must_tail ty (Callee.Allocator Allocator.Malloc) args) away =
      length_blank _ (nth (arg_values c.code w.values args) 0) _ (λ k. more_blank m _ (λ live. refl) n h)
  instr_blank (Instr.Call result must_tail ty (Callee.Allocator Allocator.Znwm) args) away =
      length_blank _ (nth (arg_values c.code w.values args) 0) _ (λ k. more_blank m _ (λ live. refl) n h)
  instr_blank (Instr.Call result must_tail ty (Callee.Allocator Allocator.Free) args) away = tt
  instr_blank (Instr.Call result must_tail ty (Callee.Allocator Allocator.ZdlPv) args) away = tt
  instr_blank (Instr.Call result must_tail ty (Callee.Allocator Allocator.ZdlPvm) args) away = tt
  instr_blank (Instr.Call result must_tail ty (Callee.Intrinsic Intrinsic.LifetimeStart) args) away =
      on_blank start (λ b. start_blank m b n h) (block_of (nth (arg_values c.code w.values args) 1))
  instr_blank (Instr.Call result must_tail ty (Callee.Intrinsic Intrinsic.LifetimeEnd) args) away =
      on_blank end (λ b. end_blank m b n h) (block_of (nth (arg_values c.code w.values args) 1))
  instr_blank (Instr.Call result must_tail ty (Callee.Intrinsic Intrinsic.MemcpyI64) args) away =
      by_access (Instr.Call result must_tail ty (Callee.Intrinsic Intrinsic.MemcpyI64) args) tt
      (copy_led n c.code w.values args (away refl))
  instr_blank (Instr.Call result must_tail ty (Callee.Intrinsic Intrinsic.MemcpyI32) args) away =
      by_access (Instr.Call result must_tail ty (Callee.Intrinsic Intrinsic.MemcpyI32) args) tt
      (copy_led n c.code w.values args (away refl))
  instr_blank (Instr.Load name ty p align) away = by_access (Instr.Load name ty p align) tt
      (none_led n (operand_value c.code w.values ptr p) (away refl p (inl refl) ptr))
  instr_blank (Instr.Store arg p align) away = by_access (Instr.Store arg p align) tt
      (none_led n (operand_value c.code w.values ptr p) (away refl p (inr (inl refl)) ptr))
  instr_blank (Instr.Alloca name ty align) away = on (is_alignment align) (has_markers c.function name)
    where
      block : MemoryBlock
      block = record {
        size = size_of c.code ty;
        align = align;
        kind = alloca_kind c.function;
        life = Life.Live;
        owned = None;
        bytes = replicate (size_of c.code ty) Byte.Undefined;
      }

      new : IsBlankAt (m ++ block ∷ []) n
      new = more_blank m block (λ live. refl) n h

      on : (t u : Bool) → GivesBlank n m (AtInstr (Instr.Alloca name ty align)) (if t then NewSlot
          (set_memory (set_value w name (pointer_to (length m)))
          (if u then end (m ++ block ∷ []) (length m) else m ++ block ∷ []))
          (record { alloca = name; block = length m }) else Stuck Cause.Align)
      on false u = tt
      on true true = (end_blank (m ++ block ∷ []) (length m) n new, refl, ty, align, refl)
      on true false = (new, refl, ty, align, refl)
  instr_blank i away = by_access i tt tt

  pub step_blank : (x : Fetched) → IsAwayFrom n c w x → GivesBlank n m x (action_of c w x)
  step_blank (AtInstr i) away = instr_blank i (away i refl)
  step_blank (AtTerm t) away = left_blank n m (AtTerm t) [] (action_of c w (AtTerm t)) (step_only c w (AtTerm t) tt)
      (others_left c w (AtTerm t)) tt h
  step_blank Nowhere away = tt
