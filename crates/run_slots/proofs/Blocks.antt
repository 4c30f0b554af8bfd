-- What an instruction that is done leaves of each block: its kind, its owner, and whether it was killed.
use Rattle.std.proofs.Common.{◌≡◌, ◌<◌, ℕ, zero, suc, Bool, true, false, List, [], ◌∷◌, ◌++◌, length}
use Rattle.std.proofs.Common.{Option, Some, None, refl, sym, ap, subst, arith}
use Rattle.std.specs.Prelude.{if◌then◌else◌, replicate, slice_get, ◌||◌}
use Rattle.run_hooks.specs.ir_base.declared.cause.Cause.{Cause}
use Rattle.run_hooks.specs.ir_model.Layout.{size_of}
use Rattle.run_hooks.specs.ir_model.declared.instr.Instr.{Instr}
use Rattle.run_hooks.specs.ir_model.declared.module.Function.{Function}
use Rattle.run_hooks.specs.ir_model.declared.operand.Allocator.{Allocator}
use Rattle.run_hooks.specs.ir_model.declared.operand.Callee.{Callee}
use Rattle.run_hooks.specs.ir_model.declared.operand.Intrinsic.{Intrinsic}
use Rattle.run_hooks.proofs.run_laws.embedded.Refills.{step_only}
use Rattle.run_hooks.specs.run_laws.embedded.Refilled.{AreRefilled, IsRefilled, OnlyRefills}
use Rattle.run_hooks.specs.run_memory.Memory.{end, ended, is_killed, same_kind, started, with_block}
use Rattle.run_hooks.specs.run_memory.declared.block.Byte.{Byte}
use Rattle.run_hooks.specs.run_memory.declared.block.Kind.{Kind}
use Rattle.run_hooks.specs.run_memory.declared.block.Life.{Life}
use Rattle.run_hooks.specs.run_memory.declared.block.MemoryBlock.{MemoryBlock}
use Rattle.run_hooks.specs.run_memory.declared.pointer.Value.{Value}
use Rattle.run_slots.specs.Slots.{is_alloca_block}
use Rattle.run_hooks.specs.run_step.Step.{Action, AtInstr, AtTerm, Context, Done, Fetched, Nowhere, Work, action_of, block_of}
use Rattle.run_hooks.specs.run_step.Step.{NewSlot, Stuck, alloca_kind, has_markers, instr_action, is_alignment, on_block}
use Rattle.run_hooks.specs.run_step.Step.{set_memory, set_value, with_length}
use Rattle.run_hooks.specs.run_step.Values.{arg_values, nth, pointer_to}

-- ---- one block

pub record IsAlike (x y : MemoryBlock) : Type 0 where
  pub kind : y.kind ≡ x.kind
  pub owned : y.owned ≡ x.owned
  pub killed : is_killed y.life ≡ is_killed x.life

pub same_block : (x : MemoryBlock) → IsAlike x x
same_block x = record { kind = refl; owned = refl; killed = refl }

pub alloca_alike : (x y : MemoryBlock) → IsAlike x y → is_alloca_block y ≡ is_alloca_block x
alloca_alike x y h = ap (λ (k : Kind). same_kind k Kind.Slot || same_kind k Kind.Stack) h.kind

ended_alike : (x : MemoryBlock) → IsAlike x (ended x)
ended_alike x = on (is_killed x.life) refl
  where
    on : (t : Bool) → is_killed x.life ≡ t → IsAlike x (if t then x else record x { life = Life.Ended })
    on true e = same_block x
    on false e = record { kind = refl; owned = refl; killed = sym e }

pub started_alike : (x : MemoryBlock) → IsAlike x (started x)
started_alike x = on (is_killed x.life) refl
  where
    on : (t : Bool) → is_killed x.life ≡ t
        → IsAlike x (if t then x else record x { life = Life.Live; bytes = replicate x.size Byte.Undefined })
    on true e = same_block x
    on false e = record { kind = refl; owned = refl; killed = sym e }

-- ---- memories

pub record IsAlikeAt (k : List MemoryBlock) (n : ℕ) (x : MemoryBlock) : Type 0 where
  pub block : MemoryBlock
  pub there : slice_get k n ≡ Some block
  pub alike : IsAlike x block

-- each block is like before, and no new one is an alloca's
pub record AreAlike (m k : List MemoryBlock) : Type 0 where
  pub each : (n : ℕ) (x : MemoryBlock) → slice_get m n ≡ Some x → IsAlikeAt k n x
  pub new : (n : ℕ) (y : MemoryBlock) → slice_get k n ≡ Some y → is_alloca_block y ≡ true → n < length m

pub same_alike : (m : List MemoryBlock) → AreAlike m m
same_alike m = record {
  each = λ n x e. record { block = x; there = e; alike = same_block x };
  new = λ n y e own. there_below m n y e;
}
  where
    there_below : (m : List MemoryBlock) (n : ℕ) (y : MemoryBlock) → slice_get m n ≡ Some y → n < length m
    there_below [] n y e = absurd (cc)
    there_below (x ∷ m) zero y e = omega arith
    there_below (x ∷ m) (suc n) y e = let k = there_below m n y e in omega (arith, k)

cons_alike : (x y : MemoryBlock) (m k : List MemoryBlock) → IsAlike x y → AreAlike m k → AreAlike (x ∷ m) (y ∷ k)
cons_alike x y m k h a = record { each = each; new = new }
  where
    each : (n : ℕ) (z : MemoryBlock) → slice_get (x ∷ m) n ≡ Some z → IsAlikeAt (y ∷ k) n z
    each zero z e =
        let same : x ≡ z = cc in
        record { block = y; there = refl; alike = subst (λ (w : MemoryBlock). IsAlike w y) same h }
    each (suc n) z e = let r = a.each n z e in record { block = r.block; there = r.there; alike = r.alike }

    new : (n : ℕ) (z : MemoryBlock) → slice_get (y ∷ k) n ≡ Some z → is_alloca_block z ≡ true → n < suc (length m)
    new zero z e own = omega arith
    new (suc n) z e own = let r = a.new n z e own in omega (arith, r)

pub changed_alike : (m : List MemoryBlock) (b : ℕ) (f : MemoryBlock → MemoryBlock)
    → ((x : MemoryBlock) → IsAlike x (f x)) → AreAlike m (with_block m b f)
changed_alike [] b f h = same_alike []
changed_alike (x ∷ m) zero f h = cons_alike x (f x) m m (h x) (same_alike m)
changed_alike (x ∷ m) (suc b) f h = cons_alike x x m (with_block m b f) (same_block x) (changed_alike m b f h)

pub more_alike : (m : List MemoryBlock) (y : MemoryBlock) → is_alloca_block y ≡ false → AreAlike m (m ++ y ∷ [])
more_alike [] y h = record { each = λ n x e. absurd (cc); new = new }
  where
    new : (n : ℕ) (z : MemoryBlock) → slice_get (y ∷ []) n ≡ Some z → is_alloca_block z ≡ true → n < 0
    new zero z e own =
        let same : y ≡ z = cc in
        let other : is_alloca_block y ≡ true = subst (λ (w : MemoryBlock). is_alloca_block w ≡ true) (sym same) own in
        absurd (cc)
    new (suc n) z e own = absurd (cc)
more_alike (x ∷ m) y h = cons_alike x x m (m ++ y ∷ []) (same_block x) (more_alike m y h)

refilled_alike : (m k : List MemoryBlock) → AreRefilled m k → AreAlike m k
refilled_alike m k h = record { each = each; new = new }
  where
    each : (n : ℕ) (x : MemoryBlock) → slice_get m n ≡ Some x → IsAlikeAt k n x
    each n x e = on (slice_get k n) refl (subst (λ (o : Option MemoryBlock). IsRefilled o (slice_get k n)) e (h.each n))
      where
        on : (o : Option MemoryBlock) → slice_get k n ≡ o → IsRefilled (Some x) o → IsAlikeAt k n x
        on None d r = absurd r
        on (Some y) d r = record {
          block = y;
          there = d;
          alike = record {
            kind = ap (λ (z : MemoryBlock). z.kind) r;
            owned = ap (λ (z : MemoryBlock). z.owned) r;
            killed = ap (λ (z : MemoryBlock). is_killed z.life) r;
          };
        }

    below : (m : List MemoryBlock) (n : ℕ) (x : MemoryBlock) → slice_get m n ≡ Some x → n < length m
    below [] n x e = absurd (cc)
    below (y ∷ m) zero x e = omega arith
    below (y ∷ m) (suc n) x e = let r = below m n x e in omega (arith, r)

    new : (n : ℕ) (y : MemoryBlock) → slice_get k n ≡ Some y → is_alloca_block y ≡ true → n < length m
    new n y e own = on (slice_get m n) refl (subst (IsRefilled (slice_get m n)) e (h.each n))
      where
        on : (o : Option MemoryBlock) → slice_get m n ≡ o → IsRefilled o (Some y) → n < length m
        on None d r = absurd r
        on (Some x) d r = below m n x d

-- ---- instructions

-- The next block is an alloca's, which its address leads to. It may have ended at once.
pub record IsMadeSlot (m k : List MemoryBlock) (b : ℕ) : Type 0 where
  pub block : MemoryBlock
  pub made : is_alloca_block block ≡ true
  pub free : block.owned ≡ None
  pub lives : is_killed block.life ≡ false
  pub number : b ≡ length m
  pub rest : AreAlike (m ++ block ∷ []) k

abbrev pub StaysAlike : List MemoryBlock → Action → Type 0
StaysAlike m (Done w) = AreAlike m w.world.memory
StaysAlike m (NewSlot w slot) = IsMadeSlot m w.world.memory slot.block
StaysAlike m _ = Unit {0}

only_alike : (m : List MemoryBlock) (a : Action) → OnlyRefills m a → StaysAlike m a
only_alike m (Done w) h = refilled_alike m w.world.memory h
only_alike m (NewSlot w slot) h = absurd h
only_alike m _ h = tt

-- what an alloca makes
abbrev new_block : ℕ → ℕ → Function → MemoryBlock
new_block align size f = record {
  size = size;
  align = align;
  kind = alloca_kind f;
  life = Life.Live;
  owned = None;
  bytes = replicate size Byte.Undefined;
}

module _ (c : Context) (w : Work) where
  on_alike : (f : MemoryBlock → MemoryBlock) → ((x : MemoryBlock) → IsAlike x (f x)) → (o : Option ℕ)
      → AreAlike w.world.memory (on_block (λ m b. with_block m b f) w.world.memory o)
  on_alike f h None = same_alike w.world.memory
  on_alike f h (Some b) = changed_alike w.world.memory b f h

  made_alike : (v : Value) (f : ℕ → Action) → ((n : ℕ) → StaysAlike w.world.memory (f n))
      → StaysAlike w.world.memory (with_length v f)
  made_alike (Value.Int y) f h = h y.bits
  made_alike Value.Poison f h = tt
  made_alike (Value.Ptr p) f h = tt

  pub instr_alike : (i : Instr) → StaysAlike w.world.memory (instr_action c w i)
  instr_alike (Instr.Call result must_tail ty (Callee.Allocator Allocator.Malloc) args) =
      made_alike (nth (arg_values c.code w.values args) 0) _ (λ n. more_alike w.world.memory _ refl)
  instr_alike (Instr.Call result must_tail ty (Callee.Allocator Allocator.Znwm) args) =
      made_alike (nth (arg_values c.code w.values args) 0) _ (λ n. more_alike w.world.memory _ refl)
  instr_alike (Instr.Call result must_tail ty (Callee.Intrinsic Intrinsic.LifetimeStart) args) =
      on_alike started started_alike (block_of (nth (arg_values c.code w.values args) 1))
  instr_alike (Instr.Call result must_tail ty (Callee.Intrinsic Intrinsic.LifetimeEnd) args) =
      on_alike ended ended_alike (block_of (nth (arg_values c.code w.values args) 1))
  instr_alike (Instr.Alloca name ty align) = on (is_alignment align) (has_markers c.function name)
    where
      made : (t : Bool) → (same_kind (if t then Kind.Slot else Kind.Stack) Kind.Slot
          || same_kind (if t then Kind.Slot else Kind.Stack) Kind.Stack) ≡ true
      made true = refl
      made false = refl

      on : (t u : Bool) → StaysAlike w.world.memory (if t then NewSlot
          (set_memory (set_value w name (pointer_to (length w.world.memory)))
          (if u then end (w.world.memory ++ new_block align (size_of c.code ty) c.function ∷ []) (length w.world.memory) else w.world.memory ++ new_block align (size_of c.code ty) c.function ∷ []))
          (record { alloca = name; block = length w.world.memory }) else Stuck Cause.Align)
      on false u = tt
      on true true = record {
        block = new_block align (size_of c.code ty) c.function;
        made = made c.function.coroutine;
        free = refl;
        lives = refl;
        number = refl;
        rest = changed_alike (w.world.memory ++ new_block align (size_of c.code ty) c.function ∷ []) (length w.world.memory) ended ended_alike;
      }
      on true false = record {
        block = new_block align (size_of c.code ty) c.function;
        made = made c.function.coroutine;
        free = refl;
        lives = refl;
        number = refl;
        rest = same_alike (w.world.memory ++ new_block align (size_of c.code ty) c.function ∷ []);
      }
  instr_alike i = only_alike w.world.memory (action_of c w (AtInstr i)) (step_only c w (AtInstr i) tt)

  pub step_alike : (x : Fetched) → StaysAlike w.world.memory (action_of c w x)
  step_alike (AtInstr i) = instr_alike i
  step_alike (AtTerm t) = only_alike w.world.memory (action_of c w (AtTerm t)) (step_only c w (AtTerm t) tt)
  step_alike Nowhere = tt
