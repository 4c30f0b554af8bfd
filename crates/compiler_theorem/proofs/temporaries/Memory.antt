-- What instructions do to a block of a slot: only the end of a slot ends one.
use Rattle.std.proofs.Common.{◌≡◌, ℕ, zero, suc, Bool, true, false, List, [], ◌∷◌, ◌++◌, length}
use Rattle.std.proofs.Common.{Option, Some, None, Result, Ok, Err, refl, sym, ap, ◌∙◌, subst, not, ◌&&◌, ◌==◌}
use Rattle.std.proofs.Common.{replicate}
use Rattle.std.specs.Prelude.{if◌then◌else◌, slice_get}
use Rattle.std.proofs.lemmas.List.{length-replicate}
use Rattle.compiler.specs.ir_base.declared.cause.Cause.{Cause}
use Rattle.compiler.specs.ir_model.Layout.{size_of}
use Rattle.compiler.specs.ir_model.Ty.{Ty}
use Rattle.compiler.specs.ir_model.declared.instr.Instr.{Instr}
use Rattle.compiler.specs.ir_model.declared.operand.Allocator.{Allocator}
use Rattle.compiler.specs.ir_model.declared.operand.Callee.{Callee}
use Rattle.compiler.specs.ir_model.declared.operand.Intrinsic.{Intrinsic}
use Rattle.compiler_theorem.specs.temporaries.Uses.{HasItsBytes, HoldsUse, IsAbsent, IsSparedBy, IsTagged, IsUsed}
use Rattle.compiler_theorem.specs.temporaries.Uses.{IsUsedAt, Marked, Other, Tag, Unmarked, Use}
use Rattle.compiler.proofs.run_laws.access.Bytes.{bytes_left}
use Rattle.compiler.specs.run_laws.access.Accessed.{Span, writes}
use Rattle.compiler.specs.run_laws.access.Changed.{IsFull, LeavesBytes}
use Rattle.compiler.specs.run_laws.changed.Changed.{Each}
use Rattle.compiler.specs.run_laws.embedded.Refilled.{IsRefilled}
use Rattle.compiler.specs.run_laws.embedded.Related.{HasNoSlot}
use Rattle.compiler.specs.run_memory.Memory.{bytes_in, check, disown, disowned, end, ended, is_killed, is_live}
use Rattle.compiler.specs.run_memory.Memory.{is_owned}
use Rattle.compiler.specs.run_memory.Memory.{is_unkilled, killed}
use Rattle.compiler.specs.run_memory.Memory.{killed_block, may_be_owned, own, owned_to, start, started}
use Rattle.compiler.specs.run_memory.Memory.{with_block}
use Rattle.compiler.specs.run_memory.declared.block.Byte.{Byte}
use Rattle.compiler.specs.run_memory.declared.block.Kind.{Kind}
use Rattle.compiler.specs.run_memory.declared.block.Life.{Life}
use Rattle.compiler.specs.run_memory.declared.block.MemoryBlock.{MemoryBlock}
use Rattle.compiler.specs.run_memory.declared.pointer.Pointer.{Pointer}
use Rattle.compiler.specs.run_memory.declared.pointer.Value.{Value}
use Rattle.compiler.specs.run_step.Step.{Action, AtInstr, AtTerm, Context, Done, Fetched, NewSlot, Nowhere}
use Rattle.compiler.specs.run_step.Step.{Stuck, Work}
use Rattle.compiler.specs.run_step.Step.{action_of, alloca_kind, block_of, deallocated, has_markers}
use Rattle.compiler.specs.run_step.Step.{is_alignment, on_block}
use Rattle.compiler.specs.run_step.Step.{set_memory, set_value, with_length, without_slots}
use Rattle.compiler.specs.run_step.Values.{arg_values, nth, pointer_to}
use Rattle.compiler.specs.run_step.declared.world.Slot.{Slot}

-- ---- one block

used_by : (u : Use) (x y : MemoryBlock) → y.kind ≡ x.kind → y.size ≡ x.size → y.align ≡ x.align
    → (y.life ≡ Life.Ended → x.life ≡ Life.Ended) → IsUsed u x → IsUsed u y
used_by Other x y kind size align life h = tt
used_by Marked x y kind size align life h = tt
used_by (Unmarked t) x y kind size align life h = record {
  kind = kind ∙ h.kind;
  size = size ∙ h.size;
  align = align ∙ h.align;
  unended = λ e. h.unended (life e);
}

abbrev KeepsUse : Use → (MemoryBlock → MemoryBlock) → Type 0
KeepsUse u f = (x : MemoryBlock) → HoldsUse u (Some x) → HoldsUse u (Some (f x))

pub block_used : (u : Use) (f : MemoryBlock → MemoryBlock) → KeepsUse u f → (m : List MemoryBlock) (b n : ℕ)
    → IsUsedAt u m n → IsUsedAt u (with_block m b f) n
block_used u f k [] b n h = h
block_used u f k (x ∷ m) zero zero h = k x h
block_used u f k (x ∷ m) zero (suc n) h = h
block_used u f k (x ∷ m) (suc b) zero h = h
block_used u f k (x ∷ m) (suc b) (suc n) h = block_used u f k m b n h

-- what dies or begins isn't ended
not_ended : (l k : Life) → k ≡ Life.Live → k ≡ Life.Ended → l ≡ Life.Ended
not_ended l k e d = let no : Life.Live ≡ Life.Ended = sym e ∙ d in absurd (cc)

started_keeps : (u : Use) → KeepsUse u started
started_keeps u x h = on (is_killed x.life)
  where
    on : (t : Bool) → HoldsUse u (Some (if t then x else record x {
      life = Life.Live;
      bytes = replicate x.size Byte.Undefined;
    }))
    on true = h
    on false = (
      record { full = λ live. length-replicate x.size Byte.Undefined },
      used_by u x (record x { life = Life.Live; bytes = replicate x.size Byte.Undefined }) refl refl refl
          (λ e. not_ended x.life Life.Live refl e) h.1,
    )

killed_keeps : (u : Use) → KeepsUse u killed_block
killed_keeps u x h = (
  record { full = λ live. absurd (cc) },
  used_by u x (killed_block x) refl refl refl (λ e. absurd (cc)) h.1,
)

owned_keeps : (u : Use) (size : ℕ) → KeepsUse u (owned_to size)
owned_keeps u size x h = (
  record { full = λ live. h.0.full live },
  used_by u x (owned_to size x) refl refl refl (λ e. e) h.1,
)

disowned_keeps : (u : Use) → KeepsUse u disowned
disowned_keeps u x h = (
  record { full = λ live. h.0.full live },
  used_by u x (disowned x) refl refl refl (λ e. e) h.1,
)

-- a block with markers, or of which nothing is said, may end
abbrev IsSpared : Use → Type 0
IsSpared u = (t : Tag) → u ≡ Unmarked t → ⊥

ended_keeps : (u : Use) → IsSpared u → KeepsUse u ended
ended_keeps u spared x h = on (is_killed x.life)
  where
    other : (u : Use) → IsSpared u → (y : MemoryBlock) → IsUsed u y
    other Other s y = tt
    other Marked s y = tt
    other (Unmarked t) s y = absurd (s t refl)

    on : (t : Bool) → HoldsUse u (Some (if t then x else record x { life = Life.Ended }))
    on true = h
    on false = (record { full = λ live. absurd (cc) }, other u spared (record x { life = Life.Ended }))

pub start_used : (u : Use) (m : List MemoryBlock) (b n : ℕ) → IsUsedAt u m n → IsUsedAt u (start m b) n
start_used u m b n h = block_used u started (started_keeps u) m b n h

pub end_used : (u : Use) (m : List MemoryBlock) (b n : ℕ) → (b ≡ n → IsSpared u) → IsUsedAt u m n
    → IsUsedAt u (end m b) n
end_used u [] b n spared h = h
end_used u (x ∷ m) zero zero spared h = ended_keeps u (spared refl) x h
end_used u (x ∷ m) zero (suc n) spared h = h
end_used u (x ∷ m) (suc b) zero spared h = h
end_used u (x ∷ m) (suc b) (suc n) spared h = end_used u m b n (λ e. spared (ap suc e)) h

pub killed_used : (u : Use) (m : List MemoryBlock) (b n : ℕ) → IsUsedAt u m n → IsUsedAt u (killed m b) n
killed_used u m b n h = block_used u killed_block (killed_keeps u) m b n h

pub disown_used : (u : Use) (m : List MemoryBlock) (b n : ℕ) → IsUsedAt u m n → IsUsedAt u (disown m b) n
disown_used u m b n h = block_used u disowned (disowned_keeps u) m b n h

pub without_used : (u : Use) (m : List MemoryBlock) (slots : List Slot) (n : ℕ) → IsUsedAt u m n
    → IsUsedAt u (without_slots m slots) n
without_used u m [] n h = h
without_used u m (s ∷ slots) n h =
    without_used u (killed m s.block) slots n (killed_used u m s.block n h)

-- a new block has all its bytes
absent_other : (u : Use) (x : MemoryBlock) → HasItsBytes x → IsAbsent u → HoldsUse u (Some x)
absent_other Other x k h = (k, tt)
absent_other Marked x k h = absurd h
absent_other (Unmarked t) x k h = absurd h

pub more_used : (u : Use) (m : List MemoryBlock) (x : MemoryBlock) → HasItsBytes x → (n : ℕ) → IsUsedAt u m n
    → IsUsedAt u (m ++ x ∷ []) n
more_used u [] x k zero h = absent_other u x k h
more_used u [] x k (suc n) h = h
more_used u (y ∷ m) x k zero h = h
more_used u (y ∷ m) x k (suc n) h = more_used u m x k n h

pub nothing_behind : (u : Use) (m : List MemoryBlock) → IsUsedAt u m (length m) → IsAbsent u
nothing_behind u [] h = h
nothing_behind u (x ∷ m) h = nothing_behind u m h

last_there : (m : List MemoryBlock) (z : MemoryBlock) → slice_get (m ++ z ∷ []) (length m) ≡ Some z
last_there [] z = refl
last_there (x ∷ m) z = last_there m z

ended_there : (m : List MemoryBlock) (b : ℕ) (z : MemoryBlock) → slice_get m b ≡ Some z
    → slice_get (end m b) b ≡ Some (ended z)
ended_there [] b z e = absurd (cc)
ended_there (x ∷ m) zero z e = let same : x ≡ z = cc in ap (λ (y : MemoryBlock). Some (ended y)) same
ended_there (x ∷ m) (suc b) z e = ended_there m b z e

-- what may fail
abbrev pub GivesUses : Use → ℕ → Result (List MemoryBlock) Cause → Type 0
GivesUses u n (Err cause) = Unit {0}
GivesUses u n (Ok k) = IsUsedAt u k n

pub own_used : (u : Use) (m : List MemoryBlock) (v : Value) (size : ℕ) (kind : Kind) (n : ℕ) → IsUsedAt u m n
    → GivesUses u n (own m v size kind)
own_used u m (Value.Ptr (Pointer.At b o)) size kind n h =
    on ((o.bits == 0) && may_be_owned kind size (slice_get m b))
  where
    on : (t : Bool) → GivesUses u n (check t Cause.Begin (Ok (with_block m b (owned_to size))))
    on true = block_used u (owned_to size) (owned_keeps u size) m b n h
    on false = tt
own_used u m (Value.Ptr Pointer.Null) size kind n h = tt
own_used u m (Value.Ptr (Pointer.Func f)) size kind n h = tt
own_used u m Value.Poison size kind n h = tt
own_used u m (Value.Int x) size kind n h = tt

kill_used : (u : Use) (m : List MemoryBlock) (b n : ℕ) (t v : Bool) → IsUsedAt u m n
    → GivesUses u n (if t then Err Cause.Free else if v then Err Cause.Owned else Ok (killed m b))
kill_used u m b n true v h = tt
kill_used u m b n false true h = tt
kill_used u m b n false false h = killed_used u m b n h

pub deallocated_used : (u : Use) (m : List MemoryBlock) (v : Value) (n : ℕ) → IsUsedAt u m n
    → GivesUses u n (deallocated m v)
deallocated_used u m (Value.Ptr Pointer.Null) n h = h
deallocated_used u m (Value.Ptr (Pointer.At b o)) n h =
    kill_used u m b n (not ((o.bits == 0) && is_unkilled Kind.Allocator (slice_get m b))) (is_owned (slice_get m b)) h
deallocated_used u m (Value.Ptr (Pointer.Func f)) n h = tt
deallocated_used u m Value.Poison n h = tt
deallocated_used u m (Value.Int x) n h = tt

-- ---- bytes

refilled_used : (u : Use) (o p : Option MemoryBlock) → IsRefilled o p
    → length (bytes_in p) ≡ length (bytes_in o) → HoldsUse u o → HoldsUse u p
refilled_used u None None r e h = h
refilled_used u None (Some y) r e h = absurd r
refilled_used u (Some x) None r e h = absurd r
refilled_used u (Some x) (Some y) r e h = (
  record {
    full = λ live.
        e ∙ h.0.full (ap (λ (z : MemoryBlock). is_live z.life) (sym r) ∙ live)
        ∙ ap (λ (z : MemoryBlock). z.size) (sym r);
  },
  used_by u x y (ap (λ (z : MemoryBlock). z.kind) r) (ap (λ (z : MemoryBlock). z.size) r)
      (ap (λ (z : MemoryBlock). z.align) r)
      (λ d. ap (λ (z : MemoryBlock). z.life) (sym r) ∙ d) h.1,
)

all_each : (P : Span → Type 0) → ((s : Span) → P s) → (ss : List Span) → Each P ss
all_each P h [] = tt
all_each P h (s ∷ ss) = (h s, all_each P h ss)

-- ---- instructions

-- the block of a new slot stands behind all others
pub record IsNewUse (c : Context) (m k : List MemoryBlock) (x : Fetched) (slot : Slot) : Type 0 where
  pub last : slot.block ≡ length m
  pub ty : Ty
  pub align : ℕ
  pub stands : x ≡ AtInstr (Instr.Alloca slot.alloca ty align)
  pub block : MemoryBlock
  pub there : slice_get k (length m) ≡ Some block
  pub bytes : HasItsBytes block
  pub tagged : has_markers c.function slot.alloca ≡ false
      → IsTagged (record { kind = alloca_kind c.function; size = size_of c.code ty; align = align }) block

abbrev pub GivesUse : Use → ℕ → Context → List MemoryBlock → Fetched → Action → Type 0
GivesUse u n c memory x (Done w) = IsUsedAt u w.world.memory n
GivesUse u n c memory x (NewSlot w slot) = IsUsedAt u w.world.memory n × IsNewUse c memory w.world.memory x slot
GivesUse u n c memory x _ = Unit {0}

left_used : (u : Use) (n : ℕ) (c : Context) (memory : List MemoryBlock) (x : Fetched) (spans : List Span) (a : Action)
    → LeavesBytes spans memory a → IsUsedAt u memory n → GivesUse u n c memory x a
left_used u n c memory x spans (Done w) left h =
    refilled_used u (slice_get memory n) (slice_get w.world.memory n) (left.refilled.each n) (left.lengths n) h
left_used u n c memory x spans (NewSlot w slot) left h = absurd left
left_used u n c memory x spans _ left h = tt

module _ (u : Use) (n : ℕ) (c : Context) (w : Work) (full : (b : ℕ) → IsFull w.world.memory b)
    (h : IsUsedAt u w.world.memory n) where
  abbrev m : List MemoryBlock
  m = w.world.memory

  on_used : (f : List MemoryBlock → ℕ → List MemoryBlock) (o : Option ℕ)
      → ((b : ℕ) → o ≡ Some b → IsUsedAt u (f m b) n)
      → IsUsedAt u (on_block f m o) n
  on_used f None k = h
  on_used f (Some b) k = k b refl

  length_used : (x : Fetched) (v : Value) (f : ℕ → Action) → ((k : ℕ) → GivesUse u n c m x (f k))
      → GivesUse u n c m x (with_length v f)
  length_used x (Value.Int y) f k = k y.bits
  length_used x Value.Poison f k = tt
  length_used x (Value.Ptr p) f k = tt

  plain_used : (x : Fetched) → HasNoSlot x → GivesUse u n c m x (action_of c w x)
  plain_used x none = left_used u n c m x (writes c w x) (action_of c w x)
      (bytes_left c w x none
      (all_each (λ (s : Span). IsFull w.world.memory s.block) (λ s. full s.block) (writes c w x)))
      h

  instr_used : (i : Instr) → IsSparedBy u n c w (AtInstr i) → GivesUse u n c m (AtInstr i) (action_of c w (AtInstr i))
  instr_used (Instr.Call result must_tail ty (Callee.Allocator Allocator.Malloc) args) away =
      length_used _ (nth (arg_values c.code w.values args) 0) _
      (λ k. more_used u m _ (record { full = λ live. length-replicate k Byte.Undefined }) n h)
  instr_used (Instr.Call result must_tail ty (Callee.Allocator Allocator.Znwm) args) away =
      length_used _ (nth (arg_values c.code w.values args) 0) _
      (λ k. more_used u m _ (record { full = λ live. length-replicate k Byte.Undefined }) n h)
  instr_used (Instr.Call result must_tail ty (Callee.Allocator Allocator.Free) args) away = tt
  instr_used (Instr.Call result must_tail ty (Callee.Allocator Allocator.ZdlPv) args) away = tt
  instr_used (Instr.Call result must_tail ty (Callee.Allocator Allocator.ZdlPvm) args) away = tt
  instr_used (Instr.Call result must_tail ty (Callee.Intrinsic Intrinsic.LifetimeStart) args) away =
      on_used start (block_of (nth (arg_values c.code w.values args) 1)) (λ b e. start_used u m b n h)
  instr_used (Instr.Call result must_tail ty (Callee.Intrinsic Intrinsic.LifetimeEnd) args) away =
      on_used end (block_of (nth (arg_values c.code w.values args) 1))
      (λ b e. end_used u m b n (λ same t is. away t is result must_tail ty args refl (e ∙ ap Some same)) h)
  instr_used (Instr.Alloca name ty align) away = on (is_alignment align) (has_markers c.function name) refl
    where
      block : MemoryBlock
      block = record {
        size = size_of c.code ty;
        align = align;
        kind = alloca_kind c.function;
        life = Life.Live;
        owned = None;
        bytes = replicate (size_of c.code ty) Byte.Undefined;
      }

      bytes : HasItsBytes block
      bytes = record { full = λ live. length-replicate (size_of c.code ty) Byte.Undefined }

      new : IsUsedAt u (m ++ block ∷ []) n
      new = more_used u m block bytes n h

      unused : length m ≡ n → IsSpared u
      unused e t is =
          subst IsAbsent is (nothing_behind u m (subst (IsUsedAt u m) (sym e) h))

      on : (t v : Bool) → has_markers c.function name ≡ v
          → GivesUse u n c m (AtInstr (Instr.Alloca name ty align)) (if t then NewSlot
          (set_memory (set_value w name (pointer_to (length m)))
          (if v then end (m ++ block ∷ []) (length m) else m ++ block ∷ []))
          (record { alloca = name; block = length m }) else Stuck Cause.Align)
      on false v e = tt
      on true true e = (
        end_used u (m ++ block ∷ []) (length m) n unused new,
        record {
          last = refl;
          ty = ty;
          align = align;
          stands = refl;
          block = ended block;
          there = ended_there (m ++ block ∷ []) (length m) block (last_there m block);
          bytes = record { full = λ live. absurd (cc) };
          tagged = λ none. let no : true ≡ false = sym e ∙ none in absurd (cc);
        },
      )
      on true false e = (
        new,
        record {
          last = refl;
          ty = ty;
          align = align;
          stands = refl;
          block = block;
          there = last_there m block;
          bytes = bytes;
          tagged = λ none. record { kind = refl; size = refl; align = refl; unended = λ d. absurd (cc) };
        },
      )
  instr_used i away = plain_used (AtInstr i) tt

  pub step_used : (x : Fetched) → IsSparedBy u n c w x → GivesUse u n c m x (action_of c w x)
  step_used (AtInstr i) away = instr_used i away
  step_used (AtTerm t) away = plain_used (AtTerm t) tt
  step_used Nowhere away = tt
