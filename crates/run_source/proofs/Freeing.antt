-- The block of an instance that lets it be freed, after the instance's slots have died.
use Rattle.std.proofs.Common.{◌≡◌, ℕ, zero, suc, Bool, true, false, ◌&&◌, ◌||◌, ◌+◌, List, [], ◌∷◌, refl, ap, sym, ◌∙◌, Option, Some, None, Ok, Err}
use Rattle.std.specs.Prelude.{Result, IfErr, OnOk, not, option_and_then, option_map, slice_get, slice_set, if◌then◌else◌, ◌==◌}
use Rattle.std.specs.List.{list_any}
use Rattle.std.proofs.lemmas.Bool.{false≢true, eqb-true}
use Rattle.std.proofs.Math.Dec.{eqb-suc-suc, eqb-suc-zero, eqb-zero-suc}
use Rattle.run_memory.specs.Memory.{disown, disowned, is_killed, is_owned, is_unkilled, killed, killed_block, same_kind, with_block}
use Rattle.run_memory.specs.declared.block.Kind.{Kind}
use Rattle.run_memory.specs.declared.block.MemoryBlock.{MemoryBlock}
use Rattle.run_memory.specs.declared.pointer.Offset.{Offset}
use Rattle.run_memory.specs.declared.pointer.Pointer.{Pointer}
use Rattle.run_memory.specs.declared.pointer.Value.{Value}
use Rattle.ir_base.specs.declared.cause.Cause.{Cause}
use Rattle.run_source.specs.Source.{deallocate, if_let_go, let_go, may_be_freed}
use Rattle.run_source.specs.SourceEffects.{let_go_at}
use Rattle.run_source.specs.State.{began_at, instance_at, last_from, next, numbered, with_memory}
use Rattle.run_source.specs.declared.state.Instance.{Instance}
use Rattle.run_source.specs.declared.state.State.{State}
use Rattle.run_source.proofs.Slots.{numbered-by}
use Rattle.run_source_tables.specs.run_step.Results.{and_then}
use Rattle.run_source_tables.specs.run_step.Step.{deallocated, without_slots}
use Rattle.run_source_tables.specs.run_step.declared.world.Slot.{Slot}

there-other : (m : List MemoryBlock) (c b : ℕ) (f : MemoryBlock → MemoryBlock) → (c == b) ≡ false → slice_get (with_block m c f) b ≡ slice_get m b
there-other [] c b f e = refl
there-other (x ∷ m) zero zero f e = absurd (false≢true (sym e))
there-other (x ∷ m) zero (suc b) f e = refl
there-other (x ∷ m) (suc c) zero f e = refl
there-other (x ∷ m) (suc c) (suc b) f e = there-other m c b f (sym (eqb-suc-suc c b) ∙ e)

there-same : (m : List MemoryBlock) (b : ℕ) (f : MemoryBlock → MemoryBlock) → slice_get (with_block m b f) b ≡ option_map f (slice_get m b)
there-same [] b f = refl
there-same (x ∷ m) zero f = refl
there-same (x ∷ m) (suc b) f = there-same m b f

or-left : (a b : Bool) → (a || b) ≡ false → a ≡ false
or-left true b e = e
or-left false b e = refl

or-right : (a b : Bool) → (a || b) ≡ false → b ≡ false
or-right true b e = absurd (false≢true (sym e))
or-right false b e = e

-- a block that no slot is stays as it was
kept : (b : ℕ) (m : List MemoryBlock) (slots : List Slot) → list_any (λ s. s.block == b) slots ≡ false → slice_get (without_slots m slots) b ≡ slice_get m b
kept b m [] e = refl
kept b m (s ∷ slots) e =
    kept b (killed m s.block) slots (or-right (s.block == b) (list_any (λ t. t.block == b) slots) e)
    ∙ there-other m s.block b killed_block (or-left (s.block == b) (list_any (λ t. t.block == b) slots) e)

and-none : (a : Bool) → (a && false) ≡ false
and-none true = refl
and-none false = refl

dead : (kind : Kind) (o : Option MemoryBlock) → is_unkilled kind (option_map killed_block o) ≡ false
dead kind None = refl
dead kind (Some x) = and-none (same_kind x.kind kind)

dead-stays : (kind : Kind) (m : List MemoryBlock) (c b : ℕ) (v : Bool) → (c == b) ≡ v → is_unkilled kind (slice_get m b) ≡ false → is_unkilled kind (slice_get (killed m c) b) ≡ false
dead-stays kind m c b true is e =
    ap (λ n. is_unkilled kind (slice_get (killed m n) b)) (eqb-true c b is)
    ∙ ap (is_unkilled kind) (there-same m b killed_block)
    ∙ dead kind (slice_get m b)
dead-stays kind m c b false is e = ap (is_unkilled kind) (there-other m c b killed_block is) ∙ e

all-dead : (kind : Kind) (b : ℕ) (m : List MemoryBlock) (slots : List Slot) → is_unkilled kind (slice_get m b) ≡ false → is_unkilled kind (slice_get (without_slots m slots) b) ≡ false
all-dead kind b m [] e = e
all-dead kind b m (s ∷ slots) e = all-dead kind b (killed m s.block) slots (dead-stays kind m s.block b (s.block == b) refl e)

-- a block that a slot is dies
hit-by : (kind : Kind) (b : ℕ) (m : List MemoryBlock) (s : Slot) (slots : List Slot) (v : Bool) → (s.block == b) ≡ v → (v || list_any (λ t. t.block == b) slots) ≡ true → (list_any (λ t. t.block == b) slots ≡ true → is_unkilled kind (slice_get (without_slots (killed m s.block) slots) b) ≡ false) → is_unkilled kind (slice_get (without_slots (killed m s.block) slots) b) ≡ false
hit-by kind b m s slots true is e h =
    all-dead kind b (killed m s.block) slots
    (ap (λ n. is_unkilled kind (slice_get (killed m n) b)) (eqb-true s.block b is)
    ∙ ap (is_unkilled kind) (there-same m b killed_block)
    ∙ dead kind (slice_get m b))
hit-by kind b m s slots false is e h = h e

hit : (kind : Kind) (b : ℕ) (m : List MemoryBlock) (slots : List Slot) → list_any (λ s. s.block == b) slots ≡ true → is_unkilled kind (slice_get (without_slots m slots) b) ≡ false
hit kind b m [] e = absurd (false≢true e)
hit kind b m (s ∷ slots) e = hit-by kind b m s slots (s.block == b) refl e (λ f. hit kind b (killed m s.block) slots f)

unkilled-disowned : (kind : Kind) (o : Option MemoryBlock) → is_unkilled kind (option_map disowned o) ≡ is_unkilled kind o
unkilled-disowned kind None = refl
unkilled-disowned kind (Some x) = refl

unowned : (o : Option MemoryBlock) → is_owned (option_map disowned o) ≡ false
unowned None = refl
unowned (Some x) = refl

freed-by : (zero_offset unkilled owned : Bool) (ok : List MemoryBlock) → zero_offset ≡ true → unkilled ≡ true → owned ≡ false → (if not (zero_offset && unkilled) then Err Cause.Free else if owned then Err Cause.Owned else Ok ok) ≡ Ok ok
freed-by true true false ok a b c = refl
freed-by true true true ok a b c = absurd (false≢true (sym c))
freed-by true false owned ok a b c = absurd (false≢true b)
freed-by false unkilled owned ok a b c = absurd (false≢true a)

refused-by : (zero_offset unkilled owned : Bool) (ok : List MemoryBlock) → (zero_offset && unkilled) ≡ false → (if not (zero_offset && unkilled) then Err Cause.Free else if owned then Err Cause.Owned else Ok ok) ≡ Err Cause.Free
refused-by true true owned ok e = absurd (false≢true (sym e))
refused-by true false owned ok e = refl
refused-by false unkilled owned ok e = refl

pub freed : (m : List MemoryBlock) (slots : List Slot) (b : ℕ) (o : Offset) → (o.bits == 0) ≡ true → is_unkilled Kind.Allocator (slice_get m b) ≡ true → list_any (λ s. s.block == b) slots ≡ false → deallocated (disown (without_slots m slots) b) (Value.Ptr (Pointer.At b o)) ≡ Ok (killed (disown (without_slots m slots) b) b)
freed m slots b o z u n =
    let k = without_slots m slots in
    let at = there-same k b disowned in
    freed-by (o.bits == 0) (is_unkilled Kind.Allocator (slice_get (disown k b) b)) (is_owned (slice_get (disown k b) b)) (killed (disown k b) b) z
    (ap (is_unkilled Kind.Allocator) at ∙ unkilled-disowned Kind.Allocator (slice_get k b) ∙ ap (is_unkilled Kind.Allocator) (kept b m slots n) ∙ u)
    (ap is_owned at ∙ unowned (slice_get k b))

and-right-none : (a b : Bool) → b ≡ false → (a && b) ≡ false
and-right-none true b e = e
and-right-none false b e = refl

and-left-none : (a b : Bool) → a ≡ false → (a && b) ≡ false
and-left-none true b e = absurd (false≢true (sym e))
and-left-none false b e = refl

pub refused-offset : (m : List MemoryBlock) (b : ℕ) (o : Offset) → (o.bits == 0) ≡ false → deallocated m (Value.Ptr (Pointer.At b o)) ≡ Err Cause.Free
refused-offset m b o z = refused-by (o.bits == 0) (is_unkilled Kind.Allocator (slice_get m b)) (is_owned (slice_get m b)) (killed m b) (and-left-none (o.bits == 0) (is_unkilled Kind.Allocator (slice_get m b)) z)

refused-dead : (m : List MemoryBlock) (slots : List Slot) (b : ℕ) (o : Offset) → is_unkilled Kind.Allocator (slice_get (without_slots m slots) b) ≡ false → deallocated (disown (without_slots m slots) b) (Value.Ptr (Pointer.At b o)) ≡ Err Cause.Free
refused-dead m slots b o d =
    let k = without_slots m slots in
    refused-by (o.bits == 0) (is_unkilled Kind.Allocator (slice_get (disown k b) b)) (is_owned (slice_get (disown k b) b)) (killed (disown k b) b)
    (and-right-none (o.bits == 0) (is_unkilled Kind.Allocator (slice_get (disown k b) b))
    (ap (is_unkilled Kind.Allocator) (there-same k b disowned) ∙ unkilled-disowned Kind.Allocator (slice_get k b) ∙ d))

pub refused-killed : (m : List MemoryBlock) (slots : List Slot) (b : ℕ) (o : Offset) → is_unkilled Kind.Allocator (slice_get m b) ≡ false → deallocated (disown (without_slots m slots) b) (Value.Ptr (Pointer.At b o)) ≡ Err Cause.Free
refused-killed m slots b o u = refused-dead m slots b o (all-dead Kind.Allocator b m slots u)

pub refused-slot : (m : List MemoryBlock) (slots : List Slot) (b : ℕ) (o : Offset) → list_any (λ s. s.block == b) slots ≡ true → deallocated (disown (without_slots m slots) b) (Value.Ptr (Pointer.At b o)) ≡ Err Cause.Free
refused-slot m slots b o h = refused-dead m slots b o (hit Kind.Allocator b m slots h)

-- ---- in a state

same-some : {A : Type 0} {x y : A} → Some x ≡ Some y → x ≡ y
same-some e = cc

abbrev after_letting_go : State → ℕ → Instance → Value → ℕ → Result State Cause
after_letting_go s i x p b =
    let s' = with_memory (record s { instances = slice_set s.instances i (record x { freed = true }) }) (disown (without_slots s.world.memory x.slots) b) in
    and_then (deallocated s'.world.memory p) (λ memory. Ok (next (with_memory s' memory)))

pub let-go-refused : (s : State) (i : ℕ) (x y : Instance) (b : ℕ) (o : Offset) → slice_get s.instances i ≡ Some x → slice_get s.instances i ≡ Some y → x.block ≡ b → deallocated (disown (without_slots s.world.memory y.slots) b) (Value.Ptr (Pointer.At b o)) ≡ Err Cause.Free → let_go_at s i x (Value.Ptr (Pointer.At b o)) ≡ Err Cause.Free
let-go-refused s i x y b o gx gy at e =
    let same : y ≡ x = same-some (sym gy ∙ gx) in
    let e' : deallocated (disown (without_slots s.world.memory x.slots) b) (Value.Ptr (Pointer.At b o)) ≡ Err Cause.Free =
    ap (λ (z : Instance). deallocated (disown (without_slots s.world.memory z.slots) b) (Value.Ptr (Pointer.At b o))) (sym same) ∙ e in
    let t : State = with_memory (record s { instances = slice_set s.instances i (record x { freed = true }) }) (disown (without_slots s.world.memory x.slots) b) in
    ap (after_letting_go s i x (Value.Ptr (Pointer.At b o))) at
    ∙ ap (λ r. and_then r (λ memory. Ok (next (with_memory t memory)))) e'

pub let-go-done : (s : State) (i next_at : ℕ) (x y : Instance) (b : ℕ) (o : Offset) (m : List MemoryBlock) (instances : List Instance) → slice_get s.instances i ≡ Some x → slice_get s.instances i ≡ Some y → x.block ≡ b → deallocated (disown (without_slots s.world.memory y.slots) b) (Value.Ptr (Pointer.At b o)) ≡ Ok m → instances ≡ slice_set s.instances i (record x { freed = true }) → next_at ≡ s.top.at + 1 → let_go_at s i x (Value.Ptr (Pointer.At b o)) ≡ Ok (record s { world = record s.world { memory = m }; instances = instances; top = record s.top { at = next_at } })
let-go-done s i next_at x y b o m instances gx gy at e is n =
    let same : y ≡ x = same-some (sym gy ∙ gx) in
    let e' : deallocated (disown (without_slots s.world.memory x.slots) b) (Value.Ptr (Pointer.At b o)) ≡ Ok m =
    ap (λ (z : Instance). deallocated (disown (without_slots s.world.memory z.slots) b) (Value.Ptr (Pointer.At b o))) (sym same) ∙ e in
    let t : State = with_memory (record s { instances = slice_set s.instances i (record x { freed = true }) }) (disown (without_slots s.world.memory x.slots) b) in
    ap (after_letting_go s i x (Value.Ptr (Pointer.At b o))) at
    ∙ ap (λ r. and_then r (λ memory. Ok (next (with_memory t memory)))) e'
    ∙ ap (λ (l : List Instance). Ok (record s { world = record s.world { memory = m }; instances = l; top = record s.top { at = s.top.at + 1 } })) (sym is)
    ∙ ap (λ k. Ok (record s { world = record s.world { memory = m }; instances = instances; top = record s.top { at = k } })) (sym n)

and-first : (a b : Bool) → (a && b) ≡ true → a ≡ true
and-first true b e = refl
and-first false b e = e

pub began-there : (b o : ℕ) (x : Instance) → began_at b o x ≡ true → x.block ≡ b
began-there b o x e = eqb-true x.block b (and-first (x.block == b) (x.start == o) e)

abbrev deallocated_with : State → Value → Option (ℕ × Instance) → Result State Cause
deallocated_with s p f =
    let s' = if_let_go s f in and_then (deallocated s'.world.memory p) (λ memory. Ok (next (with_memory s' memory)))

lets-go : (s : State) (p : Value) (i : ℕ) (x : Instance) (v : Bool) → v ≡ true → (let s' : State = if v then let_go s i x else s in and_then (deallocated s'.world.memory p) (λ memory. Ok (next (with_memory s' memory)))) ≡ let_go_at s i x p
lets-go s p i x true e = refl
lets-go s p i x false e = absurd (false≢true e)

pub freed-by-own : (s : State) (p : Value) (i : ℕ) (x : Instance) → instance_at s.instances p ≡ Some (i, x) → may_be_freed x ≡ true → deallocate s p ≡ let_go_at s i x p
freed-by-own s p i x at may = ap (deallocated_with s p) at ∙ lets-go s p i x (may_be_freed x) may

pub own-done : (s t : State) (p : Value) (i : ℕ) (x : Instance) (r : Result (Unit {0}) Cause) → deallocate s p ≡ let_go_at s i x p → OnOk r (let_go_at s i x p ≡ Ok t) → OnOk r (deallocate s p ≡ Ok t)
own-done s t p i x (Ok u) e h = e ∙ h
own-done s t p i x (Err cause) e h = tt

pub own-refused : (s : State) (p : Value) (i : ℕ) (x : Instance) (r : Result (Unit {0}) Cause) → deallocate s p ≡ let_go_at s i x p → IfErr r (λ cause. let_go_at s i x p ≡ Err cause) → IfErr r (λ cause. deallocate s p ≡ Err cause)
own-refused s p i x (Ok u) e h = tt
own-refused s p i x (Err cause) e h = e ∙ h

pub found-is : (s : State) (b : ℕ) (o : Offset) (i : ℕ) (x : Instance) → last_from (began_at b o.bits) 0 s.instances ≡ Some i → slice_get s.instances i ≡ Some x → instance_at s.instances (Value.Ptr (Pointer.At b o)) ≡ Some (i, x)
found-is s b o i x e g = ap (λ (k : Option ℕ). option_and_then (numbered s.instances) k) e ∙ numbered-by i x (slice_get s.instances i) g
