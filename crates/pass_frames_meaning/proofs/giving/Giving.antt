-- No frame of an instance that is suspended lies in a block that is given back, nor does a slot live there.
use Rattle.std.proofs.Common.{◌≡◌, ◌⊎◌, inl, inr, ℕ, zero, suc, ◌+◌, ◌<◌, Bool, true, false, List, [], ◌∷◌, length, not, Option, Some, None, Result, Ok, Err, refl, sym, ap, ◌∙◌, subst, arith, ◌&&◌, ◌||◌, ◌==◌, if◌then◌else◌}
use Rattle.std.specs.List.{Contains}
use Rattle.std.specs.Option.{option_map_or}
use Rattle.std.specs.Prelude.{◌≢◌, option_and_then, option_map, slice_get}
use Rattle.std.proofs.lemmas.Bool.{eq-eqb, eqb-true, false≢true}
use Rattle.std.proofs.lemmas.Option.{slice_get_within}
use Rattle.pass_frames_proof.specs.flow_solver.Paths.{IsListed}
use Rattle.pass_frames_proof.specs.ir_base.declared.cause.Cause.{Cause}
use Rattle.pass_frames_proof.proofs.ir_laws.facts.Truth.{and_both, and_first, and_second, both_true}
use Rattle.pass_frames_meaning.proofs.spared.Spared.{IsBeside, beside, shown_live}
use Rattle.pass_frames_meaning.specs.Giving.{AreFramesOwned, HasNoHeapSlots, HasNoReturns}
use Rattle.pass_frames_proof.proofs.followed.Assembly.{other_instance}
use Rattle.pass_frames_proof.proofs.heaps.Killed.{WasThere, slots_were}
use Rattle.pass_frames_proof.proofs.lines.Cells.{contained}
use Rattle.pass_frames_proof.specs.Asking.{AreInstancesPlaced}
use Rattle.pass_frames_proof.specs.Heaps.{IsGivingBack, MayGiveBack, slots_let_go}
use Rattle.pass_frames_proof.specs.Places.{offsets}
use Rattle.pass_frames_proof.specs.Related.{AreBuiltOf, Building, IsSlotBy, is_coroutine, is_slot}
use Rattle.pass_frames_proof.specs.Returning.{HasSlotsListed}
use Rattle.pass_frames_proof.specs.Slotted.{HasListedSlots, IsSlotSomewhere, OfActivation, OfInstance}
use Rattle.pass_frames_proof.specs.pass_proofs.addresses.rules.Addresses.{lies_in_frame}
use Rattle.pass_frames_proof.proofs.pass_renewed_proof.Finishing.{found_in}
use Rattle.pass_frames_proof.proofs.pass_renewed_proof.Freeing.{IsKilledAt, found_passes, killed_at}
use Rattle.pass_frames_proof.proofs.run_laws.memory.Written.{same_some}
use Rattle.pass_frames_proof.specs.run_laws.embedded.Making.{whole_home}
use Rattle.pass_frames_proof.specs.run_laws.embedded.Marks.{LivesAlone}
use Rattle.pass_frames_proof.specs.run_laws.memory.Pointers.{Home, home_of}
use Rattle.pass_frames_proof.specs.run_laws.transfer.Muted.{muted}
use Rattle.pass_frames_proof.specs.run_memory.Memory.{is_killed, is_live, is_owned, is_unkilled, killed, killed_block, same_kind}
use Rattle.pass_frames_proof.specs.run_memory.declared.block.Kind.{Kind}
use Rattle.pass_frames_proof.specs.run_memory.declared.block.MemoryBlock.{MemoryBlock}
use Rattle.pass_frames_proof.specs.run_memory.declared.pointer.Offset.{Offset}
use Rattle.pass_frames_proof.specs.run_memory.declared.pointer.Pointer.{Pointer}
use Rattle.pass_frames_proof.specs.run_memory.declared.pointer.Value.{Value}
use Rattle.pass_frames_proof.specs.run_source.Indexes.{last_from, or_else}
use Rattle.pass_frames_proof.specs.run_source.Source.{deallocate, if_let_go, is_live_at, is_over, let_go, may_be_freed}
use Rattle.pass_frames_proof.specs.run_source.State.{began_at, instance_at, is_finished, is_suspended, next, numbered, with_memory}
use Rattle.pass_frames_proof.specs.run_source.declared.state.Activation.{Activation}
use Rattle.pass_frames_proof.specs.run_source.declared.state.Instance.{Instance}
use Rattle.pass_frames_proof.specs.run_source.declared.state.State.{State}
use Rattle.pass_frames_proof.specs.run_step.Results.{and_then}
use Rattle.pass_frames_proof.specs.run_step.Step.{deallocated, without_slots}
use Rattle.pass_frames_proof.specs.run_step.declared.world.Slot.{Slot}

-- ---- the last one that passes

record IsLast (test : Instance → Bool) (k : ℕ) (xs : List Instance) : Type 0 where
  number : ℕ
  instance : Instance
  is : last_from test k xs ≡ Some (k + number)
  there : slice_get xs number ≡ Some instance
  passes : test instance ≡ true

one_on : (test : Instance → Bool) (k : ℕ) (z : Instance) (xs : List Instance) → IsLast test (suc k) xs
    → IsLast test k (z ∷ xs)
one_on test k z xs h =
    let more : suc k + h.number ≡ k + suc h.number = omega arith in
    record {
      number = suc h.number;
      instance = h.instance;
      is = ap (λ (o : Option ℕ). or_else o (if test z then Some k else None)) h.is ∙ ap Some more;
      there = h.there;
      passes = h.passes;
    }

here_last : (test : Instance → Bool) (k : ℕ) (z : Instance) (xs : List Instance) → last_from test (suc k) xs ≡ None
    → test z ≡ true → IsLast test k (z ∷ xs)
here_last test k z xs none p =
    let first : k ≡ k + 0 = omega arith in
    record {
      number = 0;
      instance = z;
      is = ap (λ (o : Option ℕ). or_else o (if test z then Some k else None)) none
          ∙ ap (λ (b : Bool). if b then Some k else None) p
          ∙ ap Some first;
      there = refl;
      passes = p;
    }

last_found : (test : Instance → Bool) (k : ℕ) (xs : List Instance) (j : ℕ) → last_from test k xs ≡ Some j
    → IsLast test k xs
last_found test k [] j e = absurd (cc)
last_found test k (z ∷ xs) j e = on (last_found test (suc k) xs) (last_from test (suc k) xs) refl e
  where
    here : (b : Bool) → test z ≡ b → last_from test (suc k) xs ≡ None → (if b then Some k else None) ≡ Some j
        → IsLast test k (z ∷ xs)
    here true p none h = here_last test k z xs none p
    here false p none h = absurd (cc)

    on : ((l : ℕ) → last_from test (suc k) xs ≡ Some l → IsLast test (suc k) xs) → (o : Option ℕ)
        → last_from test (suc k) xs ≡ o → or_else o (if test z then Some k else None) ≡ Some j
        → IsLast test k (z ∷ xs)
    on more (Some l) d h = one_on test k z xs (more l d)
    on more None d h = here (test z) refl d h

last_there : (test : Instance → Bool) (k : ℕ) (xs : List Instance) (i : ℕ) (x : Instance) → slice_get xs i ≡ Some x
    → test x ≡ true → IsLast test k xs
last_there test k [] i x e p = absurd (cc)
last_there test k (z ∷ xs) (suc i) x e p = one_on test k z xs (last_there test (suc k) xs i x e p)
last_there test k (z ∷ xs) zero x e p =
    let same : z ≡ x = cc in
    on (ap test same ∙ p) (last_from test (suc k) xs) refl
  where
    on : test z ≡ true → (o : Option ℕ) → last_from test (suc k) xs ≡ o → IsLast test k (z ∷ xs)
    on q None d = here_last test k z xs d q
    on q (Some j) d = one_on test k z xs (last_found test (suc k) xs j d)

-- ---- blocks that have died

killed_dead : (m : List MemoryBlock) (d : ℕ) (x : MemoryBlock) → slice_get (killed m d) d ≡ Some x
    → is_live x.life ≡ false
killed_dead [] d x e = absurd (cc)
killed_dead (y ∷ m) zero x e =
    let same : killed_block y ≡ x = same_some (killed_block y) x e in ap (λ (z : MemoryBlock). is_live z.life) (sym same)
killed_dead (y ∷ m) (suc d) x e = killed_dead m d x e

-- a slot of a list of which all are killed is dead
slot_dead : (m : List MemoryBlock) (slots : List Slot) (slot : Slot) (z : MemoryBlock) → IsListed slot slots
    → slice_get (without_slots m slots) slot.block ≡ Some z → is_live z.life ≡ false
slot_dead m [] slot z l e = absurd l
slot_dead m (s ∷ slots) slot z (inr l) e = slot_dead (killed m s.block) slots slot z l e
slot_dead m (s ∷ slots) slot z (inl same) e = on h.is
  where
    h : WasThere (killed m s.block) (λ c. (q : Slot) × Contains slots q × (q.block ≡ c)) slot.block z
    h = slots_were (killed m s.block) slots slot.block z e

    old_dead : is_live h.old.life ≡ false
    old_dead =
        killed_dead m s.block h.old
        (ap (slice_get (killed m s.block)) (ap (λ (q : Slot). q.block) (sym same)) ∙ h.there)

    on : (z ≡ h.old) ⊎ ((z ≡ killed_block h.old) × ((q : Slot) × Contains slots q × (q.block ≡ slot.block)))
        → is_live z.life ≡ false
    on (inl a) = ap (λ (u : MemoryBlock). is_live u.life) a ∙ old_dead
    on (inr a) = ap (λ (u : MemoryBlock). is_live u.life) a.0

-- ---- what was executed

record IsKilling (z : State) (p : Value) : Type 0 where
  memory : List MemoryBlock
  is : deallocated z.world.memory p ≡ Ok memory

killing : (z : State) (p : Value) (after : State)
    → and_then (deallocated z.world.memory p) (λ memory. Ok (next (with_memory z memory))) ≡ Ok after → IsKilling z p
killing z p after e = on (deallocated z.world.memory p) refl e
  where
    on : (w : Result (List MemoryBlock) Cause) → deallocated z.world.memory p ≡ w
        → and_then w (λ memory. Ok (next (with_memory z memory))) ≡ Ok after → IsKilling z p
    on (Err cause) d h = absurd (cc)
    on (Ok memory) d h = record { memory = memory; is = d }

-- ---- the states

module _ (b : Building) (s t : State) (r : AreBuiltOf b s t) (live : HasListedSlots s) (listed : HasSlotsListed s)
    (placed : AreInstancesPlaced s) (owned : AreFramesOwned s) (heapless : HasNoHeapSlots t) (n k : ℕ) (o : Offset)
    (home : home_of r.homes n ≡ whole_home k) (after : State)
    (does : deallocate s (Value.Ptr (Pointer.At n o)) ≡ Ok after) where
  abbrev P : Value
  P = Value.Ptr (Pointer.At n o)

  abbrev Q : Option (ℕ × Instance)
  Q = instance_at s.instances P

  -- what is executed where no instance is let go
  kept : if_let_go s Q ≡ s → IsKilledAt s.world.memory n o (killed s.world.memory n)
  kept e =
      let h = killing s P after (subst (λ (z : State). and_then (deallocated z.world.memory P)
      (λ memory. Ok (next (with_memory z memory))) ≡ Ok after) e does) in
      let K = killed_at s.world.memory n o h.memory h.is in
      record { start = K.start; unkilled = K.unkilled; free = K.free; is = refl }

  at_start : (o.bits == 0) ≡ true
  at_start =
      let h = killing (if_let_go s Q) P after does in
      (killed_at (if_let_go s Q).world.memory n o h.memory h.is).start

  -- an instance that began in the block was freed, or is let go now
  began : (i : ℕ) (x : Instance) → slice_get s.instances i ≡ Some x → x.block ≡ n
      → (x.freed ≡ true) ⊎ ((may_be_freed x ≡ true) × (Q ≡ Some (i, x)))
  began i x e same = on x.freed refl
    where
      zero_start : x.start ≡ o.bits
      zero_start = placed.starts i x e ∙ sym (eqb-true o.bits 0 at_start)

      passes : began_at n o.bits x ≡ true
      passes = and_both (x.block == n) (x.start == o.bits) (eq-eqb x.block n same) (eq-eqb x.start o.bits zero_start)

      h : IsLast (began_at n o.bits) 0 s.instances
      h = last_there (began_at n o.bits) 0 s.instances i x e passes

      number_is : h.number ≡ i
      number_is =
          placed.apart h.number i h.instance x h.there e
          (eqb-true h.instance.block n
          (and_first (h.instance.block == n) (h.instance.start == o.bits) h.passes) ∙ sym same)

      found : Q ≡ Some (i, x)
      found =
          let first : 0 + h.number ≡ i = omega (arith, number_is) in
          ap (λ (a : Option ℕ). in_list a) (h.is ∙ ap Some first) ∙ ap (option_map (λ (z : Instance). (i, z))) e
        where
          in_list : Option ℕ → Option (ℕ × Instance)
          in_list a = option_and_then (numbered s.instances) a

      on : (u : Bool) → x.freed ≡ u → (x.freed ≡ true) ⊎ ((may_be_freed x ≡ true) × (Q ≡ Some (i, x)))
      on true d = inl d
      on false d = inr (by (may_be_freed x) refl)
        where
          by : (u : Bool) → may_be_freed x ≡ u → (may_be_freed x ≡ true) × (Q ≡ Some (i, x))
          by true lets = (lets, found)
          by false stays =
              let stay : if_let_go s Q ≡ s =
              ap (if_let_go s) found ∙ ap (λ (u : Bool). if u then let_go s i x else s) stays in
              let no : true ≡ false =
              sym (owned.each i x e d) ∙ ap (λ (m : ℕ). is_owned (slice_get s.world.memory m)) same
              ∙ (kept stay).free in
              absurd (cc)

  owners : (i : ℕ) (x : Instance) → slice_get s.instances i ≡ Some x → is_suspended x.status ≡ true
      → x.freed ≡ false → x.block ≢ n
  owners i x e asleep unfreed same = on (began i x e same)
    where
      on : (x.freed ≡ true) ⊎ ((may_be_freed x ≡ true) × (Q ≡ Some (i, x))) → ⊥
      on (inl h) = false≢true (sym unfreed ∙ h)
      on (inr h) =
          false≢true (ap not (sym asleep) ∙ and_second x.released (not (is_suspended x.status)) h.0)

  -- the block is one of an allocator
  record IsHeapBlock : Type 0 where
    block : MemoryBlock
    there : slice_get s.world.memory n ≡ Some block
    heap : same_kind block.kind Kind.Allocator ≡ true

  heap_by : (q : Option MemoryBlock) → slice_get s.world.memory n ≡ q → is_unkilled Kind.Allocator q ≡ true → IsHeapBlock
  heap_by None d h = absurd (cc)
  heap_by (Some z) d h = record {
    block = z;
    there = d;
    heap = (both_true (same_kind z.kind Kind.Allocator) (not (is_killed z.life)) h).0;
  }

  heap : IsHeapBlock
  heap = on Q refl
    where
      stays : if_let_go s Q ≡ s → IsHeapBlock
      stays e = heap_by (slice_get s.world.memory n) refl (kept e).unkilled

      on : (q : Option (ℕ × Instance)) → Q ≡ q → IsHeapBlock
      on None d = stays (ap (if_let_go s) d)
      on (Some (i, x)) d = by (may_be_freed x) refl
        where
          by : (u : Bool) → may_be_freed x ≡ u → IsHeapBlock
          by false e = stays (ap (if_let_go s) d ∙ ap (λ (u : Bool). if u then let_go s i x else s) e)
          by true e =
              let there : slice_get s.instances i ≡ Some x =
              found_in s.instances (last_from (began_at n o.bits) 0 s.instances) (i, x) d in
              let passes : began_at n o.bits x ≡ true =
              found_passes (began_at n o.bits) s.instances (i, x) d in
              let at : x.block ≡ n = eqb-true x.block n (and_first (x.block == n) (x.start == o.bits) passes) in
              let f = listed.frames i x there in
              record {
                block = f.0;
                there = ap (slice_get s.world.memory) (sym at) ∙ f.1;
                heap = ap (λ (z : Kind). same_kind z Kind.Allocator) (placed.heaps i x f.0 there f.1);
              }

  low : n < length s.world.memory
  low = slice_get_within s.world.memory n heap.block heap.there

  -- no slot of the framed run has it
  no_alloca : (c : Activation) → IsListed c (t.top ∷ t.below) → (slot : Slot) → Contains c.slots slot → slot.block ≢ k
  no_alloca c l slot h same =
      let e = r.mates.each n k heap.block heap.there home in
      false≢true (sym (heapless.each c l slot h (record heap.block { bytes = e.0 })
      (ap (slice_get t.world.memory) same ∙ e.1)) ∙ heap.heap)

  -- ---- what would live in its home

  of_activation : (c : ℕ) → r.hides c ≡ false → (home_of r.homes c).block ≡ k → (a : Activation)
      → IsListed a (s.top ∷ s.below) → (slot : Slot) → Contains a.slots slot → slot.block ≡ c → ⊥
  of_activation c shown at a l slot h same =
      let z = beside b s t r a l in
      by z (is_coroutine b a.func && lies_in_frame (offsets (b.framing a.func)) slot.alloca) (z.slots slot h)
    where
      here : (home_of r.homes slot.block).block ≡ k
      here = ap (λ (m : ℕ). (home_of r.homes m).block) same ∙ at

      by : (z : IsBeside b s t r a) (q : Bool) → IsSlotBy b r.homes r.hides a z.beside slot q → ⊥
      by z true (inl x) = false≢true (sym shown ∙ ap r.hides (sym same) ∙ x.0)
      by z true (inr x) = no_alloca z.beside z.listed (record { alloca = x.0.temporary; block = x.1 }) x.4
          (sym (ap (λ (m : Home). m.block) x.5) ∙ here)
      by z false x = no_alloca z.beside z.listed (record { alloca = slot.alloca; block = x.block }) x.own
          (sym (ap (λ (m : Home). m.block) x.home) ∙ here)

  or_right : (u : Bool) → (u || true) ≡ true
  or_right true = refl
  or_right false = refl

  of_instance : (c : ℕ) (z old : MemoryBlock) → slice_get s.world.memory c ≡ Some old → is_live old.life ≡ true
      → slice_get (without_slots s.world.memory (slots_let_go Q)) c ≡ Some z → is_live z.life ≡ true
      → (home_of r.homes c).block ≡ k → (i : ℕ) (x : Instance) → slice_get s.instances i ≡ Some x → (slot : Slot)
      → Contains x.slots slot → slot.block ≡ c → ⊥
  of_instance c z old old_there old_lives there lives at i x e slot h same =
      let w = other_instance b s t r i x e in
      let place = w.2.slots slot h in
      let y_is : w.0.block ≡ k =
      sym (ap (λ (m : Home). m.block) place.home) ∙ ap (λ (m : ℕ). (home_of r.homes m).block) same ∙ at in
      let f = listed.frames i x e in
      let here : x.block ≡ n =
      r.mates.alone x.block n k (slice_get_within s.world.memory x.block f.0 f.1) low
      (w.2.block ∙ ap whole_home y_is) home in
      on (began i x e here)
    where
      on : (x.freed ≡ true) ⊎ ((may_be_freed x ≡ true) × (Q ≡ Some (i, x))) → ⊥
      on (inl gone) =
          let over : is_over x ≡ true =
          ap (λ (u : Bool). is_finished x.status || u) gone ∙ or_right (is_finished x.status) in
          let dead : is_live_at s.world.memory slot.block ≡ false = placed.dead i x slot e over h in
          let alive : is_live_at s.world.memory slot.block ≡ true =
          ap (is_live_at s.world.memory) same
          ∙ ap (λ (q : Option MemoryBlock). option_map_or (λ (u : MemoryBlock). is_live u.life) q false) old_there
          ∙ old_lives in
          false≢true (sym dead ∙ alive)
      on (inr q) =
          let slots : slots_let_go Q ≡ x.slots =
          ap slots_let_go q.1 ∙ ap (λ (u : Bool). if u then x.slots else []) q.0 in
          let l : IsListed slot (slots_let_go Q) = subst (IsListed slot) (sym slots) (contained x.slots slot h) in
          false≢true (sym (slot_dead s.world.memory (slots_let_go Q) slot z l
          (ap (slice_get (without_slots s.world.memory (slots_let_go Q))) same ∙ there)) ∙ lives)

  of_other : (c : ℕ) (old : MemoryBlock) → slice_get s.world.memory c ≡ Some old → is_slot old ≡ false
      → (home_of r.homes c).block ≡ k → c ≡ n
  of_other c old there kind at =
      let h = r.mates.whole c old there kind in
      let same : h.0 ≡ k = ap (λ (m : Home). m.block) (sym h.1) ∙ at in
      r.mates.alone c n k (slice_get_within s.world.memory c old there) low (h.1 ∙ ap whole_home same) home

  alone : LivesAlone r.homes (muted r.hides (without_slots s.world.memory (slots_let_go Q))) n
  alone c z other e lives meet = on were.is
    where
      at : (home_of r.homes c).block ≡ k
      at = meet ∙ ap (λ (h : Home). h.block) home

      shown : (r.hides c ≡ false) × (slice_get (without_slots s.world.memory (slots_let_go Q)) c ≡ Some z)
      shown = shown_live r.hides (without_slots s.world.memory (slots_let_go Q)) c z e lives

      were : WasThere s.world.memory (λ d. (q : Slot) × Contains (slots_let_go Q) q × (q.block ≡ d)) c z
      were = slots_were s.world.memory (slots_let_go Q) c z shown.1

      somewhere : is_live were.old.life ≡ true → IsSlotSomewhere s c → ⊥
      somewhere old (OfActivation a l slot h same) = of_activation c shown.0 at a l slot h same
      somewhere old (OfInstance i x there slot h same) =
          of_instance c z were.old were.there old shown.1 lives at i x there slot h same

      by : is_live were.old.life ≡ true → (u : Bool) → is_slot were.old ≡ u → ⊥
      by old true d = somewhere old (live.each c were.old were.there old d)
      by old false d = other (of_other c were.old were.there d at)

      on : (z ≡ were.old)
          ⊎ ((z ≡ killed_block were.old) × ((q : Slot) × Contains (slots_let_go Q) q × (q.block ≡ c))) → ⊥
      on (inr h) = false≢true (ap (λ (u : MemoryBlock). is_live u.life) (sym h.0) ∙ lives)
      on (inl h) = by (ap (λ (u : MemoryBlock). is_live u.life) (sym h) ∙ lives) (is_slot were.old) refl

pub given_back : (b : Building) (s t : State) (r : AreBuiltOf b s t) → HasListedSlots s → HasSlotsListed s
    → AreInstancesPlaced s → AreFramesOwned s → HasNoHeapSlots t → HasNoReturns b s → (p : Value) (after : State)
    → deallocate s p ≡ Ok after → IsGivingBack b s t r p
given_back b s t r live listed placed owned heapless none p after does = record {
  may = λ n k o is home. may n k o home
      (subst (λ (q : Value). deallocate s q ≡ Ok after) is does)
      (ap (λ (q : Value). slots_let_go (instance_at s.instances q)) (sym is));
}
  where
    may : (n k : ℕ) (o : Offset) → home_of r.homes n ≡ whole_home k → deallocate s (Value.Ptr (Pointer.At n o)) ≡ Ok after
        → slots_let_go (instance_at s.instances (Value.Ptr (Pointer.At n o))) ≡ slots_let_go (instance_at s.instances p)
        → MayGiveBack b s t r n k (slots_let_go (instance_at s.instances p))
    may n k o home d same = subst (MayGiveBack b s t r n k) same (record {
      alone = alone b s t r live listed placed owned heapless n k o home after d;
      no_alloca = no_alloca b s t r live listed placed owned heapless n k o home after d;
      inside = none;
      owners = owners b s t r live listed placed owned heapless n k o home after d;
    })
