-- What laws on frames ask of the slots and frames of a run holds in each of its states.
use Rattle.std.proofs.Common.{◌≡◌, ◌+◌, ◌≤◌, ◌⊎◌, inl, inr, ℕ, zero, suc, Bool, true, false, List, [], ◌∷◌}
use Rattle.std.proofs.Common.{Option, Some, None, refl, sym, ap, ◌∙◌, subst, arith}
use Rattle.std.specs.List.{Contains}
use Rattle.std.specs.Option.{option_map_or}
use Rattle.std.specs.Prelude.{map, slice_get, ◌==◌, ◌||◌}
use Rattle.pass_frames_proof.specs.flow_solver.Paths.{IsListed}
use Rattle.pass_frames_proof.specs.ir_laws.paths.woven_rules.Pairs.{AreDifferent}
use Rattle.pass_frames_proof.proofs.allocating.Grown.{listed_in}
use Rattle.pass_frames_proof.proofs.lines.Cells.{contained}
use Rattle.pass_frames_proof.specs.Asking.{AreInstancesPlaced}
use Rattle.pass_frames_proof.specs.Related.{all_slots, is_slot, slots_below}
use Rattle.pass_frames_proof.specs.Returning.{HasOwnSlots, HasSlotKinds, HasSlotsListed, IsAmong, is_own_kind}
use Rattle.pass_frames_proof.specs.Slotted.{HasListedSlots, HasSlotsApart, HasSlotsThere, IsSlotSomewhere, OfActivation, OfInstance}
use Rattle.pass_frames_proof.specs.run_memory.Memory.{is_killed, is_live, same_kind}
use Rattle.pass_frames_proof.specs.run_memory.declared.block.Kind.{Kind}
use Rattle.pass_frames_proof.specs.run_memory.declared.block.Life.{Life}
use Rattle.pass_frames_proof.specs.run_memory.declared.block.MemoryBlock.{MemoryBlock}
use Rattle.run_slots.proofs.Times.{equal_is, itself, same_there, there_below, times_joined}
use Rattle.run_slots.specs.Slots.{IsSlotBlock, IsSlottedState, is_alloca_block, is_killed_at, is_killed_in, once_if, times, times_in, times_on}
use Rattle.pass_frames_proof.specs.run_source.Source.{is_live_at}
use Rattle.pass_frames_proof.specs.run_source.declared.state.Activation.{Activation}
use Rattle.pass_frames_proof.specs.run_source.declared.state.Instance.{Instance}
use Rattle.pass_frames_proof.specs.run_source.declared.state.State.{State}
use Rattle.pass_frames_proof.specs.run_step.declared.world.Slot.{Slot}

-- ---- how many, and which

pub listed_times : (ss : List Slot) (slot : Slot) → IsListed slot ss → 1 ≤ times slot.block ss
listed_times [] slot l = absurd l
listed_times (s ∷ ss) slot (inl e) =
    let k : once_if (s.block == slot.block) ≡ 1 =
    ap (λ (x : Slot). once_if (s.block == x.block)) e ∙ ap once_if (itself s.block) in
    omega (arith, k)
listed_times (s ∷ ss) slot (inr l) = let k = listed_times ss slot l in omega (arith, k)

-- one of them has the block
pub record IsOneOf (ss : List Slot) (n : ℕ) : Type 0 where
  pub slot : Slot
  pub listed : IsListed slot ss
  pub is : slot.block ≡ n

pub times_slot : (n : ℕ) (ss : List Slot) → 1 ≤ times n ss → IsOneOf ss n
times_slot n [] c = absurd (omega (arith, c))
times_slot n (s ∷ ss) c = on (s.block == n) refl (λ k. times_slot n ss k)
  where
    later : IsOneOf ss n → IsOneOf (s ∷ ss) n
    later k = record { slot = k.slot; listed = inr k.listed; is = k.is }

    on : (t : Bool) → (s.block == n) ≡ t → (1 ≤ times n ss → IsOneOf ss n) → IsOneOf (s ∷ ss) n
    on true d rest = record { slot = s; listed = inl refl; is = equal_is s.block n d }
    on false d rest =
        let z : once_if (s.block == n) ≡ 0 = ap once_if d in later (rest (omega (arith, z, c)))

pub times_among : (n : ℕ) (ss : List Slot) → 1 ≤ times n ss → IsAmong n ss
times_among n ss c = let k = times_slot n ss c in in_map ss k.slot k.listed k.is
  where
    in_map : (ss : List Slot) (slot : Slot) → IsListed slot ss → slot.block ≡ n → IsAmong n ss
    in_map [] slot l e = absurd l
    in_map (s ∷ ss) slot (inl d) e = inl (sym e ∙ ap (λ (x : Slot). x.block) d)
    in_map (s ∷ ss) slot (inr l) e = inr (in_map ss slot l e)

pub among_times : (n : ℕ) (ss : List Slot) → IsAmong n ss → 1 ≤ times n ss
among_times n [] l = absurd l
among_times n (s ∷ ss) (inl e) =
    let k : once_if (s.block == n) ≡ 1 = ap (λ (b : ℕ). once_if (s.block == b)) e ∙ ap once_if (itself s.block) in
    omega (arith, k)
among_times n (s ∷ ss) (inr l) = let k = among_times n ss l in omega (arith, k)

-- no two have one block
pub times_different : (ss : List Slot) → ((n : ℕ) → times n ss ≤ 1) → AreDifferent (map (λ (slot : Slot). slot.block) ss)
times_different [] h = tt
times_different (s ∷ ss) h = (
  λ l.
      let a = among_times s.block ss l in
      let b : once_if (s.block == s.block) ≡ 1 = ap once_if (itself s.block) in
      let c = h s.block in
      absurd (omega (arith, a, b, c)),
  times_different ss (λ n. let c = h n in omega (arith, c)),
)

times_below : (n : ℕ) (cs : List Activation) → times n (slots_below cs) ≡ times_on cs n
times_below n [] = refl
times_below n (c ∷ cs) = times_joined n c.slots (slots_below cs) ∙ ap (λ (k : ℕ). times n c.slots + k) (times_below n cs)

times_all : (n : ℕ) (s : State) → times n (all_slots s) ≡ times_on (s.top ∷ s.below) n
times_all n s = times_below n (s.top ∷ s.below)

-- an activation among these has the slot
record IsOnOne (cs : List Activation) (n : ℕ) : Type 0 where
  pub activation : Activation
  pub listed : IsListed activation cs
  pub one : 1 ≤ times n activation.slots

on_one : (n : ℕ) (cs : List Activation) → 1 ≤ times_on cs n → IsOnOne cs n
on_one n [] c = absurd (omega (arith, c))
on_one n (a ∷ cs) c = on (times n a.slots) refl (λ k. on_one n cs k)
  where
    later : IsOnOne cs n → IsOnOne (a ∷ cs) n
    later k = record { activation = k.activation; listed = inr k.listed; one = k.one }

    on : (k : ℕ) → times n a.slots ≡ k → (1 ≤ times_on cs n → IsOnOne cs n) → IsOnOne (a ∷ cs) n
    on zero e rest = later (rest (omega (arith, e, c)))
    on (suc k) e rest = record { activation = a; listed = inl refl; one = omega (arith, e) }

one_on : (n : ℕ) (cs : List Activation) (a : Activation) → IsListed a cs → times n a.slots ≤ times_on cs n
one_on n [] a l = absurd l
one_on n (c ∷ cs) a (inl e) =
    let k : times n a.slots ≡ times n c.slots = ap (λ (x : Activation). times n x.slots) e in omega (arith, k)
one_on n (c ∷ cs) a (inr l) = let k = one_on n cs a l in omega (arith, k)

-- an instance has it
record IsInOne (xs : List Instance) (n : ℕ) : Type 0 where
  pub number : ℕ
  pub instance : Instance
  pub there : slice_get xs number ≡ Some instance
  pub one : 1 ≤ times n instance.slots

in_one : (n : ℕ) (xs : List Instance) → 1 ≤ times_in n xs → IsInOne xs n
in_one n [] c = absurd (omega (arith, c))
in_one n (x ∷ xs) c = on (times n x.slots) refl (λ k. in_one n xs k)
  where
    later : IsInOne xs n → IsInOne (x ∷ xs) n
    later k = record { number = suc k.number; instance = k.instance; there = k.there; one = k.one }

    on : (k : ℕ) → times n x.slots ≡ k → (1 ≤ times_in n xs → IsInOne xs n) → IsInOne (x ∷ xs) n
    on zero e rest = later (rest (omega (arith, e, c)))
    on (suc k) e rest = record { number = 0; instance = x; there = refl; one = omega (arith, e) }

-- ---- states

live_unkilled : (l : Life) → is_live l ≡ true → is_killed l ≡ false
live_unkilled Life.Live e = refl
live_unkilled Life.Ended e = absurd (cc)
live_unkilled Life.Killed e = absurd (cc)

killed_dead : (l : Life) → is_killed l ≡ true → is_live l ≡ false
killed_dead Life.Live e = absurd (cc)
killed_dead Life.Ended e = absurd (cc)
killed_dead Life.Killed e = refl

made_by_alloca : (x : MemoryBlock) → is_slot x ≡ true → is_alloca_block x ≡ true
made_by_alloca x e = ap (λ (b : Bool). b || same_kind x.kind Kind.Stack) e

module _ (s : State) (h : IsSlottedState s) where
  -- a slot of an activation
  pub one_of : (a : Activation) → IsListed a (s.top ∷ s.below) → (slot : Slot) → Contains a.slots slot
      → 1 ≤ times_on (s.top ∷ s.below) slot.block
  one_of a l slot c =
      let k = listed_times a.slots slot (contained a.slots slot c) in
      let o = one_on slot.block (s.top ∷ s.below) a l in
      omega (arith, k, o)

  pub block_of : (n : ℕ) → 1 ≤ times_on (s.top ∷ s.below) n → IsSlotBlock s.world.memory n
  block_of n c = h.slotted.there n (omega (arith, c))

  pub slots_there : HasSlotsThere s
  slots_there = record {
    each = λ slot c.
        let k : 1 ≤ times_on (s.top ∷ s.below) slot.block =
        subst (λ (n : ℕ). 1 ≤ n) (times_all slot.block s)
        (listed_times (all_slots s) slot (contained (all_slots s) slot c)) in
        let b = block_of slot.block k in
        there_below s.world.memory slot.block b.block b.there;
  }

  pub slots_once : AreDifferent (map (λ (slot : Slot). slot.block) (all_slots s))
  slots_once = times_different (all_slots s) (λ n.
      let a = times_all n s in
      let c = h.slotted.once n in
      omega (arith, a, c))

  -- whose it is
  somewhere : (n : ℕ) → 1 ≤ times_on (s.top ∷ s.below) n + times_in n s.instances
      → IsOnOne (s.top ∷ s.below) n ⊎ IsInOne s.instances n
  somewhere n c = on (times_on (s.top ∷ s.below) n) refl
    where
      on : (k : ℕ) → times_on (s.top ∷ s.below) n ≡ k → IsOnOne (s.top ∷ s.below) n ⊎ IsInOne s.instances n
      on zero e = inr (in_one n s.instances (omega (arith, e, c)))
      on (suc k) e = inl (on_one n (s.top ∷ s.below) (omega (arith, e)))

  pub listed_slots : HasListedSlots s
  listed_slots = record {
    each = λ n x there live slot.
        on n (somewhere n (h.slotted.listed n x there (made_by_alloca x slot) (live_unkilled x.life live)));
  }
    where
      by_activation : (n : ℕ) (a : Activation) → IsListed a (s.top ∷ s.below) → IsOneOf a.slots n → IsSlotSomewhere s n
      by_activation n a l k = OfActivation a l k.slot (listed_in a.slots k.slot k.listed) k.is

      on : (n : ℕ) → IsOnOne (s.top ∷ s.below) n ⊎ IsInOne s.instances n → IsSlotSomewhere s n
      on n (inl k) = by_activation n k.activation k.listed (times_slot n k.activation.slots k.one)
      on n (inr k) =
          let o = times_slot n k.instance.slots k.one in
          OfInstance k.number k.instance k.there o.slot (listed_in k.instance.slots o.slot o.listed) o.is

  heap_no_slot : (k : ℕ) (p : Instance) → slice_get s.instances k ≡ Some p
      → (z : MemoryBlock) × (slice_get s.world.memory p.block ≡ Some z) × (is_own_kind z ≡ false)
  heap_no_slot k p e =
      let f = h.slotted.frames k p e in
      (f.block, f.there, ap (λ (k : Kind). same_kind k Kind.Slot || same_kind k Kind.Stack) f.heap)

  pub slots_listed : HasSlotsListed s
  slots_listed = record {
    listed = λ n z there lives own. on n (somewhere n (h.slotted.listed n z there own lives));
    frames = heap_no_slot;
  }
    where
      on : (n : ℕ) → IsOnOne (s.top ∷ s.below) n ⊎ IsInOne s.instances n
          → ((a : Activation) × IsListed a (s.top ∷ s.below) × IsAmong n a.slots)
          ⊎ ((k : ℕ) × (p : Instance) × (slice_get s.instances k ≡ Some p) × IsAmong n p.slots)
      on n (inl k) = inl (k.activation, k.listed, times_among n k.activation.slots k.one)
      on n (inr k) = inr (k.number, k.instance, k.there, times_among n k.instance.slots k.one)

  pub slots_apart : HasSlotsApart s
  slots_apart = record {
    each = λ a l slot c i y e same.
        let b = block_of slot.block (one_of a l slot c) in
        let z = heap_no_slot i y e in
        let k : z.0 ≡ b.block = same_there (slice_get s.world.memory slot.block) z.0 b.block
        (subst (λ (n : ℕ). slice_get s.world.memory n ≡ Some z.0) same z.1) b.there in
        let no : is_own_kind z.0 ≡ true = subst (λ (x : MemoryBlock). is_own_kind x ≡ true) (sym k) b.made in
        let heap : is_own_kind z.0 ≡ false = z.2 in
        absurd (cc);
  }

  pub own_slots : HasOwnSlots s
  own_slots = record {
    each = λ slot c.
        let o = one_of s.top (inl refl) slot c in
        let b = block_of slot.block o in
        (b.block, b.there, b.made, sym (ap is_killed_in b.there) ∙ h.slotted.fresh slot.block o);
  }

  pub slot_kinds : HasSlotKinds s
  slot_kinds = record { each = λ slot c. let k = own_slots.each slot c in (k.0, k.1, k.2) }

  pub instances_placed : AreInstancesPlaced s
  instances_placed = record {
    starts = λ i x e. (h.slotted.frames i x e).start;
    heaps = λ i x z e d.
        let f = h.slotted.frames i x e in
        let k : f.block ≡ z = same_there (slice_get s.world.memory x.block) f.block z f.there d in
        subst (λ (y : MemoryBlock). y.kind ≡ Kind.Allocator) k f.heap;
    apart = h.slotted.apart;
    dead = λ i x slot e o c.
        dead slot.block
        (h.slotted.over i x e o slot.block (listed_times x.slots slot (contained x.slots slot c)));
  }
    where
      dead : (n : ℕ) → is_killed_at s.world.memory n ≡ true → is_live_at s.world.memory n ≡ false
      dead n = on (slice_get s.world.memory n)
        where
          on : (o : Option MemoryBlock) → is_killed_in o ≡ true → option_map_or (λ x. is_live x.life) o false ≡ false
          on None k = refl
          on (Some x) k = killed_dead x.life k
