-- A slot that isn't made anew stands with all its bytes where slots are made anew, also behind the last return.
use Rattle.std.proofs.Common.{◌≡◌, ℕ, zero, suc, ◌≤◌, true, false, List, Some, None, length, take, drop, refl, sym, ap, ◌∙◌, subst, arith}
use Rattle.std.proofs.lemmas.List.{take_all}
use Rattle.std.specs.List.{Contains}
use Rattle.std.specs.Prelude.{slice_get}
use Rattle.compiler_theorem.proofs.theorem.shown.Dying.{has_lived, stays_there, still_there}
use Rattle.compiler_theorem.proofs.theorem.shown.Renewed.{IsBoth, IsOneOfBoth, New, Old, both_slot, instance_beside, one_of_both}
use Rattle.compiler_theorem.proofs.theorem.shown.Whole.{whole_stands}
use Rattle.compiler_theorem.specs.theorem.ShownSlots.{step_homes}
use Rattle.compiler.specs.ir_model.declared.module.Module.{Module}
use Rattle.pass_frames_meaning.specs.pass_renewed_meaning.Followed.{AreInStep, Ended, Goes}
use Rattle.pass_frames_meaning.specs.pass_renewed_proof.Beside.{IsBeside, IsEarly, IsOwn, IsSeated}
use Rattle.pass_frames_meaning.specs.pass_renewed_proof.Ledger.{Seen}
use Rattle.pass_frames_meaning.specs.pass_renewed_proof.Renewed.{Flags, Roots}
use Rattle.compiler.specs.run_laws.embedded.Making.{whole_home}
use Rattle.compiler.specs.run_laws.memory.Pointers.{AreBytes, Home, home_of}
use Rattle.compiler.specs.run_memory.Memory.{is_live, owner_rights}
use Rattle.compiler.specs.run_memory.declared.block.Byte.{Byte}
use Rattle.compiler.specs.run_memory.declared.block.MemoryBlock.{MemoryBlock}
use Rattle.pass_frames_meaning.proofs.run_slots.Times.{same_there, without_back}
use Rattle.pass_frames_meaning.specs.run_slots.Slots.{times}
use Rattle.compiler.specs.run_source.Source.{returned}
use Rattle.compiler.specs.run_source.declared.state.Activation.{Activation}
use Rattle.compiler.specs.run_source.declared.state.Instance.{Instance}
use Rattle.compiler.specs.run_source.declared.state.State.{State}
use Rattle.compiler.specs.run_step.declared.world.Slot.{Slot}

-- a block with other bytes stands for another
pub record HasStanding (homes : List Home) (memory : List MemoryBlock) (c : ℕ) (x : MemoryBlock) : Type 0 where
  pub bytes : List Byte
  pub there : slice_get memory c ≡ Some (record x { bytes = bytes })
  pub full : length bytes ≡ length x.bytes
  pub stand : AreBytes homes x.bytes bytes

-- the slot of an instance stands for that of another
pub record HasSlotBeside (homes : List Home) (u : State) (i : ℕ) (x : Instance) (slot : Slot) (z : MemoryBlock)
    : Type 0 where
  pub instance : Instance
  pub there : slice_get u.instances i ≡ Some instance
  pub coroutine : instance.coroutine ≡ x.coroutine
  pub block : ℕ
  pub own : Contains instance.slots (record { alloca = slot.alloca; block = block })
  pub standing : HasStanding homes u.world.memory block z

-- the slot of an instance is at home in that of another
pub record HasSlotHome (homes : List Home) (u : State) (i : ℕ) (x : Instance) (slot : Slot) : Type 0 where
  pub instance : Instance
  pub there : slice_get u.instances i ≡ Some instance
  pub coroutine : instance.coroutine ≡ x.coroutine
  pub block : ℕ
  pub own : Contains instance.slots (record { alloca = slot.alloca; block = block })
  pub home : home_of homes slot.block ≡ whole_home block

-- and so is its own block
pub record HasOwnHome (homes : List Home) (u : State) (i : ℕ) (x : Instance) : Type 0 where
  pub instance : Instance
  pub there : slice_get u.instances i ≡ Some instance
  pub start : instance.start ≡ x.start
  pub home : home_of homes x.block ≡ whole_home instance.block

-- an instance, and a block in which it begins
pub record HasFrameBeside (u : State) (i : ℕ) (x : Instance) : Type 0 where
  pub instance : Instance
  pub there : slice_get u.instances i ≡ Some instance
  pub coroutine : instance.coroutine ≡ x.coroutine
  pub block : MemoryBlock
  pub held : slice_get u.world.memory instance.block ≡ Some block

-- all of them
all_taken : (homes : List Home) (o size : ℕ) (xs ys : List Byte) → o ≡ 0 → length xs ≡ size → length ys ≡ size
    → AreBytes homes xs (take (length xs) (drop o ys)) → AreBytes homes xs ys
all_taken homes o size xs ys start full whole h =
    subst (AreBytes homes xs) (take_all (length xs) ys (omega (arith, full, whole)))
    (subst (λ (k : ℕ). AreBytes homes xs (take (length xs) (drop k ys))) start h)

none_left : (n : ℕ) → (1 ≤ n → ⊥) → n ≡ 0
none_left zero h = refl
none_left (suc n) h = absurd (h (omega arith))

module _ (m : Module) (flags : Flags) (roots : Roots) (s u : State) (b : IsBeside m flags roots s u) where
  -- ---- blocks

  module _ (n c : ℕ) (x : MemoryBlock) (home : home_of b.ledger.homes n ≡ whole_home c)
      (none : b.ledger.seats n ≡ None)
      (there : slice_get s.world.memory n ≡ Some x) where
    same_block : (b.entered.mates n x none there).block ≡ c
    same_block = ap (λ (q : Home). q.block) (sym (b.entered.mates n x none there).home ∙ home)

    pub unowned : b.ledger.owners c ≡ None
    unowned = ap b.ledger.owners (sym same_block) ∙ (b.entered.mates n x none there).owner

    pub mate_there : slice_get u.world.memory c ≡ Some (record x { bytes = (b.entered.mates n x none there).bytes })
    mate_there = ap (slice_get u.world.memory) (sym same_block) ∙ (b.entered.mates n x none there).there

    pub standing : is_live x.life ≡ true → x.owned ≡ None → HasStanding b.ledger.homes u.world.memory c x
    standing live free =
        let mate = b.entered.mates n x none there in
        let w = whole_stands owner_rights b.ledger.homes b.ledger.hides s.world.memory
        u.world.memory n x b.world.memory
        mate.shown there live free in
        let at : slice_get u.world.memory c ≡ Some w.block =
        ap (λ (q : Home). slice_get u.world.memory q.block) (sym home) ∙ w.there in
        let same : w.block ≡ record x { bytes = mate.bytes } =
        same_there (slice_get u.world.memory c) w.block (record x { bytes = mate.bytes }) at mate_there in
        let bytes : w.block.bytes ≡ mate.bytes = ap (λ (y : MemoryBlock). y.bytes) same in
        let long : length mate.bytes ≡ x.size =
        ap length (sym bytes) ∙ w.whole ∙ ap (λ (y : MemoryBlock). y.size) same in
        record {
          bytes = mate.bytes;
          there = mate_there;
          full = long ∙ sym w.full;
          stand = all_taken b.ledger.homes (home_of b.ledger.homes n).offset x.size x.bytes mate.bytes
              (ap (λ (q : Home). q.offset) home) w.full long
              (subst (λ (ys : List Byte). AreBytes b.ledger.homes x.bytes (take (length x.bytes)
              (drop (home_of b.ledger.homes n).offset ys))) bytes w.bytes);
        }

  -- ---- slots of instances

  -- an instance, and its slot of the same alloca
  record IsWith (i : ℕ) (x : Instance) (slot : Slot) : Type 0 where
    instance : Instance
    there : slice_get u.instances i ≡ Some instance
    coroutine : instance.coroutine ≡ x.coroutine
    both : IsBoth b.ledger instance.slots slot

  with_slot : (i : ℕ) (x : Instance) → slice_get s.instances i ≡ Some x → (slot : Slot) → Contains x.slots slot
      → flags x.coroutine slot.alloca ≡ false → IsWith i x slot
  with_slot i x e slot own off =
      let r = instance_beside m flags roots b.ledger s.world.memory 0 s.instances u.instances b.instances i x e in
      record {
        instance = r.instance;
        there = r.there;
        coroutine = ap (λ (y : Instance). y.coroutine) r.beside.is;
        both = subst (λ (ts : List Slot). IsBoth b.ledger ts slot)
            (sym (ap (λ (y : Instance). y.slots) r.beside.is))
            (both_slot b.ledger (IsSeated b.ledger (flags x.coroutine) x.coroutine (Some r.number)) (λ t. ⊥)
            (flags x.coroutine) (λ z h. h.flagged) x.slots r.beside.slots r.beside.listed slot own off);
      }

  pub beside_slot : (i : ℕ) (x : Instance) → slice_get s.instances i ≡ Some x → (slot : Slot) → Contains x.slots slot
      → flags x.coroutine slot.alloca ≡ false → (z : MemoryBlock) → slice_get s.world.memory slot.block ≡ Some z
      → is_live z.life ≡ true → z.owned ≡ None → HasSlotBeside b.ledger.homes u i x slot z
  beside_slot i x e slot own off z there live free =
      let w = with_slot i x e slot own off in
      record {
        instance = w.instance;
        there = w.there;
        coroutine = w.coroutine;
        block = w.both.block;
        own = w.both.own;
        standing = standing slot.block w.both.block z w.both.home w.both.unseated there live free;
      }

  pub slot_home : (i : ℕ) (x : Instance) → slice_get s.instances i ≡ Some x → (slot : Slot) → Contains x.slots slot
      → flags x.coroutine slot.alloca ≡ false → HasSlotHome b.ledger.homes u i x slot
  slot_home i x e slot own off =
      let w = with_slot i x e slot own off in
      record {
        instance = w.instance;
        there = w.there;
        coroutine = w.coroutine;
        block = w.both.block;
        own = w.both.own;
        home = w.both.home;
      }

  pub own_home : (i : ℕ) (x : Instance) → slice_get s.instances i ≡ Some x → HasOwnHome b.ledger.homes u i x
  own_home i x e =
      let r = instance_beside m flags roots b.ledger s.world.memory 0 s.instances u.instances b.instances i x e in
      record {
        instance = r.instance;
        there = r.there;
        start = ap (λ (y : Instance). y.start) r.beside.is;
        home = r.beside.home ∙ ap (λ (y : Instance). whole_home y.block) (sym r.beside.is);
      }

  pub beside_frame : (i : ℕ) (x : Instance) → slice_get s.instances i ≡ Some x → (z : MemoryBlock)
      → slice_get s.world.memory x.block ≡ Some z → HasFrameBeside u i x
  beside_frame i x e z there =
      let r = instance_beside m flags roots b.ledger s.world.memory 0 s.instances u.instances b.instances i x e in
      let mate = b.entered.mates x.block z r.beside.unseated there in
      record {
        instance = r.instance;
        there = r.there;
        coroutine = ap (λ (y : Instance). y.coroutine) r.beside.is;
        block = record z { bytes = mate.bytes };
        held = ap (λ (y : Instance). slice_get u.world.memory y.block) r.beside.is
            ∙ mate_there x.block r.beside.block z r.beside.home r.beside.unseated there;
      }

  -- ---- behind a return

  -- a block that is home to one that isn't among the slots of the topmost activation isn't among the other's
  others_none : (n c : ℕ) (x : MemoryBlock) → home_of b.ledger.homes n ≡ whole_home c → b.ledger.seats n ≡ None
      → slice_get s.world.memory n ≡ Some x → times n s.top.slots ≡ 0 → times c u.top.slots ≡ 0
  others_none n c x home none there gone =
      ap (λ (a : Activation). times c a.slots) b.top.is ∙ none_left (times c b.top.slots) (λ some. on
      (one_of_both b.ledger (IsEarly b.ledger (flags s.top.func) s.top.func (length s.below))
      (IsOwn b.ledger (flags s.top.func) (length s.below) s.top.values b.top.values) (flags s.top.func)
      (λ t h. (length s.below, h.owner)) s.top.slots b.top.slots b.top.listed c some))
    where
      seen_at : (k : ℕ) → home_of b.ledger.homes k ≡ whole_home c → b.ledger.tenants c ≡ Some k
      seen_at k is =
          ap (λ (q : Home). b.ledger.tenants q.block) (sym is)
          ∙ b.entered.alone k (Seen (ap (λ (q : Home). q.is_seen) is))

      on : IsOneOfBoth b.ledger s.top.slots c → ⊥
      on (Old k some is) =
          let same : k ≡ n = same_there (b.ledger.tenants c) k n (seen_at k is) (seen_at n home) in
          let still : times k s.top.slots ≡ 0 = ap (λ (j : ℕ). times j s.top.slots) same ∙ gone in
          omega (arith, some, still)
      on (New depth own) =
          let no : Some depth ≡ None = sym own ∙ unowned n c x home none there in absurd (cc)

  pub returned_slot : (i : ℕ) (x : Instance) → slice_get s.instances i ≡ Some x → (slot : Slot)
      → Contains x.slots slot → flags x.coroutine slot.alloca ≡ false → (z : MemoryBlock)
      → slice_get (returned s).world.memory slot.block ≡ Some z → is_live z.life ≡ true → z.owned ≡ None
      → HasSlotBeside b.ledger.homes (returned u) i x slot z
  returned_slot i x e slot own off z there live free =
      let w = with_slot i x e slot own off in
      let was = has_lived s.world.memory s.top.slots slot.block z there live in
      let st = standing slot.block w.both.block z w.both.home w.both.unseated was.there live free in
      record {
        instance = w.instance;
        there = w.there;
        coroutine = w.coroutine;
        block = w.both.block;
        own = w.both.own;
        standing = record {
          bytes = st.bytes;
          there = stays_there u.world.memory u.top.slots w.both.block (record z { bytes = st.bytes }) st.there
              (others_none slot.block w.both.block z w.both.home w.both.unseated was.there was.none);
          full = st.full;
          stand = st.stand;
        };
      }

  pub returned_frame : (i : ℕ) (x : Instance) → slice_get s.instances i ≡ Some x → (z : MemoryBlock)
      → slice_get (returned s).world.memory x.block ≡ Some z → HasFrameBeside (returned u) i x
  returned_frame i x e z there =
      let was = without_back s.world.memory s.top.slots x.block z there in
      let f = beside_frame i x e was.0 was.1 in
      let now = still_there u.world.memory u.top.slots f.instance.block f.block f.held in
      record {
        instance = f.instance;
        there = f.there;
        coroutine = f.coroutine;
        block = now.0;
        held = now.1;
      }

-- ---- states in step

module _ (m : Module) (flags : Flags) (roots : Roots) (s u : State) where
  like_slot : (homes : List Home) (v w : State) (i : ℕ) (x : Instance) (slot : Slot) (z : MemoryBlock)
      → w.instances ≡ v.instances → w.world.memory ≡ v.world.memory → HasSlotBeside homes v i x slot z
      → HasSlotBeside homes w i x slot z
  like_slot homes v w i x slot z instances memory h =
      let st = h.standing in
      record {
        instance = h.instance;
        there = ap (λ (ys : List Instance). slice_get ys i) instances ∙ h.there;
        coroutine = h.coroutine;
        block = h.block;
        own = h.own;
        standing = record {
          bytes = st.bytes;
          there = ap (λ (ys : List MemoryBlock). slice_get ys h.block) memory ∙ st.there;
          full = st.full;
          stand = st.stand;
        };
      }

  pub step_slot : (h : AreInStep m flags roots s u) (i : ℕ) (x : Instance) → slice_get s.instances i ≡ Some x
      → (slot : Slot) → Contains x.slots slot → flags x.coroutine slot.alloca ≡ false → (z : MemoryBlock)
      → slice_get s.world.memory slot.block ≡ Some z → is_live z.life ≡ true → z.owned ≡ None
      → HasSlotBeside (step_homes m flags roots s u h) u i x slot z
  step_slot (Goes b) i x e slot own off z there live free =
      beside_slot m flags roots s u b i x e slot own off z there live free
  step_slot (Ended h) i x e slot own off z there live free =
      let r = h.last in
      like_slot r.beside.ledger.homes (returned r.other) u i x slot z
      (ap (λ (v : State). v.instances) r.other_is) (ap (λ (v : State). v.world.memory) r.other_is)
      (returned_slot m flags roots r.before r.other r.beside i x
      (ap (λ (v : State). slice_get v.instances i) (sym r.is) ∙ e) slot own off z
      (ap (λ (v : State). slice_get v.world.memory slot.block) (sym r.is) ∙ there) live free)

  pub step_frame : AreInStep m flags roots s u → (i : ℕ) (x : Instance) → slice_get s.instances i ≡ Some x
      → (z : MemoryBlock) → slice_get s.world.memory x.block ≡ Some z → HasFrameBeside u i x
  step_frame (Goes b) i x e z there = beside_frame m flags roots s u b i x e z there
  step_frame (Ended h) i x e z there =
      let r = h.last in
      let f = returned_frame m flags roots r.before r.other r.beside i x
      (ap (λ (v : State). slice_get v.instances i) (sym r.is) ∙ e) z
      (ap (λ (v : State). slice_get v.world.memory x.block) (sym r.is) ∙ there) in
      record {
        instance = f.instance;
        there = ap (λ (v : State). slice_get v.instances i) r.other_is ∙ f.there;
        coroutine = f.coroutine;
        block = f.block;
        held = ap (λ (v : State). slice_get v.world.memory f.instance.block) r.other_is ∙ f.held;
      }

  pub step_slot_home : (h : AreInStep m flags roots s u) (i : ℕ) (x : Instance) → slice_get s.instances i ≡ Some x
      → (slot : Slot) → Contains x.slots slot → flags x.coroutine slot.alloca ≡ false
      → HasSlotHome (step_homes m flags roots s u h) u i x slot
  step_slot_home (Goes b) i x e slot own off = slot_home m flags roots s u b i x e slot own off
  step_slot_home (Ended h) i x e slot own off =
      let r = h.last in
      let w = slot_home m flags roots r.before r.other r.beside i x
      (ap (λ (v : State). slice_get v.instances i) (sym r.is) ∙ e) slot own off in
      record {
        instance = w.instance;
        there = ap (λ (v : State). slice_get v.instances i) r.other_is ∙ w.there;
        coroutine = w.coroutine;
        block = w.block;
        own = w.own;
        home = w.home;
      }

  pub step_own_home : (h : AreInStep m flags roots s u) (i : ℕ) (x : Instance) → slice_get s.instances i ≡ Some x
      → HasOwnHome (step_homes m flags roots s u h) u i x
  step_own_home (Goes b) i x e = own_home m flags roots s u b i x e
  step_own_home (Ended h) i x e =
      let r = h.last in
      let w = own_home m flags roots r.before r.other r.beside i x
      (ap (λ (v : State). slice_get v.instances i) (sym r.is) ∙ e) in
      record {
        instance = w.instance;
        there = ap (λ (v : State). slice_get v.instances i) r.other_is ∙ w.there;
        start = w.start;
        home = w.home;
      }
