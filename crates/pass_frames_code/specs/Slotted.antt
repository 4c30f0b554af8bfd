-- Slots of all activations of a run, and slots in frames.
use Rattle.std.specs.List.{Contains}
use Rattle.std.specs.Prelude.{◌≡◌, ◌≢◌, ◌+◌, ◌<◌, ◌≤◌, ◌%◌, ◌∷◌, Some, false, length, slice_get, true, ℕ, Bool}
use Rattle.pass_proofs.specs.flow_solver.Paths.{IsListed}
use Rattle.pass_proofs.specs.frame_contents.Held.{position_of}
use Rattle.pass_proofs.specs.frame_layout.declared.layout.Layout.{Layout}
use Rattle.pass_proofs.specs.frame_layout.declared.layout.PlacedField.{PlacedField}
use Rattle.pass_proofs.specs.pass_frames.Tables.{offset_at}
use Rattle.pass_frames_code.specs.Related.{Building, all_slots, is_slot}
use Rattle.pass_proofs.specs.run_framed.Framed.{is_open_kind, layout_of}
use Rattle.pass_proofs.specs.run_laws.memory.Standing.{IsAlignment}
use Rattle.pass_proofs.specs.run_memory.Memory.{is_below, is_killed, is_live, same_kind}
use Rattle.pass_proofs.specs.run_memory.declared.block.Kind.{Kind}
use Rattle.pass_proofs.specs.run_memory.declared.block.MemoryBlock.{MemoryBlock}
use Rattle.pass_proofs.specs.run_source.declared.state.Activation.{Activation}
use Rattle.pass_proofs.specs.run_source.declared.state.Instance.{Instance}
use Rattle.pass_proofs.specs.run_source.declared.state.State.{State}
use Rattle.pass_proofs.specs.run_step.declared.world.Slot.{Slot}

-- The block of each slot is there. So it is in each state of a run: an alloca makes the block, and no block goes.
pub record HasSlotsThere (s : State) : Type 0 where
  pub each : (slot : Slot) → Contains (all_slots s) slot → slot.block < length s.world.memory

-- a slot of an activation, or of an instance, has the block
pub data IsSlotSomewhere (s : State) (n : ℕ) : Type 0 where
  OfActivation : (a : Activation) → IsListed a (s.top ∷ s.below) → (slot : Slot) → Contains a.slots slot
      → slot.block ≡ n → IsSlotSomewhere s n
  OfInstance : (i : ℕ) (x : Instance) → slice_get s.instances i ≡ Some x → (slot : Slot) → Contains x.slots slot
      → slot.block ≡ n → IsSlotSomewhere s n

-- Each live block of a coroutine's slot is one of an activation or of an instance: slots of what is over die.
pub record HasListedSlots (s : State) : Type 0 where
  pub each : (n : ℕ) (x : MemoryBlock) → slice_get s.world.memory n ≡ Some x → is_live x.life ≡ true → is_slot x ≡ true
      → IsSlotSomewhere s n

-- No frame of the framed run lies in the block of an alloca: frames begin blocks of allocators.
pub record HasSlotsApart (t : State) : Type 0 where
  pub each : (a : Activation) → IsListed a (t.top ∷ t.below) → (slot : Slot) → Contains a.slots slot → (i : ℕ)
      (y : Instance) → slice_get t.instances i ≡ Some y → y.block ≡ slot.block → ⊥

-- So many bytes of a frame from an offset on are those of an open field, behind the header, and as aligned as a slot.
-- It is what good layouts say of the field of a slot (`IsGoodField`, `AreShown`).
pub record IsSlotField (l : Layout) (d size align : ℕ) : Type 0 where
  pub number : ℕ
  pub field : PlacedField
  pub there : slice_get l.fields number ≡ Some field
  pub opened : is_open_kind field.kind ≡ true
  pub from : field.offset ≤ d
  pub to : d + size ≤ field.offset + field.size
  pub inside : d + size ≤ l.size
  pub behind : 16 ≤ d
  pub aligned : (a : ℕ) → IsAlignment a → a ≤ align → d % a ≡ 0
  pub in_aligned : align ≤ l.align

-- No other instance began in the block of this one: a begin takes a block that nobody owns, and one that is given back
-- dies.
pub record HasOwnFrame (s : State) (number : ℕ) (x : Instance) : Type 0 where
  pub there : slice_get s.instances number ≡ Some x
  pub alone : (j : ℕ) (z : Instance) → slice_get s.instances j ≡ Some z → z.block ≡ x.block → j ≡ number

-- The frame of an instance is there: its block is live, as long as the instance isn't freed, begin has asked for its
-- size, and the instance owns the frame.
pub record HasFrameThere (b : Building) (s : State) (x : Instance) : Type 0 where
  pub block : MemoryBlock
  pub there : slice_get s.world.memory x.block ≡ Some block
  pub live : is_live block.life ≡ true
  pub fits : x.start + (layout_of b.given.layouts x.coroutine).size ≤ block.size
  pub writable : same_kind block.kind Kind.Constant ≡ false
  pub owned : (o : ℕ) → is_below o block.owned ≡ false
      → x.start + (layout_of b.given.layouts x.coroutine).size ≤ o

-- no byte of the one range is one of the other
abbrev pub AreRangesApart : (o m p n : ℕ) → Type 0
AreRangesApart o m p n = (i j : ℕ) → i < m → j < n → o + i ≢ p + j

-- What is known of a slot of an instance where a marker starts or ends it. The offset of its field is that of its place
-- among what is held. Its instance isn't freed if it wasn't killed. Where it starts to live it conflicts with each slot
-- that lives (`LiveAreApart` of the state in which it does), so that fields lie apart (`IsGoodLayout`). A slot that is
-- dead may be ended again while another one lives on its bytes.
pub record IsSlotInFrame (b : Building) (s : State) (number : ℕ) (x : Instance) (slot : Slot) (starts : Bool)
    : Type 0 where
  pub own : Contains x.slots slot
  pub alone : HasOwnFrame s number x
  pub field : (position : ℕ) → position_of (b.framing x.coroutine).contents.held slot.alloca ≡ Some position
      → (y : MemoryBlock) → slice_get s.world.memory slot.block ≡ Some y
      → IsSlotField (layout_of b.given.layouts x.coroutine) (offset_at (b.framing x.coroutine).layout position) y.size
      y.align
  pub frame : (y : MemoryBlock) → slice_get s.world.memory slot.block ≡ Some y → is_killed y.life ≡ false
      → HasFrameThere b s x
  pub apart : starts ≡ true → (other : Slot) → Contains x.slots other → other.block ≢ slot.block → (z y : MemoryBlock)
      → slice_get s.world.memory other.block ≡ Some z → slice_get s.world.memory slot.block ≡ Some y
      → is_live z.life ≡ true → (p q : ℕ)
      → position_of (b.framing x.coroutine).contents.held other.alloca ≡ Some p
      → position_of (b.framing x.coroutine).contents.held slot.alloca ≡ Some q
      → AreRangesApart (offset_at (b.framing x.coroutine).layout p) z.size
      (offset_at (b.framing x.coroutine).layout q) y.size
