-- Where the slots and values of suspended coroutines stand in frames.
use Rattle.std.specs.Prelude.{◌≡◌, ℕ, ◌+◌, false, true, List, Some, drop, take, length, slice_get, slice_index_or, IsTrue}
use Rattle.compiler.specs.run_memory.Memory.{digits, encode, is_live}
use Rattle.compiler.specs.run_memory.declared.block.Byte.{Byte}
use Rattle.compiler.specs.run_memory.declared.block.MemoryBlock.{MemoryBlock}
use Rattle.compiler.specs.run_memory.declared.pointer.Offset.{Offset}
use Rattle.compiler.specs.run_memory.declared.pointer.Pointer.{Pointer}
use Rattle.compiler.specs.run_memory.declared.pointer.Value.{Value}
use Rattle.compiler.specs.run_source.declared.state.Instance.{Instance}
use Rattle.compiler.specs.run_source.declared.state.State.{State}
use Rattle.compiler.specs.run_source.declared.state.Status.{Status}
use Rattle.compiler.specs.frame_contents.Frames.{AreContents}
use Rattle.compiler.specs.frame_contents.Held.{position_of}
use Rattle.compiler.specs.frame_contents.declared.contents.Contents.{Contents}
use Rattle.compiler.specs.frame_contents.declared.held.Holding.{Holding}
use Rattle.compiler_theorem.specs.theorem.Anew.{IsSlotOf}
use Rattle.compiler.specs.frame_layout.declared.layout.Layout.{Layout}
use Rattle.compiler.specs.run_framed.Framed.{layout_of}
use Rattle.compiler.specs.ir_model.Names.{function_at}
use Rattle.compiler.specs.ir_model.declared.module.Function.{Function}
use Rattle.compiler.specs.ir_model.declared.module.Module.{Module}
use Rattle.compiler.specs.ir_paths.Slots.{addresses_of, has_name}
use Rattle.compiler.specs.ir_paths.declared.point.Point.{Point}
use Rattle.compiler.specs.run_laws.embedded.Making.{whole_home}
use Rattle.compiler.specs.run_laws.memory.Pointers.{AreBytes, Home, home_of}
use Rattle.compiler.specs.run_step.Values.{Env, value_in}
use Rattle.compiler.specs.run_step.declared.world.Slot.{Slot}
use Rattle.compiler.specs.frame_classes.Classes.{IsOf}
use Rattle.compiler.specs.frame_classes.declared.class.SlotClass.{SlotClass}
use Rattle.std.specs.List.{Contains}
use Rattle.compiler.specs.frame_crossing.Crossing.{Crosses}

-- a value or a slot of a coroutine has a field of so many bytes at an offset of the frame
pub record HasField (m : Module) (f : Function) (l : Layout) (v offset size : ℕ) : Type 0 where
  pub contents : Contents
  pub contents_are : AreContents m f contents
  pub position : ℕ
  pub position_is : position_of contents.held v ≡ Some position
  pub holding : Holding
  pub holding_is : slice_get contents.held position ≡ Some holding
  pub offset_is : slice_index_or l.offsets position 0 ≡ offset
  pub size_is : holding.size ≡ size

-- in a block from an offset on bytes stand for others: numbers for themselves, parts of pointers for parts of the
-- pointers moved, anything for an undefined byte
abbrev pub StandAt : List Home → List Byte → MemoryBlock → ℕ → Type 0
StandAt homes bytes block offset = AreBytes homes bytes (take (length bytes) (drop offset block.bytes))

-- a name has an address in a local slot
pub record IsInLocalSlot (f : Function) (v : ℕ) : Type 0 where
  pub slot : ℕ
  pub is_local : IsSlotOf f SlotClass.Local slot
  pub is_address : IsTrue (has_name (addresses_of f slot) v)

-- the instance of a framed run, and the block in which its frame begins
pub record Frame (t : State) (i : ℕ) : Type 0 where
  pub instance : Instance
  pub there : slice_get t.instances i ≡ Some instance
  pub block : MemoryBlock
  pub held : slice_get t.world.memory instance.block ≡ Some block

-- the live frame slots of an instance stand in a block
abbrev pub AreSlotsIn : Module → Layout → List Home → State → Instance → ℕ → MemoryBlock → Type 0
AreSlotsIn m l homes s x start block =
    (slot : Slot) (y : MemoryBlock) (offset : ℕ) → Contains x.slots slot
    → IsOf (function_at m x.coroutine) slot.alloca SlotClass.Frame → slice_get s.world.memory slot.block ≡ Some y
    → is_live y.life ≡ true → HasField m (function_at m x.coroutine) l slot.alloca offset y.size
    → StandAt homes y.bytes block (start + offset)

-- where it is suspended the values that cross its suspend stand in a block, but for addresses in local slots
abbrev pub AreValuesIn : Module → Layout → List Home → Instance → ℕ → MemoryBlock → Type 0
AreValuesIn m l homes x start block =
    (suspend : Point) (values : Env) (v offset size : ℕ) → x.status ≡ Status.Suspended suspend values
    → Crosses (function_at m x.coroutine) v suspend → HasField m (function_at m x.coroutine) l v offset size
    → (IsInLocalSlot (function_at m x.coroutine) v → ⊥)
    → StandAt homes (encode size (value_in values v)) block (start + offset)

-- of an address in a local slot its distance stands there
abbrev pub AreDistancesIn : Module → Layout → List Home → Instance → ℕ → MemoryBlock → Type 0
AreDistancesIn m l homes x start block =
    (suspend : Point) (values : Env) (v offset size b : ℕ) (o : Offset) → x.status ≡ Status.Suspended suspend values
    → Crosses (function_at m x.coroutine) v suspend → HasField m (function_at m x.coroutine) l v offset size
    → IsInLocalSlot (function_at m x.coroutine) v → value_in values v ≡ Value.Ptr (Pointer.At b o)
    → StandAt homes (digits size o.bits) block (start + offset)

-- each frame slot of an instance has a field, as large as its block
abbrev pub HaveSlotFields : Module → Layout → State → Instance → Type 0
HaveSlotFields m l s x =
    (slot : Slot) (y : MemoryBlock) → Contains x.slots slot
    → IsOf (function_at m x.coroutine) slot.alloca SlotClass.Frame → slice_get s.world.memory slot.block ≡ Some y
    → (offset : ℕ) × HasField m (function_at m x.coroutine) l slot.alloca offset y.size

-- where it is suspended each value that crosses its suspend has a field
abbrev pub HaveValueFields : Module → Layout → Instance → Type 0
HaveValueFields m l x =
    (suspend : Point) (values : Env) (v : ℕ) → x.status ≡ Status.Suspended suspend values
    → Crosses (function_at m x.coroutine) v suspend
    → (offset : ℕ) × ((size : ℕ) × HasField m (function_at m x.coroutine) l v offset size)

-- pointers to an instance's block are moved to its frame's, and those into a frame slot to where its field lies
pub record IsMoved (m : Module) (l : Layout) (homes : List Home) (x y : Instance) : Type 0 where
  pub start : y.start ≡ x.start
  pub frame : home_of homes x.block ≡ whole_home y.block
  pub slots : (slot : Slot) (offset size : ℕ) → Contains x.slots slot
      → IsOf (function_at m x.coroutine) slot.alloca SlotClass.Frame
      → HasField m (function_at m x.coroutine) l slot.alloca offset size
      → home_of homes slot.block ≡ record { block = y.block; offset = y.start + offset; is_seen = true }

-- the frame of an instance has what the source's instance has: its live frame slots, and where it is suspended the
-- values that cross its suspend, of an address in a local slot its distance
pub record IsShown (m : Module) (l : Layout) (homes : List Home) (s : State) (x y : Instance) (block : MemoryBlock)
    : Type 0 where
  pub moved : IsMoved m l homes x y
  pub slot_fields : HaveSlotFields m l s x
  pub slots : AreSlotsIn m l homes s x y.start block
  pub value_fields : HaveValueFields m l x
  pub values : AreValuesIn m l homes x y.start block
  pub distances : AreDistancesIn m l homes x y.start block

-- each instance of the source whose block isn't freed is shown
pub record AreShown (m : Module) (layouts : List Layout) (s t : State) : Type 0 where
  pub homes : List Home
  pub each : (i : ℕ) (x : Instance) → slice_get s.instances i ≡ Some x → x.freed ≡ false
      → (y : Frame t i) × IsShown m (layout_of layouts x.coroutine) homes s x y.instance y.block
