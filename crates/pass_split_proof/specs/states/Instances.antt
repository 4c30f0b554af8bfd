-- The frames of instances in the memory of the parts' run: the header and the index, which a framed run never
-- touches.
use Rattle.std.specs.Prelude.{◌≡◌, ◌≢◌, ℕ, ◌+◌, ◌<◌, ◌≤◌, ◌%◌, ◌^◌, ◌⊎◌, Bool, true, false, not, List, [], length, slice_get, Some, Option, is_some, ◌&&◌, ◌||◌, if◌then◌else◌, ◌==◌}
use Rattle.std.specs.Option.{option_map_or}
use Rattle.pass_proofs.specs.frame_layout.declared.layout.PlacedField.{PlacedField}
use Rattle.pass_proofs.specs.ir_model.Names.{function_at}
use Rattle.pass_proofs.specs.ir_paths.declared.point.Point.{Point}
use Rattle.pass_proofs.specs.pass_intrinsics.Shapes.{index_bytes, shape_of}
use Rattle.pass_proofs.specs.pass_intrinsics.declared.shape.Part.{Part}
use Rattle.pass_proofs.specs.pass_intrinsics.declared.shape.Shape.{Shape}
use Rattle.pass_proofs.specs.pass_intrinsics.declared.shape.SuspendPoint.{SuspendPoint}
use Rattle.pass_split_proof.specs.code.Numbers.{IsNumbered}
use Rattle.pass_split_proof.specs.code.Positions.{is_given, moved, number_of}
use Rattle.pass_proofs.specs.split.rules.Reached.{IsLedTo}
use Rattle.pass_proofs.specs.pass_split.Given.{has_given_call}
use Rattle.pass_proofs.specs.run_framed.Framed.{FramedGiven, frame_rights, is_open_kind, layout_of}
use Rattle.pass_proofs.specs.run_laws.access.Lines.{Holds}
use Rattle.pass_proofs.specs.run_memory.Memory.{digits, encode, is_live, owner_rights, same_kind}
use Rattle.pass_proofs.specs.run_memory.declared.block.Kind.{Kind}
use Rattle.pass_proofs.specs.run_memory.declared.block.MemoryBlock.{MemoryBlock}
use Rattle.pass_proofs.specs.run_memory.declared.pointer.Pointer.{Pointer}
use Rattle.pass_proofs.specs.run_memory.declared.pointer.Value.{Value}
use Rattle.pass_proofs.specs.run_source.State.{is_finished}
use Rattle.pass_proofs.specs.run_source.declared.state.Instance.{Instance}
use Rattle.pass_proofs.specs.run_source.declared.state.Saved.{Saved}
use Rattle.pass_proofs.specs.run_source.declared.state.Status.{Status}

-- ---- where the parts of a coroutine are

-- by what the parts of a function are made
abbrev pub shape_at : FramedGiven → ℕ → Shape
shape_at g func = shape_of (function_at g.given.code func) (layout_of g.layouts func)

-- the position of a part of a function in the module of parts
abbrev pub part_position : FramedGiven → ℕ → Part → ℕ
part_position g func part = moved g.layouts g.given.code g.given.code.functions func + number_of part

-- what the address of a part is stored as
abbrev pub address_of_part : FramedGiven → ℕ → Part → Value
address_of_part g func part = Value.Ptr (Pointer.Func (part_position g func part))

-- the parts that a destroy may call
abbrev pub is_destroyer : Part → Bool
is_destroyer Part.Destroy = true
is_destroyer Part.Cleanup = true
is_destroyer part = false

-- the part that destroys an instance which began in a part
abbrev pub destroyer_of : Part → Part
destroyer_of Part.GivenRamp = Part.Cleanup
destroyer_of part = Part.Destroy

-- the part stands in the module of parts: some call gives a frame, if it is one of those for given frames
abbrev pub StandsThere : FramedGiven → ℕ → Part → Type 0
StandsThere g func part =
    is_given part ≡ true → has_given_call g.given.code (function_at g.given.code func) ≡ true

-- ---- layouts

-- how many bytes the index takes
abbrev pub index_length : FramedGiven → ℕ → ℕ
index_length g func = index_bytes (shape_at g func).width

-- Behind the header the index and the open fields lie in the frame, no field over the index, which is aligned
-- (`IsGoodLayout`).
pub record IsLaidOut (g : FramedGiven) (func : ℕ) : Type 0 where
  pub alignment : ((layout_of g.layouts func).align ≡ 8) ⊎ ((layout_of g.layouts func).align ≡ 16)
  pub within : (layout_of g.layouts func).size < 2 ^ 64
  pub behind : 16 ≤ (layout_of g.layouts func).index
  pub index : (layout_of g.layouts func).index + index_length g func ≤ (layout_of g.layouts func).size
  pub index_aligned : (layout_of g.layouts func).index % index_length g func ≡ 0
  pub fields : (a : ℕ) (x : PlacedField) → slice_get (layout_of g.layouts func).fields a ≡ Some x
      → is_open_kind x.kind ≡ true
      → (16 ≤ x.offset) × ((x.offset + x.size ≤ (layout_of g.layouts func).index)
      ⊎ ((layout_of g.layouts func).index + index_length g func ≤ x.offset))

-- the frame lies inside its block, as it is aligned
pub record LiesAligned (g : FramedGiven) (x : Instance) (y : MemoryBlock) : Type 0 where
  pub alignment : ((layout_of g.layouts x.coroutine).align ≡ 8) ⊎ ((layout_of g.layouts x.coroutine).align ≡ 16)
  pub block : (layout_of g.layouts x.coroutine).align ≤ y.align
  pub start : x.start % (layout_of g.layouts x.coroutine).align ≡ 0
  pub inside : x.start + (layout_of g.layouts x.coroutine).size ≤ y.size

-- ---- a frame's control bytes

-- the header and the index
abbrev pub IsControl : FramedGiven → Instance → (block at : ℕ) → Type 0
IsControl g x block at =
    (x.block ≡ block) × (((x.start ≤ at) × (at < x.start + 16))
    ⊎ ((x.start + (layout_of g.layouts x.coroutine).index ≤ at)
    × (at < x.start + (layout_of g.layouts x.coroutine).index + index_length g x.coroutine)))

-- the frame of an instance is there: its block lives, and isn't freed; a frame that was given, in a stack block or in a
-- field of another frame, is there up to the instance's end
abbrev pub lives_in : Option MemoryBlock → Bool
lives_in o = option_map_or (λ y. is_live y.life) o false

abbrev pub is_given_in : Option MemoryBlock → Instance → Bool
is_given_in o x = option_map_or (λ y. same_kind y.kind Kind.Stack) o false || not (x.start == 0)

abbrev pub is_held_in : Option MemoryBlock → Instance → Bool
is_held_in o x = not x.freed && (not (is_given_in o x && is_finished x.status) && lives_in o)

abbrev pub is_held : List MemoryBlock → Instance → Bool
is_held m x = is_held_in (slice_get m x.block) x

-- an instance of another status, with another last save, released or not
abbrev pub in_state : Instance → Status → Option Saved → Bool → Instance
in_state x status saved released = record x { status = status; last_save = saved; released = released }

-- ---- what the control bytes hold

-- what is stored as the function that a resume calls: none at the final suspend
abbrev pub resumer_of : FramedGiven → ℕ → SuspendPoint → Value
resumer_of g func p = if p.is_final then Value.Ptr Pointer.Null else address_of_part g func Part.Resume

-- the index names the suspend
pub record IsIndexed (g : FramedGiven) (n : List MemoryBlock) (x : Instance) (number : ℕ) : Type 0 where
  pub holds : Holds owner_rights n x.block (x.start + (layout_of g.layouts x.coroutine).index)
      (index_length g x.coroutine) (digits (index_length g x.coroutine) number)

-- where an instance is Suspended, a path leads to its suspend, the index names it, and the header the function that
-- goes on there
pub record IsSavedAt (g : FramedGiven) (n : List MemoryBlock) (x : Instance) (suspend : Point) : Type 0 where
  pub number : ℕ
  pub numbered : IsNumbered (function_at g.given.code x.coroutine) suspend number
  pub led : IsLedTo (function_at g.given.code x.coroutine) numbered.suspend.block
  pub resumes : Holds owner_rights n x.block x.start 8 (encode 8 (resumer_of g x.coroutine numbered.suspend))
  pub index : IsIndexed g n x number

-- From begin on the header names the function that a destroy calls, which there is. It is that for given frames if the
-- frame was given.
pub record IsHeaded (g : FramedGiven) (n : List MemoryBlock) (given : Bool) (x : Instance) : Type 0 where
  pub destroyer : Part
  pub is : is_destroyer destroyer ≡ true
  pub right : is_given destroyer ≡ given
  pub stands : StandsThere g x.coroutine destroyer
  pub destroys : Holds owner_rights n x.block (x.start + 8) 8 (encode 8 (address_of_part g x.coroutine destroyer))
  pub saved : (suspend : Point) (values : List (Option Value)) → x.status ≡ Status.Suspended suspend values
      → IsSavedAt g n x suspend

-- the frame was given if it lies in a stack block, or behind the start of another frame
abbrev pub IsHeadedIn : FramedGiven → (m n : List MemoryBlock) → Instance → Type 0
IsHeadedIn g m n x = IsHeaded g n (is_given_in (slice_get m x.block) x) x

-- ---- the frames of all instances

-- Control bytes are closed to the framed run, and no two frames have one in common. An instance that isn't freed owns
-- the block that an allocator gave; that of one that is freed is dead. Frames lie as they are aligned. A coroutine's
-- slots are its activations' own.
pub record AreLaidFrames (g : FramedGiven) (instances : List Instance) (m : List MemoryBlock) : Type 0 where
  pub known : (i : ℕ) (x : Instance) → slice_get instances i ≡ Some x → x.block < length m
  pub slots : (i : ℕ) (x : Instance) → slice_get instances i ≡ Some x → x.slots ≡ []
  pub owned : (i : ℕ) (x : Instance) (y : MemoryBlock) → slice_get instances i ≡ Some x → x.freed ≡ false
      → slice_get m x.block ≡ Some y → is_live y.life ≡ true → y.kind ≡ Kind.Allocator → is_some y.owned ≡ true
  pub gone : (i : ℕ) (x : Instance) (y : MemoryBlock) → slice_get instances i ≡ Some x → x.freed ≡ true
      → slice_get m x.block ≡ Some y → y.kind ≡ Kind.Allocator → is_live y.life ≡ false
  pub lies : (i : ℕ) (x : Instance) (y : MemoryBlock) → slice_get instances i ≡ Some x → slice_get m x.block ≡ Some y
      → LiesAligned g x y
  pub closed : (i : ℕ) (x : Instance) (y : MemoryBlock) (at : ℕ) → slice_get instances i ≡ Some x → is_held m x ≡ true
      → IsControl g x x.block at → (frame_rights g instances).is_closed x.block y at 1 ≡ true
  pub apart : (i j : ℕ) (x y : Instance) (at : ℕ) → i ≢ j → slice_get instances i ≡ Some x
      → slice_get instances j ≡ Some y
      → is_held m x ≡ true → is_held m y ≡ true → IsControl g x x.block at → IsControl g y x.block at → ⊥

-- and in the memory of the parts' run they hold what they should
pub record AreFrames (g : FramedGiven) (instances : List Instance) (m n : List MemoryBlock) : Type 0 where
  pub laid : AreLaidFrames g instances m
  pub headed : (i : ℕ) (x : Instance) → slice_get instances i ≡ Some x → is_held m x ≡ true → IsHeadedIn g m n x
