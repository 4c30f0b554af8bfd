-- The states that stand beside each other where frames are built: one of the coroutines with blocks on edges, whose
-- resumes make slots anew, and one of the framed form.
use Rattle.std.specs.Prelude.{◌≡◌, ◌≢◌, ◌⊎◌, ℕ, zero, suc, ◌+◌, ◌^◌, ◌<◌, ◌≤◌, ◌&&◌, Bool, true, false, List, [], ◌∷◌, ◌++◌, length, map, take, slice_get, Some, None, Option, option_map, if◌then◌else◌}
use Rattle.pass_proofs.specs.flow_solver.Paths.{IsListed}
use Rattle.pass_proofs.specs.frame_classes.declared.class.SlotClass.{SlotClass}
use Rattle.pass_proofs.specs.frame_contents.Held.{position_of}
use Rattle.pass_proofs.specs.ir_model.Layout.{size_of}
use Rattle.pass_proofs.specs.ir_model.Names.{function_at}
use Rattle.pass_proofs.specs.ir_model.Ty.{Ty, int, ptr}
use Rattle.pass_proofs.specs.ir_model.declared.instr.Instr.{Instr}
use Rattle.pass_proofs.specs.ir_model.declared.module.Module.{Module}
use Rattle.pass_proofs.specs.ir_model.declared.operand.Intrinsic.{Intrinsic}
use Rattle.pass_proofs.specs.ir_laws.paths.woven_rules.Pairs.{AreDifferent}
use Rattle.pass_proofs.specs.ir_paths.Slots.{allocas_in}
use Rattle.pass_proofs.specs.ir_paths.Windows.{is_call_of, points_where}
use Rattle.pass_proofs.specs.ir_paths.declared.point.Point.{Point}
use Rattle.pass_proofs.specs.pass_cells.Kept.{entry}
use Rattle.pass_proofs.specs.pass_cells.Links.{bases_of, slots_of}
use Rattle.pass_proofs.specs.pass_cells.declared.plan.KeptValue.{KeptValue}
use Rattle.pass_proofs.specs.pass_copies.declared.slot.EarlySlot.{EarlySlot}
use Rattle.pass_proofs.specs.pass_fetch.Fetching.{value_bytes}
use Rattle.pass_proofs.specs.pass_frames.Framed.{begin_of}
use Rattle.pass_proofs.specs.pass_frames.Tables.{class_flags, offset_at}
use Rattle.pass_proofs.specs.addresses.rules.Addresses.{lies_in_frame}
use Rattle.pass_frames_code.specs.Passes.{block_at}
use Rattle.pass_frames_code.specs.Places.{Framing, alloca_place, copies, edged, framed, instrs_at, is_return, offsets, own_place, place, plan}
use Rattle.pass_proofs.specs.run_framed.Framed.{FramedGiven, frame_rights, layout_of}
use Rattle.pass_proofs.specs.run_laws.access.Lines.{Holds}
use Rattle.pass_proofs.specs.run_laws.embedded.Making.{whole_home}
use Rattle.pass_proofs.specs.run_laws.memory.Pointers.{Home, IsValue, home_of}
use Rattle.pass_proofs.specs.run_laws.transfer.Muted.{muted}
use Rattle.pass_proofs.specs.run_laws.transfer.Transfer.{AreOver}
use Rattle.pass_proofs.specs.run_memory.Memory.{Rights, decode, is_live, owner_rights, same_kind}
use Rattle.pass_proofs.specs.run_memory.declared.block.Byte.{Byte}
use Rattle.pass_proofs.specs.run_memory.declared.block.Kind.{Kind}
use Rattle.pass_proofs.specs.run_memory.declared.block.Life.{Life}
use Rattle.pass_proofs.specs.run_memory.declared.block.MemoryBlock.{MemoryBlock}
use Rattle.pass_proofs.specs.run_memory.declared.pointer.Offset.{Offset}
use Rattle.pass_proofs.specs.run_memory.declared.pointer.Pointer.{Pointer}
use Rattle.pass_proofs.specs.run_memory.declared.pointer.Value.{Value}
use Rattle.pass_proofs.specs.run_source.State.{address_in, is_suspended}
use Rattle.pass_proofs.specs.run_source.declared.state.Activation.{Activation}
use Rattle.pass_proofs.specs.run_source.declared.state.Instance.{Instance}
use Rattle.pass_proofs.specs.run_source.declared.state.Mode.{Mode}
use Rattle.pass_proofs.specs.run_source.declared.state.Saved.{Saved}
use Rattle.pass_proofs.specs.run_source.declared.state.State.{State}
use Rattle.pass_proofs.specs.run_source.declared.state.Status.{Status}
use Rattle.pass_proofs.specs.run_step.Step.{has_markers}
use Rattle.pass_proofs.specs.run_step.Values.{Env, access_of, pointer_to, value_in}
use Rattle.pass_proofs.specs.run_step.declared.world.Slot.{Slot}
use Rattle.std.specs.List.{Contains}

-- ---- the module, its framed form, and what each coroutine was framed by

pub record Building : Type 0 where
  pub code : Module
  pub framed_code : Module
  pub given : FramedGiven
  pub framing : ℕ → Framing

pub record IsBuiltBy (b : Building) (func : ℕ) : Type 0 where
  pub code : (b.framing func).code ≡ b.code
  pub function : (b.framing func).function ≡ function_at b.code func
  pub layout : (b.framing func).layout ≡ layout_of b.given.layouts func
  pub is : function_at b.framed_code func ≡ framed (b.framing func)

-- coroutines are framed, the other functions are as they were
pub record AreBuilt (b : Building) : Type 0 where
  pub coroutines : (func : ℕ) → (function_at b.code func).coroutine ≡ true → IsBuiltBy b func
  pub others : (func : ℕ) → (function_at b.code func).coroutine ≡ false
      → function_at b.framed_code func ≡ function_at b.code func

abbrev pub is_coroutine : Building → ℕ → Bool
is_coroutine b func = (function_at b.code func).coroutine

-- ---- places

abbrev pub point_of : Activation → Point
point_of a = record { block = a.block; at = a.at }

abbrev pub place_by : Framing → Activation → Mode → Point
place_by x a (Mode.Entering from label) = alloca_place x a.at
place_by x a _ = place x (point_of a)

-- of the topmost activation: at the front of what stands at its place
abbrev pub top_place : Building → Activation → Point
top_place b a = if is_coroutine b a.func then place_by (b.framing a.func) a a.mode else point_of a

-- right behind an instruction itself, and before what is woven in behind it
abbrev pub behind_place : Framing → ℕ → ℕ → ℕ
behind_place x block zero = 0
behind_place x block (suc at) = (own_place x (record { block = block; at = at })).at + 1

-- of an activation below: right behind its call
abbrev pub below_place : Building → Activation → Point
below_place b a =
    if is_coroutine b a.func then record
    { block = a.block; at = behind_place (b.framing a.func) a.block a.at } else point_of a

-- of an instance: where its suspend itself stands, and its save
abbrev pub own_place_of : Building → ℕ → Point → Point
own_place_of b func p = own_place (b.framing func) p

-- ---- values, whose names are kept in no cell and lie in no frame

-- the name is asked for: not while allocas are made, but for begin's and those of the allocas before
abbrev pub IsAsked : Framing → Activation → Mode → ℕ → Type 0
IsAsked x a (Mode.Entering from label) v =
    (v ≡ begin_of x.function) ⊎ IsListed v (allocas_in (take a.at (instrs_at x 0)))
IsAsked x a _ v = Unit {0}

pub record AreNamed (x : Framing) (homes : List Home) (a c : Activation) : Type 0 where
  pub each : (v : ℕ) → IsAsked x a a.mode v → entry (plan x).places v ≡ None → lies_in_frame (offsets x) v ≡ false
      → IsValue homes (value_in a.values v) (value_in c.values v)
  pub room : length c.values ≡ length (framed x).names

-- ---- distances

-- the local slot at the end of the chain of getelementptrs that make a name
abbrev pub root_of : Framing → ℕ → Option ℕ
root_of x v = entry (slots_of (class_flags x.function x.contents.classes SlotClass.Local) (bases_of (edged x))) v

-- the number, of 64 bits, is the distance of an address in a block from the block's start, where the address isn't
-- poison
abbrev pub IsDistanceOf : Value → Value → Value → Type 0
IsDistanceOf root v d =
    (v ≡ Value.Poison)
    ⊎ ((block : ℕ) × (o : Offset) × (root ≡ pointer_to block) × (v ≡ Value.Ptr (Pointer.At block o))
    × (o.bits < 2 ^ 64) × (d ≡ Value.Int (record { width = 64; bits = o.bits })))

-- what a field or the cell from which it is filled has of a kept value: it, or its distance from its slot
abbrev pub IsKeptAs : List Home → Env → ℕ → KeptValue → Option ℕ → Value → Type 0
IsKeptAs homes env v k None u = IsValue homes (value_in env v) u
IsKeptAs homes env v k (Some slot) u = IsDistanceOf (value_in env slot) (value_in env v) u

-- ---- cells: blocks of an activation's own, in which nothing of the source stands

pub record IsCell (rights : Rights) (memory : List MemoryBlock) (c : Activation) (cell : ℕ) (ty : Ty)
    (Has : Value → Type 0) : Type 0 where
  pub block : ℕ
  pub address : value_in c.values cell ≡ pointer_to block
  pub own : Contains c.slots (record { alloca = cell; block = block })
  pub bytes : List Byte
  pub sized : length bytes ≡ value_bytes ty
  pub holds : Holds rights memory block 0 (value_bytes ty) bytes
  pub has : Has (decode (access_of ty) bytes)

abbrev pub Anything : Value → Type 0
Anything v = Unit {0}

-- a kept value by its number, and its name
pub record IsKeptValue (x : Framing) (v : ℕ) (k : KeptValue) : Type 0 where
  pub number : ℕ
  pub told : entry (plan x).places v ≡ Some number
  pub there : slice_get (plan x).kept number ≡ Some k

-- each kept value is what its cell has, and each distance that has a cell is there
pub record AreCellsRight (x : Framing) (homes : List Home) (rights : Rights) (memory : List MemoryBlock) (env : Env)
    (c : Activation) : Type 0 where
  pub values : (v : ℕ) (k : KeptValue) → IsKeptValue x v k
      → IsCell rights memory c k.cell k.ty (IsValue homes (value_in env v))
  pub distances : (v cell slot : ℕ) → entry (plan x).cells v ≡ Some cell → root_of x v ≡ Some slot
      → IsCell rights memory c cell (int 64) (IsDistanceOf (value_in env slot) (value_in env v))

-- the cells are there, whatever they have
pub record AreCellsThere (x : Framing) (rights : Rights) (memory : List MemoryBlock) (c : Activation) : Type 0 where
  pub values : (v : ℕ) (k : KeptValue) → IsKeptValue x v k → IsCell rights memory c k.cell k.ty Anything
  pub distances : (v cell : ℕ) → entry (plan x).cells v ≡ Some cell → IsCell rights memory c cell (int 64) Anything

-- ---- fields

-- the fields of the values that cross a suspend, by its number, hold what is kept of them
pub record AreFieldsRight (x : Framing) (homes : List Home) (rights : Rights) (memory : List MemoryBlock)
    (suspend : ℕ) (env : Env) (block start : ℕ) : Type 0 where
  pub each : (v position : ℕ) (k : KeptValue) → IsKeptValue x v k → Contains x.contents.crossing (v, suspend)
      → position_of x.contents.held v ≡ Some position
      → (bytes : List Byte) × (length bytes ≡ value_bytes k.field_ty)
      × Holds rights memory block (start + offset_at x.layout position) (value_bytes k.field_ty) bytes
      × IsKeptAs homes env v k k.slot (decode (access_of k.field_ty) bytes)

-- Where slots are made anew one after another, an address that was handed on still leads into the old block. What is
-- kept of it is its offset there.
abbrev pub IsOffsetOf : Value → Value → Type 0
IsOffsetOf v d =
    (v ≡ Value.Poison)
    ⊎ ((block : ℕ) × (o : Offset) × (v ≡ Value.Ptr (Pointer.At block o)) × (o.bits < 2 ^ 64)
    × (d ≡ Value.Int (record { width = 64; bits = o.bits })))

abbrev pub IsHeldAs : List Home → Env → ℕ → Option ℕ → Value → Type 0
IsHeldAs homes env v None u = IsValue homes (value_in env v) u
IsHeldAs homes env v (Some slot) u = IsOffsetOf (value_in env v) u

pub record AreFieldsHeld (x : Framing) (homes : List Home) (rights : Rights) (memory : List MemoryBlock)
    (suspend : ℕ) (env : Env) (block start : ℕ) : Type 0 where
  pub each : (v position : ℕ) (k : KeptValue) → IsKeptValue x v k → Contains x.contents.crossing (v, suspend)
      → position_of x.contents.held v ≡ Some position
      → (bytes : List Byte) × (length bytes ≡ value_bytes k.field_ty)
      × Holds rights memory block (start + offset_at x.layout position) (value_bytes k.field_ty) bytes
      × IsHeldAs homes env v k.slot (decode (access_of k.field_ty) bytes)

abbrev pub HasFields : Framing → List Home → Rights → List MemoryBlock → (suspend : ℕ) → Env → (block start : ℕ) → Mode
    → Type 0
HasFields x homes rights memory suspend env block start (Mode.Entering from label) =
    AreFieldsHeld x homes rights memory suspend env block start
HasFields x homes rights memory suspend env block start _ =
    AreFieldsRight x homes rights memory suspend env block start

-- the number of a suspend in order of the text
abbrev pub IsSuspendNumber : Framing → ℕ → Point → Type 0
IsSuspendNumber x j p = slice_get (points_where (is_call_of Intrinsic.CoroSuspend) (edged x)) j ≡ Some p

-- the suspend behind which an activation is entering, or has come to the block on the edge
abbrev pub returned_from : Framing → Activation → Mode → Option ℕ
returned_from x a (Mode.Entering from label) = entry (plan x).returns label
returned_from x a _ = if is_return x a.block then entry (plan x).returns (block_at (edged x) a.block).label else None

-- ---- addresses of slots that are used before begin: of the temporary, and of the frame's slot behind begin

abbrev pub IsWhere : Option Instance → Framing → Activation → EarlySlot → Value → Type 0
IsWhere None x c s v = v ≡ value_in c.values s.temporary
IsWhere (Some y) x c s v =
    (position : ℕ) × (position_of x.contents.held s.slot ≡ Some position)
    × (v ≡ address_in y.block (y.start + offset_at x.layout position))

pub record AreWheresRight (x : Framing) (rights : Rights) (memory : List MemoryBlock) (own : Option Instance)
    (c : Activation) : Type 0 where
  pub each : (s : EarlySlot) → Contains (copies x).slots s → IsCell rights memory c s.cell ptr (IsWhere own x c s)

-- ---- activations

-- behind a suspend a kept value that doesn't cross it has no value, nor has a name of which the distance alone is kept
pub record AreGone (x : Framing) (suspend : ℕ) (env : Env) : Type 0 where
  pub values : (v : ℕ) (k : KeptValue) → IsKeptValue x v k
      → Contains x.contents.crossing (v, suspend) ⊎ (value_in env v ≡ Value.Poison)
  pub links : (v cell : ℕ) → entry (plan x).cells v ≡ Some cell → entry (plan x).places v ≡ None
      → value_in env v ≡ Value.Poison

-- what an activation has beside its values, by where it is
abbrev pub HasCells : Framing → List Home → Rights → List MemoryBlock → Option Instance → Activation → Activation
    → Option ℕ → Type 0
HasCells x homes rights memory own a c None =
    AreCellsRight x homes rights memory a.values c × AreWheresRight x rights memory own c
HasCells x homes rights memory None a c (Some suspend) = ⊥
HasCells x homes rights memory (Some y) a c (Some suspend) =
    HasFields x homes rights memory suspend a.values y.block y.start a.mode × AreGone x suspend a.values

-- the cells of addresses are there too, whatever they have
pub record AreWheresThere (x : Framing) (rights : Rights) (memory : List MemoryBlock) (c : Activation) : Type 0 where
  pub each : (s : EarlySlot) → Contains (copies x).slots s → IsCell rights memory c s.cell ptr Anything

-- once all allocas are made their cells are there, also in the block on a resume or destroy edge
abbrev pub AreMade : Framing → Rights → List MemoryBlock → Activation → Mode → Type 0
AreMade x rights memory c (Mode.Entering from label) = Unit {0}
AreMade x rights memory c _ = AreCellsThere x rights memory c × AreWheresThere x rights memory c

abbrev pub instance_in : List Instance → Option ℕ → Option Instance
instance_in instances None = None
instance_in instances (Some i) = slice_get instances i

pub record AreCoroutines (x : Framing) (homes : List Home) (rights : Rights) (t : State) (a c : Activation) : Type 0
  where
    pub names : AreNamed x homes a c
    pub cells : HasCells x homes rights t.world.memory (instance_in t.instances c.instance) a c
        (returned_from x a a.mode)
    pub made : AreMade x rights t.world.memory c a.mode

pub record AreOthers (homes : List Home) (a c : Activation) : Type 0 where
  pub each : (v : ℕ) → IsValue homes (value_in a.values v) (value_in c.values v)
  pub room : length c.values ≡ length a.values

abbrev pub HasValues : Building → List Home → Rights → State → Activation → Activation → Bool → Type 0
HasValues b homes rights t a c true = AreCoroutines (b.framing a.func) homes rights t a c
HasValues b homes rights t a c false = AreOthers homes a c

-- ---- slots of activations

-- a slot of the framed activation is where the source's stands
pub record IsWholeSlot (homes : List Home) (c : Activation) (slot : Slot) : Type 0 where
  pub block : ℕ
  pub home : home_of homes slot.block ≡ whole_home block
  pub own : Contains c.slots (record { alloca = slot.alloca; block = block })

-- before begin a frame slot is hidden; if it is used there, it stands in its temporary instead, and no pointer into it
-- is about
abbrev pub IsUnplacedSlot : Framing → List Home → (ℕ → Bool) → Activation → Slot → Type 0
IsUnplacedSlot x homes hides c slot =
    ((hides slot.block ≡ true) × ((s : EarlySlot) → Contains (copies x).slots s → s.slot ≢ slot.alloca))
    ⊎ ((s : EarlySlot) × (block : ℕ) × Contains (copies x).slots s × (s.slot ≡ slot.alloca)
    × Contains c.slots (record { alloca = s.temporary; block = block })
    × (home_of homes slot.block ≡ record { block = block; offset = 0; is_seen = false })
    × (hides slot.block ≡ false))

abbrev pub IsSlotBy : Building → List Home → (ℕ → Bool) → Activation → Activation → Slot → Bool → Type 0
IsSlotBy b homes hides a c slot true = IsUnplacedSlot (b.framing a.func) homes hides c slot
IsSlotBy b homes hides a c slot false = IsWholeSlot homes c slot

abbrev pub IsOwnSlot : Building → List Home → (ℕ → Bool) → Activation → Activation → Slot → Type 0
IsOwnSlot b homes hides a c slot =
    IsSlotBy b homes hides a c slot (is_coroutine b a.func && lies_in_frame (offsets (b.framing a.func)) slot.alloca)

-- the activation of the framed run, at a place
pub record AreActivations (b : Building) (homes : List Home) (hides : ℕ → Bool) (t : State) (at : Activation → Point)
    (a c : Activation) : Type 0 where
  pub func : c.func ≡ a.func
  pub place : point_of c ≡ at a
  pub result : c.result ≡ a.result
  pub mode : c.mode ≡ a.mode
  pub instance : c.instance ≡ a.instance
  pub has_left : c.has_left ≡ a.has_left
  pub values : HasValues b homes (frame_rights b.given t.instances) t a c (is_coroutine b a.func)
  pub slots : (slot : Slot) → Contains a.slots slot → IsOwnSlot b homes hides a c slot

-- one to one, each right behind its call
abbrev pub AreBelow : Building → List Home → (ℕ → Bool) → State → List Activation → List Activation → Type 0
AreBelow b homes hides t [] [] = Unit {0}
AreBelow b homes hides t [] (c ∷ cs) = ⊥
AreBelow b homes hides t (a ∷ more) [] = ⊥
AreBelow b homes hides t (a ∷ more) (c ∷ cs) =
    AreActivations b homes hides t (below_place b) a c × AreBelow b homes hides t more cs

-- ---- instances

abbrev pub moved_save : Building → ℕ → Saved → Saved
moved_save b func x = record { depth = x.depth; save = own_place_of b func x.save }

-- where an instance is suspended its fields are right, unless its block was freed
abbrev pub IsStatus : Building → List Home → State → Instance → Instance → Status → Status → Type 0
IsStatus b homes t x y Status.Running u = u ≡ Status.Running
IsStatus b homes t x y Status.Finished u = u ≡ Status.Finished
IsStatus b homes t x y (Status.Suspended p env) u =
    (other : Env) × (suspend : ℕ) × (u ≡ Status.Suspended (own_place_of b x.coroutine p) other)
    × IsSuspendNumber (b.framing x.coroutine) suspend p
    × (x.freed ≡ false
    → AreFieldsRight (b.framing x.coroutine) homes (frame_rights b.given t.instances) t.world.memory suspend env
    y.block y.start)

-- a frame slot stands in the frame from begin on, dead or alive, and pointers into it may be about
pub record IsPlacedSlot (x : Framing) (homes : List Home) (y : Instance) (slot : Slot) : Type 0 where
  pub position : ℕ
  pub position_is : position_of x.contents.held slot.alloca ≡ Some position
  pub home : home_of homes slot.block
      ≡ record { block = y.block; offset = y.start + offset_at x.layout position; is_seen = true }

pub record AreInstances (b : Building) (homes : List Home) (t : State) (x y : Instance) : Type 0 where
  pub coroutine : y.coroutine ≡ x.coroutine
  pub is_coroutine : is_coroutine b x.coroutine ≡ true
  pub block : home_of homes x.block ≡ whole_home y.block
  pub start : y.start ≡ x.start
  pub status : IsStatus b homes t x y x.status y.status
  pub last_save : y.last_save ≡ option_map (moved_save b x.coroutine) x.last_save
  pub released : y.released ≡ x.released
  pub freed : y.freed ≡ x.freed
  pub slots : (slot : Slot) → Contains x.slots slot → IsPlacedSlot (b.framing x.coroutine) homes y slot
  pub no_slots : y.slots ≡ []

-- ---- memory

abbrev pub slots_below : List Activation → List Slot
slots_below [] = []
slots_below (c ∷ cs) = c.slots ++ slots_below cs

-- the slots of all activations
abbrev pub all_slots : State → List Slot
all_slots t = t.top.slots ++ slots_below t.below

-- a block in which nothing of the source stands, and into which no pointer of it may be about
abbrev pub IsFreeOf : List Home → (ℕ → Bool) → List MemoryBlock → ℕ → Type 0
IsFreeOf homes hides memory block =
    (n : ℕ) (x : MemoryBlock) → slice_get (muted hides memory) n ≡ Some x
    → ((home_of homes n).is_seen ≡ true) ⊎ (is_live x.life ≡ true) → (home_of homes n).block ≢ block

-- the name is one of a cell: behind those of the coroutine, and no temporary's
pub record IsCellName (x : Framing) (v : ℕ) : Type 0 where
  pub new : length (edged x).names ≤ v
  pub no_temporary : (s : EarlySlot) → Contains (copies x).slots s → s.temporary ≢ v

abbrev pub AreFreeCells : Building → List Home → (ℕ → Bool) → List MemoryBlock → List Activation → Type 0
AreFreeCells b homes hides memory [] = Unit {0}
AreFreeCells b homes hides memory (c ∷ cs) =
    (is_coroutine b c.func ≡ true → (slot : Slot) → Contains c.slots slot → IsCellName (b.framing c.func) slot.alloca
    → IsFreeOf homes hides memory slot.block)
    × AreFreeCells b homes hides memory cs

-- ---- blocks that stand alone

abbrev pub is_slot : MemoryBlock → Bool
is_slot x = same_kind x.kind Kind.Slot

-- A block that is no slot of a coroutine stands alone in a block of the target, and so do slots that lie in no frame.
-- That block differs from it at most in its bytes. No two stand in one, dead or alive.
pub record AreMates (homes : List Home) (memory target : List MemoryBlock) : Type 0 where
  pub whole : (n : ℕ) (x : MemoryBlock) → slice_get memory n ≡ Some x → is_slot x ≡ false
      → (k : ℕ) × (home_of homes n ≡ whole_home k)
  pub each : (n k : ℕ) (x : MemoryBlock) → slice_get memory n ≡ Some x → home_of homes n ≡ whole_home k
      → (bytes : List Byte) × (slice_get target k ≡ Some (record x { bytes = bytes }))
  pub alone : (n m k : ℕ) → n < length memory → m < length memory → home_of homes n ≡ whole_home k
      → home_of homes m ≡ whole_home k → n ≡ m

-- ---- allocas of a ramp that the framed one has made at its call

-- a block of the ramp's own for an alloca, in which nothing of the source stands; it is ended if it has markers
pub record IsAhead (x : Framing) (homes : List Home) (hides : ℕ → Bool) (memory target : List MemoryBlock)
    (c : Activation) (name : ℕ) (ty : Ty) (align : ℕ) : Type 0 where
  pub block : ℕ
  pub address : value_in c.values name ≡ pointer_to block
  pub own : Contains c.slots (record { alloca = name; block = block })
  pub free : IsFreeOf homes hides memory block
  pub bytes : List Byte
  pub sized : length bytes ≡ size_of x.code ty
  pub there : slice_get target block ≡ Some (record {
    size = size_of x.code ty;
    align = align;
    kind = Kind.Slot;
    life = if has_markers (framed x) name then Life.Ended else Life.Live;
    owned = None;
    bytes = bytes;
  })

-- those of slots that lie in no frame, and temporaries of slots that are used before begin
pub record AreAhead (x : Framing) (homes : List Home) (hides : ℕ → Bool) (memory target : List MemoryBlock)
    (a c : Activation) : Type 0 where
  pub slots : (at v align : ℕ) (ty : Ty) → slice_get (instrs_at x 0) at ≡ Some (Instr.Alloca v ty align) → a.at ≤ at
      → lies_in_frame (offsets x) v ≡ false → IsAhead x homes hides memory target c v ty align
  pub temporaries : (s : EarlySlot) (at align : ℕ) (ty : Ty) → Contains (copies x).slots s
      → slice_get (instrs_at x 0) at ≡ Some (Instr.Alloca s.slot ty align) → a.at ≤ at
      → IsAhead x homes hides memory target c s.temporary s.ty s.align

abbrev pub is_first : Mode → Bool
is_first Mode.Ramp = true
is_first (Mode.GivenRamp frame) = true
is_first mode = false

abbrev pub AreAllAhead : Building → List Home → (ℕ → Bool) → (memory target : List MemoryBlock) → List Activation
    → List Activation → Type 0
AreAllAhead b homes hides memory target [] cs = Unit {0}
AreAllAhead b homes hides memory target (a ∷ more) [] = Unit {0}
AreAllAhead b homes hides memory target (a ∷ more) (c ∷ cs) =
    (is_coroutine b a.func ≡ true → is_first a.mode ≡ true → a.block ≡ 0
    → AreAhead (b.framing a.func) homes hides memory target a c) × AreAllAhead b homes hides memory target more cs

-- ---- the states

pub record AreBuiltOf (b : Building) (s t : State) : Type 0 where
  pub homes : List Home
  pub hides : ℕ → Bool
  pub world : AreOver owner_rights (frame_rights b.given t.instances) homes hides (λ d. d) s.world t.world
  pub known : length homes ≡ length s.world.memory
  -- each global stands where it did
  pub globals : (n : ℕ) → n < length b.framed_code.globals → home_of homes n ≡ whole_home n
  pub mates : AreMates homes s.world.memory t.world.memory
  -- into what is hidden no pointer is about
  pub hidden : (n : ℕ) → hides n ≡ true → (home_of homes n).is_seen ≡ false
  pub count : length t.instances ≡ length s.instances
  pub instances : (i : ℕ) (x y : Instance) → slice_get s.instances i ≡ Some x → slice_get t.instances i ≡ Some y
      → AreInstances b homes t x y
  pub top : AreActivations b homes hides t (top_place b) s.top t.top
  pub below : AreBelow b homes hides t s.below t.below
  -- slots have blocks of their own, and those of cells are free of the source's
  pub once : AreDifferent (map (λ (slot : Slot). slot.block) (all_slots t))
  pub cells : AreFreeCells b homes hides s.world.memory (t.top ∷ t.below)
  pub ahead : AreAllAhead b homes hides s.world.memory t.world.memory (s.top ∷ s.below) (t.top ∷ t.below)
  pub outcome : t.outcome ≡ s.outcome

-- ---- in between: what is seen, and what stands in the frames of suspended coroutines

pub record AreShownAlike (b : Building) (s t : State) : Type 0 where
  pub homes : List Home
  pub events : t.world.events ≡ s.world.events
  pub outcome : t.outcome ≡ s.outcome
  pub instances : (i : ℕ) (x : Instance) → slice_get s.instances i ≡ Some x → is_suspended x.status ≡ true
      → (y : Instance) × (slice_get t.instances i ≡ Some y) × AreInstances b homes t x y
