-- Steps of coroutines that are kinds of their own: what they ask of the two modules and of states.
use Rattle.std.specs.List.{Contains, list_any}
use Rattle.std.specs.Prelude.{if◌then◌else◌, ◌≡◌, ◌≢◌, ◌⊎◌, ◌+◌, ◌<◌, ◌≤◌, ◌==◌, ℕ, Bool, true, false, List, length, map, not, slice_get, Some, Option}
use Rattle.pass_frames_proof.specs.flow_solver.Paths.{IsListed}
use Rattle.pass_frames_proof.specs.frame_classes.declared.class.SlotClass.{SlotClass}
use Rattle.pass_frames_proof.specs.frame_contents.Held.{position_of}
use Rattle.pass_frames_proof.specs.ir_model.Layout.{size_of}
use Rattle.pass_frames_proof.specs.ir_model.Names.{function_at}
use Rattle.pass_frames_proof.specs.ir_model.Ty.{Ty}
use Rattle.pass_frames_proof.specs.ir_laws.paths.woven_rules.Pairs.{AreDifferent}
use Rattle.pass_frames_proof.specs.ir_model.declared.instr.Instr.{Instr}
use Rattle.pass_frames_proof.specs.ir_model.declared.module.Module.{Module}
use Rattle.pass_frames_proof.specs.ir_model.declared.operand.Arg.{Arg}
use Rattle.pass_frames_proof.specs.ir_model.declared.operand.Callee.{Callee}
use Rattle.pass_frames_proof.specs.ir_model.declared.operand.Intrinsic.{Intrinsic}
use Rattle.pass_frames_proof.specs.ir_model.declared.operand.Operand.{Operand}
use Rattle.pass_frames_proof.specs.ir_paths.Slots.{allocas_of}
use Rattle.pass_frames_proof.specs.ir_paths.Windows.{instr_at, operand_at, suspend_of}
use Rattle.pass_frames_proof.specs.ir_paths.declared.point.Point.{Point}
use Rattle.pass_frames_proof.specs.pass_cells.Kept.{entry, is_flagged}
use Rattle.pass_frames_proof.specs.pass_cells.Written.{row_at}
use Rattle.pass_frames_proof.specs.pass_cells.declared.plan.KeptValue.{KeptValue}
use Rattle.pass_frames_proof.specs.pass_fetch.Fetching.{value_bytes}
use Rattle.pass_frames_proof.specs.pass_frames.Framed.{begin_of}
use Rattle.pass_frames_proof.specs.pass_frames.Tables.{class_flags, offset_at}
use Rattle.pass_frames_meaning.specs.Setting.{Setting}
use Rattle.pass_frames_meaning.specs.Spared.{AreFieldsApart, HasFieldAt}
use Rattle.pass_frames_proof.specs.pass_copies.declared.slot.EarlySlot.{EarlySlot}
use Rattle.pass_frames_proof.specs.Beginning.{HasLiveTemporaries, is_in_frame}
use Rattle.pass_frames_proof.specs.Entry.{cells_of}
use Rattle.pass_frames_proof.specs.FromEdges.{IsEarlyInFrame}
use Rattle.pass_frames_proof.specs.Places.{Framing, copies, edged, framed, instrs_at, offsets, own_place, plan}
use Rattle.pass_frames_proof.specs.Related.{Building, IsKeptValue, IsSuspendNumber, is_coroutine, is_first}
use Rattle.pass_frames_proof.specs.Saving.{save_call}
use Rattle.pass_frames_proof.specs.Slotted.{AreRangesApart, HasFrameThere, IsSlotField}
use Rattle.pass_frames_proof.specs.Temporaries.{HasLedSlots}
use Rattle.pass_frames_proof.specs.pass_proofs.addresses.rules.Addresses.{lies_in_frame}
use Rattle.pass_frames_proof.specs.pass_intrinsics.Shapes.{suspends_of}
use Rattle.pass_frames_proof.specs.pass_renewed_proof.Renewed.{renewed_step}
use Rattle.pass_frames_proof.specs.run_framed.Framed.{layout_of}
use Rattle.pass_frames_proof.specs.run_laws.transfer.Places.{IsBlank}
use Rattle.pass_frames_proof.specs.run_memory.Memory.{is_live}
use Rattle.pass_frames_proof.specs.run_memory.declared.block.MemoryBlock.{MemoryBlock}
use Rattle.pass_frames_proof.specs.run_memory.declared.pointer.Value.{Value}
use Rattle.pass_frames_proof.specs.run_source.Source.{is_among, is_over}
use Rattle.pass_frames_proof.specs.run_source.State.{address_in, function_of, own_facts}
use Rattle.pass_frames_proof.specs.run_source.declared.state.Instance.{Instance}
use Rattle.pass_frames_proof.specs.run_source.declared.state.Mode.{Mode}
use Rattle.pass_frames_proof.specs.run_source.declared.state.State.{State}
use Rattle.pass_frames_proof.specs.run_source.declared.state.Status.{Status}
use Rattle.pass_frames_proof.specs.run_source_tables.Given.{facts_at, frame_of}
use Rattle.pass_frames_proof.specs.run_step.Step.{AtInstr, fetch, has_markers}
use Rattle.pass_frames_proof.specs.run_step.declared.world.Slot.{Slot}
use Rattle.pass_frames_proof.specs.run_step.Values.{pointer_to, value_in}

-- ---- saves

-- a save with its suspend (K3, K6), and the number of that
pub record IsSaveWith (x : Framing) (p s : Point) (token : ℕ) : Type 0 where
  pub order : ℕ
  pub numbered : IsSuspendNumber x order s
  pub low : order < length (suspends_of (edged x))
  pub told : entry (plan x).saves token ≡ Some order
  pub there : suspend_of (framed x) (own_place x p) ≡ Some (own_place x s)

-- the field of a value that crosses a suspend, which is open
pub record HasRowField (b : Building) (func suspend v : ℕ) (k : KeptValue) : Type 0 where
  pub position : ℕ
  pub field : HasFieldAt b func suspend v position k
  pub told : slice_get (offsets (b.framing func)) k.field
      ≡ Some (Some (offset_at (b.framing func).layout position))
  pub opened : IsSlotField (layout_of b.given.layouts func) (offset_at (b.framing func).layout position)
      (value_bytes k.field_ty) (value_bytes k.field_ty)

-- the field of a slot in the frame
pub record HasSlotField (b : Building) (func name size align : ℕ) : Type 0 where
  pub position : ℕ
  pub held : position_of (b.framing func).contents.held name ≡ Some position
  pub field : IsSlotField (layout_of b.given.layouts func) (offset_at (b.framing func).layout position) size align

-- What is known of the slots of a coroutine that are used before begin. Each has its place in the frame, bytes (Y4) and
-- a cell of its own. It is as large as its alloca says.
pub record AreEarlyFields (b : Building) (code : Module) (func : ℕ) : Type 0 where
  pub place : (e : EarlySlot) → Contains (copies (b.framing func)).slots e → IsEarlyInFrame (b.framing func) 0 e
  pub some : (e : EarlySlot) → Contains (copies (b.framing func)).slots e → 0 < e.size
  pub sized : (e : EarlySlot) → Contains (copies (b.framing func)).slots e → (at v align : ℕ) (ty : Ty)
      → slice_get (instrs_at (b.framing func) 0) at ≡ Some (Instr.Alloca v ty align) → v ≡ e.slot
      → (size_of code ty ≡ e.size) × (1 ≤ align)
  pub cells : AreDifferent (cells_of (copies (b.framing func)).slots)

-- two ranges, the one behind the other
abbrev pub AreBehind : (o m p n : ℕ) → Type 0
AreBehind o m p n = (o + m ≤ p) ⊎ (p + n ≤ o)

-- ---- what is asked of the two modules

pub record KeepsKinds (c : Setting) : Type 0 where
  -- K10: the promise that coro.id names is an alloca
  pub promises : (func block at : ℕ) (result : Option ℕ) (must_tail : Bool) (ty : Option Ty) (args : List Arg) (v : ℕ)
      → is_coroutine c.b func ≡ true
      → fetch (function_at c.g.given.code func) block at
      ≡ AtInstr (Instr.Call result must_tail ty (Callee.Intrinsic Intrinsic.CoroId) args)
      → operand_at args 1 ≡ Operand.Local v → IsListed v (allocas_of (function_at c.g.given.code func))
  -- the local slots alone are made anew
  pub anew : (func v : ℕ) → is_coroutine c.b func ≡ true
      → c.g.flags func v
      ≡ is_flagged (class_flags (c.b.framing func).function (c.b.framing func).contents.classes SlotClass.Local) v
  -- the coroutines have the types of the module
  pub types : (func : ℕ) → is_coroutine c.b func ≡ true → (c.b.framing func).code.types ≡ c.g.given.code.types
  -- K6
  pub saves : (func : ℕ) → is_coroutine c.b func ≡ true → (p s : Point) (token : ℕ) (must_tail : Bool) (ty : Option Ty)
      (args : List Arg) → instr_at (edged (c.b.framing func)) p ≡ Some (save_call token must_tail ty args)
      → suspend_of (edged (c.b.framing func)) p ≡ Some s → IsSaveWith (c.b.framing func) p s token
  -- K2: a save's pointer is begin's value or null
  pub pointers : (func block at : ℕ) (result : Option ℕ) (must_tail : Bool) (ty : Option Ty) (args : List Arg)
      → is_coroutine c.b func ≡ true
      → fetch (function_at c.g.given.code func) block at
      ≡ AtInstr (Instr.Call result must_tail ty (Callee.Intrinsic Intrinsic.CoroSave) args)
      → (operand_at args 0 ≡ Operand.Null) ⊎ (operand_at args 0 ≡ Operand.Local (begin_of (c.b.framing func).function))
  -- what crosses a suspend has a field in the layout, which shares no byte with another one's
  pub rows : (func order v : ℕ) (k : KeptValue) → is_coroutine c.b func ≡ true
      → (kept : IsKeptValue (c.b.framing func) v k)
      → IsListed kept.number (row_at (plan (c.b.framing func)).rows (Some order)) → HasRowField c.b func order v k
  pub apart : (func order u v : ℕ) (k j : KeptValue) → is_coroutine c.b func ≡ true
      → (one : HasRowField c.b func order u k) (other : HasRowField c.b func order v j) → u ≢ v
      → AreBehind (offset_at (c.b.framing func).layout one.position) (value_bytes k.field_ty)
      (offset_at (c.b.framing func).layout other.position) (value_bytes j.field_ty)
  -- slots of a ramp and those that are made anew lie in no frame, and all others do
  pub classes : (func at v align : ℕ) (ty : Ty) → is_coroutine c.b func ≡ true
      → slice_get (instrs_at (c.b.framing func) 0) at ≡ Some (Instr.Alloca v ty align)
      → list_any (λ (a : ℕ). a == v) (facts_at c.g.given.facts func).ramp_slots
      ≡ not (lies_in_frame (offsets (c.b.framing func)) v)
  pub whole : (func v : ℕ) → is_coroutine c.b func ≡ true → c.g.flags func v ≡ true
      → lies_in_frame (offsets (c.b.framing func)) v ≡ false
  -- markers that are left are of slots of the ramp, and of these all are
  pub marks : (func at v align : ℕ) (ty : Ty) → is_coroutine c.b func ≡ true
      → slice_get (instrs_at (c.b.framing func) 0) at ≡ Some (Instr.Alloca v ty align)
      → lies_in_frame (offsets (c.b.framing func)) v ≡ false
      → has_markers (framed (c.b.framing func)) v
      ≡ (if c.g.flags func v then false else has_markers (edged (c.b.framing func)) v)
  pub new_marks : (func v : ℕ) → is_coroutine c.b func ≡ true → length (edged (c.b.framing func)).names ≤ v
      → has_markers (framed (c.b.framing func)) v ≡ false
  -- a slot of the frame has its field
  pub fields : (func at v align : ℕ) (ty : Ty) → is_coroutine c.b func ≡ true
      → slice_get (instrs_at (c.b.framing func) 0) at ≡ Some (Instr.Alloca v ty align)
      → lies_in_frame (offsets (c.b.framing func)) v ≡ true
      → HasSlotField c.b func v (size_of c.g.given.code ty) align
  -- a slot that is used before begin lies in the frame, and its temporary is of its type
  pub early : (func at v align : ℕ) (ty : Ty) → is_coroutine c.b func ≡ true
      → slice_get (instrs_at (c.b.framing func) 0) at ≡ Some (Instr.Alloca v ty align) → (e : EarlySlot)
      → Contains (copies (c.b.framing func)).slots e → e.slot ≡ v
      → (lies_in_frame (offsets (c.b.framing func)) v ≡ true) × (e.ty ≡ ty) × (e.align ≡ align)
  pub early_fields : (func : ℕ) → is_coroutine c.b func ≡ true → AreEarlyFields c.b c.g.given.code func
  -- K2: there is one begin, and it has a name
  pub begins : (func block at : ℕ) (result : Option ℕ) (must_tail : Bool) (ty : Option Ty) (args : List Arg)
      → is_coroutine c.b func ≡ true
      → fetch (function_at c.g.given.code func) block at
      ≡ AtInstr (Instr.Call result must_tail ty (Callee.Intrinsic Intrinsic.CoroBegin) args)
      → result ≡ Some (begin_of (c.b.framing func).function)
  -- the frame's size is that of its layout
  pub sizes : (func : ℕ) → is_coroutine c.b func ≡ true
      → (layout_of c.b.given.layouts func).size ≡ (frame_of c.g.given.sizes func).size

-- Where no slot is being made anew, or behind the allocas that were executed again: the name of a slot that may be made
-- anew has an address, if its alloca isn't still to come.
pub record AreSlotsMade (c : Setting) (s : State) : Type 0 where
  pub each : (v at align : ℕ) (ty : Ty)
      → fetch (function_of c.g.given s) 0 at ≡ AtInstr (Instr.Alloca v ty align) → c.g.flags s.top.func v ≡ true
      → (s.top.block ≡ 0 → at < s.top.at) → (block : ℕ) × (value_in s.top.values v ≡ pointer_to block)

-- Where a save stands at the place.
pub record MaySave (c : Setting) (s : State) : Type 0 where
  -- an invariant of the run: an activation that saves hasn't left, so its instance runs
  pub running : (i : ℕ) (x : Instance) → s.top.instance ≡ Some i → slice_get s.instances i ≡ Some x
      → x.status ≡ Status.Running
  -- an invariant of the run: begin's name has the address of the activation's frame
  pub begun : (i : ℕ) (x : Instance) → s.top.instance ≡ Some i → slice_get s.instances i ≡ Some x
      → value_in s.top.values (begin_of (c.b.framing s.top.func).function) ≡ address_in x.block x.start
  -- behind it no live slot lies in the field of a value that crosses
  pub apart : AreFieldsApart c.b (renewed_step c.g s)

-- Where an alloca stands at the place.
pub record MayMake (c : Setting) (s : State) (name : ℕ) (ty : Ty) : Type 0 where
  -- invariants of the run: allocas stand in the entry block, to which no edge leads (F1), so the activation is a ramp's;
  -- and what it will name has no value yet (N1)
  pub first : is_first s.top.mode ≡ true
  pub poison : value_in s.top.values name ≡ Value.Poison
  -- an invariant of the run, behind begin: the frame is there until the instance is over, and its block has its size
  pub frame : (i : ℕ) (x : Instance) → s.top.instance ≡ Some i → slice_get s.instances i ≡ Some x → is_over x ≡ false
      → HasFrameThere c.b s x
  pub fits : (i : ℕ) (x : Instance) (z : MemoryBlock) → s.top.instance ≡ Some i → slice_get s.instances i ≡ Some x
      → slice_get s.world.memory x.block ≡ Some z → x.start + (layout_of c.b.given.layouts x.coroutine).size ≤ z.size
  -- a slot of the frame without markers lives from now on, and conflicts with each one that lives
  pub apart : (i : ℕ) (x : Instance) → s.top.instance ≡ Some i → slice_get s.instances i ≡ Some x
      → has_markers (edged (c.b.framing s.top.func)) name ≡ false → (position : ℕ)
      → position_of (c.b.framing x.coroutine).contents.held name ≡ Some position → (other : Slot)
      → Contains x.slots other → (z : MemoryBlock) → slice_get s.world.memory other.block ≡ Some z
      → is_live z.life ≡ true → (p : ℕ) → position_of (c.b.framing x.coroutine).contents.held other.alloca ≡ Some p
      → AreRangesApart (offset_at (c.b.framing x.coroutine).layout p) z.size
      (offset_at (c.b.framing x.coroutine).layout position) (size_of c.g.given.code ty)

-- ---- begin

-- a slot is of an alloca of the activation's coroutine
pub record IsOwnAlloca (c : Setting) (s : State) (slot : Slot) : Type 0 where
  pub at : ℕ
  pub align : ℕ
  pub ty : Ty
  pub there : slice_get (instrs_at (c.b.framing s.top.func) 0) at ≡ Some (Instr.Alloca slot.alloca ty align)
  pub sized : (z : MemoryBlock) → slice_get s.world.memory slot.block ≡ Some z
      → (z.size ≡ size_of c.g.given.code ty) × (z.align ≡ align)

-- Where begin stands at the place. All of this is an invariant of a run.
pub record MayBegin (c : Setting) (s t : State) : Type 0 where
  -- no way leads to begin behind a suspend
  pub ramp : s.top.mode ≡ Mode.Ramp
  pub allocas : (slot : Slot) → Contains s.top.slots slot → IsOwnAlloca c s slot
  -- what will lie in the frame holds nothing, if no access uses it before begin
  pub blank : (slot : Slot) → Contains s.top.slots slot
      → lies_in_frame (offsets (c.b.framing s.top.func)) slot.alloca ≡ true
      → ((e : EarlySlot) → Contains (copies (c.b.framing s.top.func)).slots e → e.slot ≢ slot.alloca)
      → (z : MemoryBlock) → slice_get s.world.memory slot.block ≡ Some z → is_live z.life ≡ true → IsBlank z
  -- an access follows the slot's alloca, and so each slot that is used before begin was made
  pub made : (e : EarlySlot) → Contains (copies (c.b.framing s.top.func)).slots e
      → (slot : Slot) × Contains s.top.slots slot × (slot.alloca ≡ e.slot)
  -- slots that live at once conflict
  pub apart : (one other : Slot) → Contains s.top.slots one → Contains s.top.slots other
      → is_in_frame (c.b.framing s.top.func) one ≡ true → is_in_frame (c.b.framing s.top.func) other ≡ true
      → one.block ≢ other.block → (x y : MemoryBlock) → slice_get s.world.memory one.block ≡ Some x
      → slice_get s.world.memory other.block ≡ Some y → is_live x.life ≡ true → is_live y.life ≡ true → (p q : ℕ)
      → position_of (c.b.framing s.top.func).contents.held one.alloca ≡ Some p
      → position_of (c.b.framing s.top.func).contents.held other.alloca ≡ Some q
      → AreRangesApart (offset_at (c.b.framing s.top.func).layout p) x.size
      (offset_at (c.b.framing s.top.func).layout q) y.size
  -- an alloca gives one of them, and their fields lie apart, dead or alive: such a slot conflicts with each other one
  pub early_slots : AreDifferent (map (λ (e : EarlySlot). e.slot) (copies (c.b.framing s.top.func)).slots)
  pub early_apart : (e f : EarlySlot) → Contains (copies (c.b.framing s.top.func)).slots e
      → Contains (copies (c.b.framing s.top.func)).slots f → e.slot ≢ f.slot → (p q : ℕ)
      → position_of (c.b.framing s.top.func).contents.held e.slot ≡ Some p
      → position_of (c.b.framing s.top.func).contents.held f.slot ≡ Some q
      → AreRangesApart (offset_at (c.b.framing s.top.func).layout p) e.size
      (offset_at (c.b.framing s.top.func).layout q) f.size
  -- slots of the framed run are of allocas
  pub framed_slots : (slot : Slot) → Contains t.top.slots slot
      → is_among (own_facts c.b.given.given t).ramp_slots slot ≡ true
  -- and their names lead to them; temporaries live, since no marker names one
  pub led : HasLedSlots t
  pub live : HasLiveTemporaries c.b t

-- ---- in all

-- what is asked of a state of a coroutine, by what stands at its place
pub record MayKinds (c : Setting) (s t : State) : Type 0 where
  pub made : AreSlotsMade c s
  pub makes : (name : ℕ) (ty : Ty) (align : ℕ)
      → fetch (function_of c.g.given s) s.top.block s.top.at ≡ AtInstr (Instr.Alloca name ty align)
      → MayMake c s name ty
  pub saves : (result : Option ℕ) (must_tail : Bool) (ty : Option Ty) (args : List Arg)
      → fetch (function_of c.g.given s) s.top.block s.top.at
      ≡ AtInstr (Instr.Call result must_tail ty (Callee.Intrinsic Intrinsic.CoroSave) args) → MaySave c s
  pub begins : (result : Option ℕ) (must_tail : Bool) (ty : Option Ty) (args : List Arg)
      → fetch (function_of c.g.given s) s.top.block s.top.at
      ≡ AtInstr (Instr.Call result must_tail ty (Callee.Intrinsic Intrinsic.CoroBegin) args) → MayBegin c s t
