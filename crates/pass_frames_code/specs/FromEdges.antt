-- Jumps from a block on a resume or destroy edge: what stands in front there is executed with the jump.
use Rattle.std.specs.List.{Contains}
use Rattle.std.specs.Prelude.{◌≡◌, ◌≢◌, ◌⊎◌, ◌+◌, ◌*◌, ◌<◌, ◌≤◌, ◌^◌, [], Bool, List, None, Some, false, length, slice_get, take, true, ℕ}
use Rattle.pass_proofs.specs.flow_solver.Paths.{IsListed}
use Rattle.pass_proofs.specs.frame_contents.Held.{position_of}
use Rattle.pass_proofs.specs.ir_base.declared.outcome.Outcome.{Outcome}
use Rattle.pass_proofs.specs.ir_laws.paths.woven_rules.Pairs.{AreDifferent}
use Rattle.pass_proofs.specs.ir_model.Ty.{ptr}
use Rattle.pass_proofs.specs.ir_model.declared.instr.Instr.{Instr}
use Rattle.pass_proofs.specs.ir_model.declared.instr.Terminator.{Terminator}
use Rattle.pass_proofs.specs.ir_model.declared.operand.Arg.{Arg}
use Rattle.pass_proofs.specs.ir_model.declared.operand.Operand.{Operand}
use Rattle.pass_proofs.specs.ir_parts.Contents.{result_of}
use Rattle.pass_proofs.specs.pass_cells.Kept.{entry}
use Rattle.pass_proofs.specs.pass_cells.Moves.{again_values}
use Rattle.pass_proofs.specs.pass_cells.Written.{after_blocks, again_row, row_at}
use Rattle.pass_proofs.specs.pass_cells.declared.plan.KeptValue.{KeptValue}
use Rattle.pass_proofs.specs.pass_copies.BeginCopies.{puts}
use Rattle.pass_proofs.specs.pass_copies.Uses.{flag_at}
use Rattle.pass_proofs.specs.pass_copies.declared.slot.EarlySlot.{EarlySlot}
use Rattle.pass_proofs.specs.pass_fetch.Fetching.{fetch_of}
use Rattle.pass_proofs.specs.pass_frames.Tables.{offset_at}
use Rattle.pass_frames_code.specs.Code.{addressed, slot_table}
use Rattle.pass_frames_code.specs.Edges.{block_to}
use Rattle.pass_frames_code.specs.Entry.{cells_of}
use Rattle.pass_frames_code.specs.Led.{IsStill, RunsThrough}
use Rattle.pass_frames_code.specs.Lines.{at_work}
use Rattle.pass_frames_code.specs.Passes.{block_at}
use Rattle.pass_frames_code.specs.Phis.{IsOrdinaryBlock}
use Rattle.pass_frames_code.specs.Places.{Framing, addressing_layer, copies, edged, fetched, framed, instrs_at, is_return, named, offsets, plan, written}
use Rattle.pass_frames_code.specs.Related.{AreCellsRight, AreWheresRight, Building, IsCellName, IsKeptValue, instance_in, is_coroutine, is_first}
use Rattle.pass_frames_code.specs.Saves.{AreStorable}
use Rattle.pass_frames_code.specs.Saving.{HasNoReturnsBelow, IsRunningInstance}
use Rattle.pass_frames_code.specs.Stepping.{IsBeginPlain, IsNotEntering}
use Rattle.pass_proofs.specs.pass_intrinsics.Shapes.{suspends_of}
use Rattle.pass_proofs.specs.addresses.rules.Addresses.{lies_in_frame}
use Rattle.pass_proofs.specs.run_framed.Framed.{frame_rights, framed_context}
use Rattle.pass_proofs.specs.run_laws.changed.Changed.{Each}
use Rattle.pass_proofs.specs.run_laws.memory.Pointers.{Home}
use Rattle.pass_proofs.specs.run_laws.transfer.Transfer.{AreOver}
use Rattle.pass_proofs.specs.run_memory.Memory.{owner_rights}
use Rattle.pass_proofs.specs.run_source.State.{work_of}
use Rattle.pass_proofs.specs.run_source.declared.state.Activation.{Activation}
use Rattle.pass_proofs.specs.run_source.declared.state.State.{State}
use Rattle.pass_proofs.specs.run_step.Step.{Work}
use Rattle.pass_proofs.specs.run_step.Values.{pointer_to, value_in}
use Rattle.pass_proofs.specs.run_step.declared.world.Slot.{Slot}

-- ---- lines that fill cells of an activation, of values or of addresses

abbrev pub IsNoOwnCell : Framing → Activation → ℕ → Type 0
IsNoOwnCell x a e = (slot : Slot) → Contains a.slots slot → IsCellName x slot.alloca → (slot.block ≡ e → ⊥)

-- nothing is seen, and blocks in which no cell lies are as they were
pub record IsOnCells (x : Framing) (a : Activation) (w u : Work) : Type 0 where
  pub events : u.world.events ≡ w.world.events
  pub spares : (e : ℕ) → IsNoOwnCell x a e → slice_get u.world.memory e ≡ slice_get w.world.memory e

-- loads and addresses set names from n on
pub record IsStillFrom (n : ℕ) (j : Instr) : Type 0 where
  pub still : IsStill j
  pub high : (r : ℕ) → result_of j ≡ Some r → n ≤ r

-- a store goes into a cell of the activation
pub record IsStoreInto (x : Framing) (a : Activation) (w : Work) (n : ℕ) (j : Instr) : Type 0 where
  pub arg : Arg
  pub cell : ℕ
  pub align : ℕ
  pub block : ℕ
  pub is : j ≡ Instr.Store arg (Operand.Local cell) align
  pub name : IsCellName x cell
  pub low : cell < n
  pub own : Contains a.slots (record { alloca = cell; block = block })
  pub leads : value_in w.values cell ≡ pointer_to block

abbrev pub IsCellMove : Framing → Activation → Work → ℕ → Instr → Type 0
IsCellMove x a w n j = IsStillFrom n j ⊎ IsStoreInto x a w n j

-- ---- the front of such a block

-- the addresses of the slots that are used before begin go to their cells
abbrev pub slots_line : Framing → ℕ → ℕ → List EarlySlot → List Instr
slots_line x k m ss = addressed x k (m, tt) (puts ss)

-- and what crosses comes from its fields
abbrev pub agains_line : Framing → ℕ → (n m : ℕ) → List ℕ → List Instr
agains_line x k n m row = addressed x k (m, tt) (again_values (plan x).kept n row)

-- the line is executed, and then cells are right, also those of addresses
pub record IsFrontDone (b : Building) (s t : State) (homes : List Home) (hides : ℕ → Bool) (line : List Instr) : Type 0
  where
    pub work : Work
    pub runs : RunsThrough (framed_context b.given t) (IsOnCells (b.framing s.top.func) t.top (work_of t)) line
        (work_of t) work
    pub last : IsOnCells (b.framing s.top.func) t.top (work_of t) work
    pub low : (u : ℕ) → u < length (named (b.framing s.top.func)).names
        → value_in work.values u ≡ value_in t.top.values u
    pub wheres : (z : EarlySlot) → Contains (copies (b.framing s.top.func)).slots z
        → (value_in work.values z.cell ≡ value_in t.top.values z.cell)
        × (value_in work.values z.temporary ≡ value_in t.top.values z.temporary)
    pub room : length work.values ≡ length t.top.values
    pub over : AreOver owner_rights (frame_rights b.given t.instances) homes hides (λ d. d) s.world work.world
    pub right : AreCellsRight (b.framing s.top.func) homes (frame_rights b.given t.instances) work.world.memory
        s.top.values (at_work t.top work)
    pub places : AreWheresRight (b.framing s.top.func) (frame_rights b.given t.instances) work.world.memory
        (instance_in t.instances t.top.instance) (at_work t.top work)

-- the first new names of the passes there
abbrev pub again_name : Framing → ℕ → ℕ
again_name x k = after_blocks x.code (plan x) (length (fetched x).names) (take k (fetched x).blocks)

abbrev pub address_name : Framing → ℕ → ℕ
address_name x k = (addressing_layer x k).start.0

-- new names come in the order of the passes: those of loads, temporaries and their cells, addresses
pub record AreAgainsInOrder (x : Framing) (k : ℕ) (row : List ℕ) : Type 0 where
  pub low : length (named x).names ≤ again_name x k
  pub addresses : again_name x k + 2 * length row ≤ address_name x k
  pub slots : (s : EarlySlot) → Contains (copies x).slots s
      → ((again_name x k + 2 * length row ≤ s.temporary) × (again_name x k + 2 * length row ≤ s.cell))
      × ((s.temporary < address_name x k) × (s.cell < address_name x k))
  pub room : address_name x k + length (copies x).slots + length row ≤ length (framed x).names

-- A slot that is used before begin lies in the frame, at the offset of its place among what is held. No address is made
-- of its cell.
pub record IsEarlyInFrame (x : Framing) (start : ℕ) (s : EarlySlot) : Type 0 where
  pub offset : ℕ
  pub told : slice_get (offsets x) s.slot ≡ Some (Some offset)
  pub near : start + offset < 2 ^ 64
  pub position : ℕ
  pub placed : position_of x.contents.held s.slot ≡ Some position
  pub same : offset ≡ offset_at x.layout position
  pub unfetched : fetch_of (slot_table x) (Operand.Local s.cell) ≡ None

-- what is in the row of a suspend crosses it, and its field lies in the frame
pub record IsInRow (x : Framing) (start order v : ℕ) : Type 0 where
  pub crosses : Contains x.contents.crossing (v, order)
  pub position : ℕ
  pub placed : position_of x.contents.held v ≡ Some position
  pub near : start + offset_at x.layout position < 2 ^ 64

-- the slot of a kept address is a name of the coroutine's that is kept in no cell and lies in no frame
pub record IsLocalSlot (x : Framing) (k : KeptValue) (slot : ℕ) : Type 0 where
  pub pointer : k.ty ≡ ptr
  pub low : slot < length (edged x).names
  pub unkept : entry (plan x).places slot ≡ None
  pub outside : lies_in_frame (offsets x) slot ≡ false

-- The activation on top has come to a block on a resume or destroy edge, a jump alone, behind the suspend of a number.
pub record IsAtReturn (b : Building) (s : State) (label order : ℕ) : Type 0 where
  pub runs : s.outcome ≡ Outcome.Running
  pub coroutine : is_coroutine b s.top.func ≡ true
  pub mode : IsNotEntering s.top.mode
  pub returned : is_return (b.framing s.top.func) s.top.block ≡ true
  pub later : s.top.block ≢ 0
  pub first : s.top.at ≡ 0
  pub here : slice_get (edged (b.framing s.top.func)).blocks s.top.block
      ≡ Some (block_at (edged (b.framing s.top.func)) s.top.block)
  pub no_instrs : instrs_at (b.framing s.top.func) s.top.block ≡ []
  pub jumps : (block_at (edged (b.framing s.top.func)) s.top.block).term ≡ Terminator.Jump label
  pub no_phis : (block_at (fetched (b.framing s.top.func)) s.top.block).phis ≡ []
  pub behind : entry (plan (b.framing s.top.func)).returns
      (block_at (edged (b.framing s.top.func)) s.top.block).label ≡ Some order
  pub again : again_row (plan (b.framing s.top.func)) (block_at (fetched (b.framing s.top.func)) s.top.block).label
      ≡ row_at (plan (b.framing s.top.func)).rows (Some order)
  pub resumed : flag_at (copies (b.framing s.top.func)).resumed
      (block_at (written (b.framing s.top.func)) s.top.block).label ≡ true
  pub low : order < length (suspends_of (edged (b.framing s.top.func)))
  pub instance : IsRunningInstance b s
  pub below : HasNoReturnsBelow b s
  pub names : AreAgainsInOrder (b.framing s.top.func) s.top.block
      (row_at (plan (b.framing s.top.func)).rows (Some order))
  pub begin : IsBeginPlain (b.framing s.top.func)
  pub room : length s.top.values ≡ length (edged (b.framing s.top.func)).names
  pub not_first : is_first s.top.mode ≡ false
  pub storable : AreStorable (b.framing s.top.func) s.top.values
  pub early : Each (IsEarlyInFrame (b.framing s.top.func) instance.instance.start)
      (copies (b.framing s.top.func)).slots
  pub once : AreDifferent (cells_of (copies (b.framing s.top.func)).slots)
  pub row : (v : ℕ) (k : KeptValue) → (kept : IsKeptValue (b.framing s.top.func) v k)
      → IsListed kept.number (row_at (plan (b.framing s.top.func)).rows (Some order))
      → IsInRow (b.framing s.top.func) instance.instance.start order v
  pub local : (v slot : ℕ) (k : KeptValue) → IsKeptValue (b.framing s.top.func) v k → k.slot ≡ Some slot
      → IsLocalSlot (b.framing s.top.func) k slot

-- and its jump leads to an ordinary block
pub record IsOutOfEdge (b : Building) (s : State) (label : ℕ) : Type 0 where
  pub later : block_to (b.framing s.top.func) label ≢ 0
  pub ordinary : is_return (b.framing s.top.func) (block_to (b.framing s.top.func) label) ≡ false
  pub plain : IsOrdinaryBlock (b.framing s.top.func) (block_to (b.framing s.top.func) label)
  pub there : slice_get (edged (b.framing s.top.func)).blocks (block_to (b.framing s.top.func) label)
      ≡ Some (block_at (edged (b.framing s.top.func)) (block_to (b.framing s.top.func) label))
