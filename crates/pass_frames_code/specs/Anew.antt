-- Slots that a woken coroutine makes anew one after another, until it enters the block on the edge behind its suspend.
use Rattle.std.specs.Prelude.{◌≡◌, ◌≢◌, ◌⊎◌, ◌+◌, ◌++◌, ◌<◌, ◌≤◌, ◌^◌, List, None, Some, false, length, slice_get, take, true, ℕ}
use Rattle.pass_proofs.specs.flow_solver.Paths.{IsListed}
use Rattle.pass_proofs.specs.ir_model.Layout.{size_of}
use Rattle.pass_proofs.specs.ir_model.Names.{function_at}
use Rattle.pass_proofs.specs.ir_model.Ty.{Ty}
use Rattle.pass_proofs.specs.ir_model.declared.instr.Instr.{Instr}
use Rattle.pass_proofs.specs.ir_paths.Slots.{allocas_in}
use Rattle.pass_proofs.specs.pass_cells.Kept.{entry}
use Rattle.pass_proofs.specs.pass_cells.declared.plan.KeptValue.{KeptValue}
use Rattle.pass_proofs.specs.pass_fetch.Fetching.{value_bytes}
use Rattle.pass_proofs.specs.pass_frames.Framed.{begin_of}
use Rattle.pass_frames_code.specs.Allocating.{IsAtAlloca}
use Rattle.pass_frames_code.specs.Entering.{allocas_up_to, front_allocas}
use Rattle.pass_frames_code.specs.Places.{edged, framed, instrs_at, offsets, plan}
use Rattle.pass_frames_code.specs.Related.{Anything, Building, IsCell, IsKeptValue}
use Rattle.pass_frames_code.specs.Waking.{AreFrontsGood, HasEdgeBlock}
use Rattle.pass_proofs.specs.addresses.rules.Addresses.{lies_in_frame}
use Rattle.pass_renewed_proof.specs.Renewed.{RenewedGiven, renewed_from}
use Rattle.pass_proofs.specs.run_framed.Framed.{frame_rights}
use Rattle.pass_proofs.specs.run_memory.declared.pointer.Value.{Value}
use Rattle.pass_proofs.specs.run_source.State.{function_of}
use Rattle.pass_proofs.specs.run_source.declared.state.Instance.{Instance}
use Rattle.pass_proofs.specs.run_source.declared.state.Mode.{Mode}
use Rattle.pass_proofs.specs.run_source.declared.state.State.{State}
use Rattle.pass_proofs.specs.run_step.Step.{has_markers}
use Rattle.pass_proofs.specs.run_step.Values.{pointer_to, value_in}

-- ---- the next step makes a slot anew

-- Its alloca is flagged, so the slot lies in no frame, and has no markers in the framed form. Its name is kept in no
-- cell. Its activation is on the way to a label behind a suspend of a number.
pub record IsAtAnew (b : Building) (g : RenewedGiven) (s : State) (name : ℕ) (ty : Ty) (align from label order : ℕ)
    : Type 0 where
  pub here : IsAtAlloca b s name ty align
  pub mode : s.top.mode ≡ Mode.Entering from label
  pub flagged : g.flags s.top.func name ≡ true
  pub small : size_of g.given.code ty < 2 ^ 64
  pub sized : size_of b.framed_code ty ≡ size_of g.given.code ty
  pub outside : lies_in_frame (offsets (b.framing s.top.func)) name ≡ false
  pub unmarked : has_markers (framed (b.framing s.top.func)) name ≡ false
  pub unkept : entry (plan (b.framing s.top.func)).places name ≡ None
  pub uncelled : entry (plan (b.framing s.top.func)).cells name ≡ None
  pub low : name < length (edged (b.framing s.top.func)).names
  pub room : length s.top.values ≡ length (edged (b.framing s.top.func)).names
  pub wide : length (edged (b.framing s.top.func)).names ≤ length (framed (b.framing s.top.func)).names
  pub returns : entry (plan (b.framing s.top.func)).returns label ≡ Some order
  pub fronts : AreFrontsGood (b.framing s.top.func)

-- Another one follows. Of allocas in between, which aren't made anew, nothing is handed on but addresses of slots that
-- lie in the frame. Names are each that of one alloca (N1).
pub record HasNextAnew (b : Building) (g : RenewedGiven) (s : State) (name : ℕ) : Type 0 where
  pub next : ℕ
  pub other : ℕ
  pub ty : Ty
  pub align : ℕ
  pub is : renewed_from (g.flags s.top.func) (function_at g.given.code s.top.func) (s.top.at + 1)
      ≡ Some (record { block = 0; at = next })
  pub there : slice_get (instrs_at (b.framing s.top.func) 0) next ≡ Some (Instr.Alloca other ty align)
  pub unkept : entry (plan (b.framing s.top.func)).places other ≡ None
  pub outside : lies_in_frame (offsets (b.framing s.top.func)) other ≡ false
  pub apart : other ≢ name
  pub handed : (v : ℕ) → IsListed v (allocas_in (take next (instrs_at (b.framing s.top.func) 0)))
      → lies_in_frame (offsets (b.framing s.top.func)) v ≡ false
      → IsListed v (allocas_in (take s.top.at (instrs_at (b.framing s.top.func) 0)))
      ⊎ ((v ≡ name) ⊎ (value_in s.top.values v ≡ Value.Poison))
  pub between : (v : ℕ) → IsListed v (allocas_in (allocas_up_to (b.framing s.top.func) next))
      → (IsListed v (allocas_in (allocas_up_to (b.framing s.top.func) s.top.at)) → ⊥) → v ≢ name
      → value_in s.top.values v ≡ Value.Poison

-- None follows. Of names that are kept in no cell, begin's and those of slots that were made anew alone have values. By
-- the tables, addresses that are handed on are those of which distances are kept. Each slot into which they lead was
-- made anew before, and its name has the address.
pub record HasNoneLeft (b : Building) (g : RenewedGiven) (s : State) (name label order : ℕ) : Type 0 where
  pub none : renewed_from (g.flags s.top.func) (function_at g.given.code s.top.func) (s.top.at + 1) ≡ None
  pub edge : HasEdgeBlock b s.top.func label order
  pub handed : (v : ℕ) → entry (plan (b.framing s.top.func)).places v ≡ None
      → lies_in_frame (offsets (b.framing s.top.func)) v ≡ false
      → ((v ≡ begin_of (b.framing s.top.func).function)
      ⊎ IsListed v (allocas_in (take s.top.at (instrs_at (b.framing s.top.func) 0))))
      ⊎ ((v ≡ name) ⊎ (value_in s.top.values v ≡ Value.Poison))
  pub behind : (v : ℕ) → IsListed v (allocas_in (front_allocas (b.framing s.top.func)))
      → (IsListed v (allocas_in (allocas_up_to (b.framing s.top.func) s.top.at)) → ⊥) → v ≢ name
      → value_in s.top.values v ≡ Value.Poison
  pub roots : (v : ℕ) (k : KeptValue) → IsKeptValue (b.framing s.top.func) v k → g.roots s.top.func v ≡ k.slot
  pub own_roots : (v root : ℕ) → entry (plan (b.framing s.top.func)).places v ≡ None
      → g.roots s.top.func v ≡ Some root → (root ≡ v) ⊎ ((v ≢ name) × (value_in s.top.values v ≡ Value.Poison))
  pub rooted : (v slot : ℕ) (k : KeptValue) → IsKeptValue (b.framing s.top.func) v k → k.slot ≡ Some slot
      → (entry (plan (b.framing s.top.func)).places slot ≡ None)
      × ((slot ≡ name) ⊎ ((n : ℕ) × (value_in s.top.values slot ≡ pointer_to n)))

-- Each alloca without markers that an activation on the way has made gives a cell of its type. So it is in each state
-- of a framed run: the alloca makes the cell (`made_allocas_are_cells`). On the way nothing but allocas is executed.
pub record HasCellsMade (b : Building) (t : State) : Type 0 where
  pub each : (from label p name align : ℕ) (ty : Ty) → t.top.mode ≡ Mode.Entering from label → p < t.top.at
      → slice_get (front_allocas (b.framing t.top.func)) p ≡ Some (Instr.Alloca name ty align)
      → has_markers (framed (b.framing t.top.func)) name ≡ false → size_of b.framed_code ty ≡ value_bytes ty
      → value_bytes ty ≤ align → IsCell (frame_rights b.given t.instances) t.world.memory t.top name ty Anything

-- The next instructions are allocas in front of the entry, on the way of an activation in its place there. No frame lies
-- in a block that is still to come.
pub record MakesLine (b : Building) (t : State) (is : List Instr) : Type 0 where
  pub code : b.given.given.code ≡ b.framed_code
  pub function : function_of b.given.given t ≡ framed (b.framing t.top.func)
  pub fronts : AreFrontsGood (b.framing t.top.func)
  pub before : List Instr
  pub rest : List Instr
  pub stands : front_allocas (b.framing t.top.func) ≡ before ++ (is ++ rest)
  pub at : t.top.at ≡ length before
  pub room : length t.top.values ≡ length (framed (b.framing t.top.func)).names
  pub frames : (i : ℕ) (y : Instance) → slice_get t.instances i ≡ Some y → y.block < length t.world.memory
