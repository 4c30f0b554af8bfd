-- Ends of blocks of coroutines: what is asked of the two modules and of states, besides rules and what is known of both
-- runs.
use Rattle.std.specs.Prelude.{◌≡◌, ◌≢◌, ◌<◌, ℕ, Bool, List, None, Option, Some, false, length, slice_get, true}
use Rattle.pass_frames_proof.specs.flow_solver.Paths.{IsListed}
use Rattle.pass_frames_proof.specs.ir_laws.paths.woven_rules.Pairs.{AreDifferent}
use Rattle.pass_frames_proof.specs.pass_cells.Written.{again_row, row_at}
use Rattle.pass_frames_proof.specs.pass_cells.declared.plan.KeptValue.{KeptValue}
use Rattle.pass_frames_proof.specs.pass_copies.Uses.{flag_at}
use Rattle.pass_frames_meaning.specs.Coroutines.{HasStorables, IsEnding, MayEnd, MaySuspend}
use Rattle.pass_frames_proof.specs.Entry.{cells_of}
use Rattle.pass_frames_proof.specs.Followed.{IsFollowed}
use Rattle.pass_frames_proof.specs.FromEdges.{AreAgainsInOrder, IsEarlyInFrame, IsInRow, IsLocalSlot}
use Rattle.pass_frames_proof.specs.pass_intrinsics.Shapes.{suspends_of}
use Rattle.pass_frames_proof.specs.ir_model.Names.{function_at}
use Rattle.pass_frames_proof.specs.ir_model.Ty.{Ty}
use Rattle.pass_frames_proof.specs.ir_model.declared.instr.Incoming.{Incoming}
use Rattle.pass_frames_proof.specs.ir_model.declared.instr.Instr.{Instr}
use Rattle.pass_frames_proof.specs.ir_model.declared.instr.Phi.{Phi}
use Rattle.pass_frames_proof.specs.ir_model.declared.instr.Terminator.{Terminator}
use Rattle.pass_frames_proof.specs.ir_model.declared.module.Block.{Block}
use Rattle.pass_frames_proof.specs.ir_model.declared.operand.Arg.{Arg}
use Rattle.pass_frames_proof.specs.ir_model.declared.operand.Callee.{Callee}
use Rattle.pass_frames_proof.specs.ir_model.declared.operand.Intrinsic.{Intrinsic}
use Rattle.pass_frames_proof.specs.ir_model.declared.operand.Operand.{Operand}
use Rattle.pass_frames_proof.specs.ir_paths.Windows.{operand_at}
use Rattle.pass_frames_proof.specs.ir_paths.declared.point.Point.{Point}
use Rattle.pass_frames_proof.specs.pass_cells.Kept.{entry}
use Rattle.pass_frames_proof.specs.pass_fetch.Instrs.{term_operands}
use Rattle.pass_frames_proof.specs.pass_frames.Framed.{begin_of}
use Rattle.pass_frames_meaning.specs.Based.{IsBasedState, IsBeginAhead}
use Rattle.pass_frames_meaning.specs.Fresh.{IsWoken}
use Rattle.pass_frames_meaning.specs.Led.{IsLedState}
use Rattle.pass_frames_meaning.specs.Setting.{Setting}
use Rattle.pass_frames_proof.specs.Jumps.{label_at}
use Rattle.pass_frames_proof.specs.Passes.{block_at}
use Rattle.pass_frames_proof.specs.Phis.{IsOrdinaryBlock}
use Rattle.pass_frames_proof.specs.Places.{Framing, copies, edged, fetched, is_return, offsets, plan, written}
use Rattle.pass_frames_proof.specs.Related.{Building, IsKeptValue, is_coroutine}
use Rattle.pass_frames_proof.specs.Stepping.{IsPlacedOperand}
use Rattle.pass_frames_proof.specs.pass_kept_proof.SuspendRules.{IsCallAt}
use Rattle.pass_frames_proof.specs.run_framed.Framed.{begin_name}
use Rattle.pass_renewed_meaning.specs.run_hooks.Away.{IsPlacedState, KeepsAllPlaceRules}
use Rattle.pass_renewed_meaning.specs.run_hooks.Meanings.{renewed_hooks}
use Rattle.pass_frames_proof.specs.run_laws.changed.Changed.{Each}
use Rattle.pass_frames_proof.specs.run_source.State.{function_of}
use Rattle.pass_frames_proof.specs.run_source.declared.state.State.{State}
use Rattle.pass_frames_proof.specs.run_step.Step.{AtInstr, AtTerm, fetch}

-- P holds of each operand that comes to a phi from the block
abbrev pub EachComing : (Operand → Type 0) → Framing → ℕ → Type 0
EachComing P x block =
    Each (λ (c : Block). Each (λ (p : Phi). Each (λ (i : Incoming). i.from ≡ label_at x block → P i.value) p.incoming)
    c.phis) (edged x).blocks

-- The slots to which the terminator leads, and those that come to phis from the block, have their addresses, or poison,
-- and begin's value is the instance's frame: each path to a use of a slot there leads over begin.
pub record AreComing (b : Building) (s : State) : Type 0 where
  pub ends : Each (IsPlacedOperand (b.framing s.top.func) s)
      (term_operands (block_at (edged (b.framing s.top.func)) s.top.block).term)
  pub phis : EachComing (IsPlacedOperand (b.framing s.top.func) s) (b.framing s.top.func) s.top.block

-- ---- of the two modules

-- the operand names no slot in the frame
abbrev pub IsOutside : Framing → Operand → Type 0
IsOutside x (Operand.Local v) = v < length (edged x).names → (d : ℕ) → entry (offsets x) v ≡ Some d → ⊥
IsOutside x a = Unit {0}

-- A suspend takes the token of a save, and its switch alone uses its result, which is no kept value.
pub record IsToldSuspend (x : Framing) (result : Option ℕ) (args : List Arg) : Type 0 where
  pub token : ℕ
  pub takes : operand_at args 0 ≡ Operand.Local token
  pub unkept : (n : ℕ) → result ≡ Some n → entry (plan x).places n ≡ None

-- Of a block on a resume or destroy edge, behind a suspend of a number. Frames begin at their blocks' starts.
pub record IsEdgeBlock (x : Framing) (block : ℕ) : Type 0 where
  pub order : ℕ
  pub later : block ≢ 0
  pub behind : entry (plan x).returns (label_at x block) ≡ Some order
  pub again : again_row (plan x) (block_at (fetched x) block).label ≡ row_at (plan x).rows (Some order)
  pub resumed : flag_at (copies x).resumed (block_at (written x) block).label ≡ true
  pub low : order < length (suspends_of (edged x))
  pub names : AreAgainsInOrder x block (row_at (plan x).rows (Some order))
  pub row : (v : ℕ) (k : KeptValue) → (kept : IsKeptValue x v k)
      → IsListed kept.number (row_at (plan x).rows (Some order)) → IsInRow x 0 order v

-- of slots that are used before begin, and those of kept addresses
pub record AreEdgeSlots (x : Framing) : Type 0 where
  pub early : Each (IsEarlyInFrame x 0) (copies x).slots
  pub once : AreDifferent (cells_of (copies x).slots)
  pub local : (v slot : ℕ) (k : KeptValue) → IsKeptValue x v k → k.slot ≡ Some slot → IsLocalSlot x k slot

-- besides `KeepsAll`
pub record KeepsEnds (c : Setting) : Type 0 where
  -- K3, K5 and K6
  pub places : KeepsAllPlaceRules c.g.given
  -- a block that is no entry and to which no resume or destroy edge leads begins with the stores of its phis
  pub ordinary : (func k : ℕ) → is_coroutine c.b func ≡ true
      → slice_get (edged (c.b.framing func)).blocks k ≡ Some (block_at (edged (c.b.framing func)) k)
      → is_return (c.b.framing func) k ≡ false → k ≢ 0 → IsOrdinaryBlock (c.b.framing func) k
  -- K3, and each save is written behind the first pass
  pub suspends : (func block at : ℕ) (result : Option ℕ) (must_tail : Bool) (ty : Option Ty) (args : List Arg)
      → is_coroutine c.b func ≡ true
      → fetch (function_at c.g.given.code func) block at
      ≡ AtInstr (Instr.Call result must_tail ty (Callee.Intrinsic Intrinsic.CoroSuspend) args)
      → IsToldSuspend (c.b.framing func) result args
  -- K2
  pub begins : (func : ℕ) → is_coroutine c.b func ≡ true
      → begin_name (function_at c.g.given.code func) ≡ Some (begin_of (c.b.framing func).function)
  -- K5 and K9: where a path without begin leads no end stands, and nothing in the frame is used
  pub ends : (func : ℕ) (p : Point) → is_coroutine c.b func ≡ true
      → IsCallAt Intrinsic.CoroEnd (function_at c.g.given.code func) p
      → IsBeginAhead (function_at c.g.given.code func) p
      → ⊥
  pub terms : (func block at : ℕ) (e : Terminator) → is_coroutine c.b func ≡ true
      → fetch (function_at c.g.given.code func) block at ≡ AtTerm e
      → IsBeginAhead (function_at c.g.given.code func) (record { block = block; at = at })
      → Each (IsOutside (c.b.framing func)) (term_operands e)
      × EachComing (IsOutside (c.b.framing func)) (c.b.framing func) block

-- besides that, of blocks on resume and destroy edges
pub record KeepsEdges (c : Setting) : Type 0 where
  pub edges : (func block : ℕ) → is_coroutine c.b func ≡ true
      → slice_get (edged (c.b.framing func)).blocks block ≡ Some (block_at (edged (c.b.framing func)) block)
      → is_return (c.b.framing func) block ≡ true → IsEdgeBlock (c.b.framing func) block
  pub slots : (func : ℕ) → is_coroutine c.b func ≡ true → AreEdgeSlots (c.b.framing func)

-- ---- of a state in which a coroutine's activation makes no allocas again

pub record MayGoOn (c : Setting) (s : State) : Type 0 where
  pub placed : IsPlacedState (renewed_hooks c.g) s
  -- an activation without an instance stands before begin, and a coroutine's stands on another one
  pub based : IsBasedState c.g.given.code s
  -- the names of slots in frames lead there
  pub counts : ℕ → ℕ → Bool
  pub counted : (func v d : ℕ) → is_coroutine c.b func ≡ true → v < length (edged (c.b.framing func)).names
      → entry (offsets (c.b.framing func)) v ≡ Some d → counts func v ≡ true
  pub led : IsLedState c.g.given.code counts s

-- and of one that has come to a block on a resume or destroy edge
pub record MayLeaveEdge (c : Setting) (s : State) : Type 0 where
  -- a kept name's value fits the type in which it is kept
  pub storables : HasStorables c s
  -- no other activation comes to a block on a resume or destroy edge
  pub woken : is_coroutine c.b s.top.func ≡ true → is_return (c.b.framing s.top.func) s.top.block ≡ true → IsWoken s

-- ---- what is known of both

-- The fields of `AreOthersFollowed` on suspends, coro.end and ends of blocks.
pub record AreEndsKnown (c : Setting) (s t : State) : Type 0 where
  pub suspends : (result : Option ℕ) (must_tail : Bool) (ty : Option Ty) (args : List Arg)
      → fetch (function_of c.g.given s) s.top.block s.top.at
      ≡ AtInstr (Instr.Call result must_tail ty (Callee.Intrinsic Intrinsic.CoroSuspend) args)
      → MaySuspend c s result args
  pub end_calls : (result : Option ℕ) (must_tail : Bool) (ty : Option Ty) (args : List Arg)
      → fetch (function_of c.g.given s) s.top.block s.top.at
      ≡ AtInstr (Instr.Call result must_tail ty (Callee.Intrinsic Intrinsic.CoroEnd) args) → MayEnd s
  pub ends : (e : Terminator) → IsEnding e → fetch (function_of c.g.given s) s.top.block s.top.at ≡ AtTerm e
      → IsFollowed c.b c.g s t
