-- An instruction of a coroutine whose operands are fetched, whatever it does: what is asked of a state, and where its
-- parts stand.
use Rattle.std.specs.Prelude.{◌≡◌, ℕ, true, false, List, [], ◌∷◌, ◌++◌, ◌+◌, length, slice_get, Some}
use Rattle.pass_proofs.specs.ir_model.declared.instr.Instr.{Instr}
use Rattle.pass_proofs.specs.ir_parts.Contents.{instr_operands}
use Rattle.pass_proofs.specs.pass_addresses.Placing.{lies_outside, stays, without_promise_of}
use Rattle.pass_proofs.specs.pass_cells.Written.{save_row}
use Rattle.pass_proofs.specs.pass_copies.BeginCopies.{behind}
use Rattle.pass_proofs.specs.pass_front.Front.{is_no_alloca}
use Rattle.pass_frames_code.specs.Distances.{IsBelow}
use Rattle.pass_frames_code.specs.Places.{Framing, copies, edged, framed, instrs_at, is_return, marked, offsets, own_place, place, plan}
use Rattle.pass_frames_code.specs.Related.{Building, is_coroutine}
use Rattle.pass_frames_code.specs.Stepping.{AreNamesInOrder, AreOffsetsPlaced, IsBeginPlain, IsNotEntering, IsPlacedOperand, state_in}
use Rattle.pass_proofs.specs.run_laws.access.Lines.{StandAt}
use Rattle.pass_proofs.specs.run_laws.changed.Changed.{Each}
use Rattle.pass_proofs.specs.run_source.declared.state.State.{State}

-- The next step is an instruction of a coroutine. Its operands are names of the table, slots are used behind begin, and
-- new names come in the order of the passes.
pub record IsAtFetch (b : Building) (s : State) (i : Instr) : Type 0 where
  pub coroutine : is_coroutine b s.top.func ≡ true
  pub mode : IsNotEntering s.top.mode
  pub there : slice_get (instrs_at (b.framing s.top.func) s.top.block) s.top.at ≡ Some i
  pub unreturned : is_return (b.framing s.top.func) s.top.block ≡ false
  pub order : AreNamesInOrder (b.framing s.top.func) (state_in (b.framing s.top.func) s.top.block s.top.at) i
  pub below : Each (IsBelow (length (edged (b.framing s.top.func)).names)) (instr_operands i)
  pub begin : IsBeginPlain (b.framing s.top.func)
  pub offsets : AreOffsetsPlaced (b.framing s.top.func)
  pub room : length s.top.values ≡ length (edged (b.framing s.top.func)).names
  pub operands : Each (IsPlacedOperand (b.framing s.top.func) s) (instr_operands i)

-- no pass moves the instruction, or copies anything around it: it is no save, no begin, no marker, no alloca, and names
-- no promise
pub record IsLeftAlone (x : Framing) (i : Instr) : Type 0 where
  pub row : save_row (plan x) i ≡ []
  pub behind_it : behind (copies x) i ≡ []
  pub stays_it : stays (marked x) i ≡ true
  pub same : without_promise_of i ≡ i
  pub outside : lies_outside (offsets x) i ≡ true
  pub no_alloca : is_no_alloca i ≡ true

-- at the place of a point stands a line, then what is in the place of the instruction, and what stands behind it
pub record StandsAlone (x : Framing) (k at : ℕ) (front : List Instr) (last : Instr) (rest : List Instr) : Type 0 where
  pub stand : StandAt (framed x) k (place x (record { block = k; at = at })).at (front ++ (last ∷ rest))
  pub own : (own_place x (record { block = k; at = at })).at ≡ (place x (record { block = k; at = at })).at + length front
  pub next : (place x (record { block = k; at = at + 1 })).at
      ≡ (place x (record { block = k; at = at })).at + length (front ++ (last ∷ rest))
