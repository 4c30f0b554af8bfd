-- What each instruction of a coroutine becomes in its framed form, over all passes.
use Rattle.std.specs.Prelude.{ℕ, Bool, List, [], ◌∷◌, ◌++◌, Option}
use Rattle.pass_proofs.specs.ir_model.declared.instr.Instr.{Instr}
use Rattle.pass_proofs.specs.ir_model.declared.instr.Terminator.{Terminator}
use Rattle.pass_proofs.specs.ir_parts.Contents.{instr_operands, result_of}
use Rattle.pass_proofs.specs.pass_addresses.Placing.{slot_fetches}
use Rattle.pass_proofs.specs.pass_cells.Cells.{fetches_of}
use Rattle.pass_proofs.specs.pass_cells.Moves.{after_saved, saved_values}
use Rattle.pass_proofs.specs.pass_cells.Written.{distance_behind, save_row, stored_result}
use Rattle.pass_proofs.specs.pass_copies.BeginCopies.{behind as behind_begin}
use Rattle.pass_proofs.specs.pass_fetch.Blocks.{end_at}
use Rattle.pass_proofs.specs.pass_fetch.Fetching.{fetches_of_all}
use Rattle.pass_proofs.specs.pass_fetch.Instrs.{fetched_term, term_operands, with_fetched}
use Rattle.pass_proofs.specs.pass_fetch.declared.fetch.Fetch.{Fetch}
use Rattle.pass_proofs.specs.pass_frames.Framed.{begin_of}
use Rattle.pass_frames_code.specs.Layers.{IsIdle, grown, passed}
use Rattle.pass_frames_code.specs.Passes.{block_at, fetched_before, fetches_before, phi_ends, unmarked_at}
use Rattle.pass_frames_code.specs.Places.{Framing, Placed, addressing_layer, copies, copying_layer, edged, instrs_at, marked, named, offsets, placed_layer, plan, unmarked, writing_layer}
use Rattle.pass_proofs.specs.run_laws.changed.Changed.{Each}

-- ---- the next new names of the passes, and whether begin is ahead, where an instruction is met

abbrev pub load_name : Placed → ℕ
load_name s = s.0.0.0.0

abbrev pub write_name : Placed → ℕ
write_name s = s.0.0.0.1

abbrev pub is_ahead : Placed → Bool
is_ahead s = s.0.0.1.0

abbrev pub where_name : Placed → ℕ
where_name s = s.0.0.1.1

abbrev pub address_state : Placed → ℕ × Unit {0}
address_state s = s.1

-- ---- its parts, in their order

-- the loads of its kept operands, and the instruction with them
abbrev pub loads : Framing → Placed → Instr → List Instr
loads x s i = fetches_of_all (fetches_of (plan x)) (load_name s) (instr_operands i)

abbrev pub loaded : Framing → Placed → Instr → Instr
loaded x s i = with_fetched (fetches_of (plan x)) (load_name s) i

-- at a save the values that cross, on their way to their fields
abbrev pub saved : Framing → Placed → Instr → List Instr
saved x s i = saved_values (plan x).kept (write_name s) (save_row (plan x) (loaded x s i))

-- behind it the store into its cell, and that of its distance
abbrev pub stores : Framing → Placed → Instr → List Instr
stores x s i =
    stored_result (plan x) (result_of (loaded x s i))
    ++ distance_behind x.code (plan x) (after_saved (write_name s) (save_row (plan x) (loaded x s i))) (loaded x s i)

-- before begin the loads of the addresses of the slots that it accesses, and the instruction with them
abbrev pub wheres : Framing → Placed → Instr → List Instr
wheres x s i = fetches_before (copies x) (is_ahead s) (where_name s) (loaded x s i)

abbrev pub located : Framing → Placed → Instr → Instr
located x s i = fetched_before (copies x) (is_ahead s) (where_name s) (loaded x s i)

-- behind begin the copies of the slots that are used before
abbrev pub copied_there : Framing → Placed → Instr → List Instr
copied_there x s i = behind_begin (copies x) (loaded x s i)

-- ---- all of it: what lies in the frame has its address fetched, and markers and allocas of slots there go

abbrev pub addressed : Framing → ℕ → ℕ × Unit {0} → List Instr → List Instr
addressed x k n is = grown (addressing_layer x k) n is

abbrev pub past_addressed : Framing → ℕ → ℕ × Unit {0} → List Instr → ℕ × Unit {0}
past_addressed x k n is = passed (addressing_layer x k) n is

abbrev pub unmarked_one : Framing → Instr → List Instr
unmarked_one x i = grown (unmarked_at (marked x)) (tt, tt) (i ∷ [])

abbrev pub code_of : Framing → ℕ → Placed → Instr → List Instr
code_of x k s i =
    let one = unmarked_one x (located x s i) in
    let first = past_addressed x k (address_state s) (saved x s i) in
    let second = past_addressed x k first one in
    loads x s i
    ++ (addressed x k (address_state s) (saved x s i)
    ++ (wheres x s i ++ (addressed x k first one ++ (addressed x k second (copied_there x s i) ++ stores x s i))))

-- the later passes leave what the earlier ones put in, but for addresses of fields and slots
pub record ArePartsLeft (x : Framing) (k : ℕ) (s : Placed) (i : Instr) : Type 0 where
  pub written : Each (IsIdle (writing_layer x k)) (loads x s i)
  pub copied : Each (IsIdle (copying_layer x k)) (loads x s i ++ saved x s i)
  pub copied_behind : Each (IsIdle (copying_layer x k)) (stores x s i)
  pub unmarked : Each (IsIdle (unmarked_at (marked x))) ((loads x s i ++ saved x s i) ++ wheres x s i)
  pub unmarked_behind : Each (IsIdle (unmarked_at (marked x))) (copied_there x s i ++ stores x s i)
  pub addressed_loads : Each (IsIdle (addressing_layer x k)) (loads x s i)
  pub addressed_wheres : Each (IsIdle (addressing_layer x k)) (wheres x s i)
  pub addressed_stores : Each (IsIdle (addressing_layer x k)) (stores x s i)

-- ---- behind the last instruction: loads for phis that are entered from the block and for its terminator, and then
-- the addresses of slots for either

abbrev pub slot_table : Framing → List (Option Fetch)
slot_table x = slot_fetches (begin_of x.function) (offsets x)

-- the states behind the last instruction of a block
abbrev pub last_state : Framing → ℕ → Placed
last_state x k = passed (placed_layer x k) (placed_layer x k).start (instrs_at x k)

abbrev pub end_loads : Framing → ℕ → Placed → List Instr
end_loads x k s =
    end_at (phi_ends (named x) (fetches_of (plan x))) (block_at (edged x) k).label
    ++ fetches_of_all (fetches_of (plan x)) (load_name s) (term_operands (block_at (edged x) k).term)

abbrev pub end_addresses : Framing → ℕ → Placed → List Instr
end_addresses x k s =
    end_at (phi_ends (unmarked x) (slot_table x)) (block_at (unmarked x) k).label
    ++ fetches_of_all (slot_table x) (address_state s).0 (term_operands (block_at (unmarked x) k).term)

abbrev pub end_code : Framing → ℕ → Placed → List Instr
end_code x k s = end_loads x k s ++ end_addresses x k s

-- the terminator with what is loaded, and then with the addresses
abbrev pub end_term : Framing → Placed → Terminator → Terminator
end_term x s t = fetched_term (slot_table x) (address_state s).0 (fetched_term (fetches_of (plan x)) (load_name s) t)

-- ---- in front of the first instruction, before addresses are fetched: in the entry the allocas of temporaries and
-- cells, and the stores of parameters; in a block on a resume or destroy edge addresses of slots are put into their
-- cells, and what crosses is loaded; then phis are stored

abbrev pub front_moves : Framing → ℕ → List Instr
front_moves x k = (copying_layer x k).front ++ (writing_layer x k).front

abbrev pub front_code : Framing → ℕ → List Instr
front_code x k = addressed x k (addressing_layer x k).start (front_moves x k)
