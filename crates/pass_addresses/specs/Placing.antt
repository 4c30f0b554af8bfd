-- Slots of a frame as bytes of it. A table says for each name how far behind begin's value its slot lies, where it lies in the frame.
use Rattle.std.specs.Prelude.{ℕ, Bool, true, false, List, codes, filter, map, slice_get, Some, None, Option, option_map, unwrap_or, ◌∷◌}
use Rattle.ir_model.specs.declared.instr.Instr.{Instr}
use Rattle.ir_model.specs.declared.module.Block.{Block}
use Rattle.ir_model.specs.declared.module.Function.{Function}
use Rattle.ir_model.specs.declared.operand.Arg.{Arg}
use Rattle.ir_model.specs.declared.operand.Callee.{Callee}
use Rattle.ir_model.specs.declared.operand.Intrinsic.{Intrinsic}
use Rattle.ir_model.specs.declared.operand.Operand.{Operand}
use Rattle.pass_fetch.specs.Blocks.{with_fetches}
use Rattle.pass_fetch.specs.declared.fetch.Fetch.{Fetch}

-- the block with its instructions turned
abbrev pub turned_block : (List Instr → List Instr) → Block → Block
turned_block turned b = record b { instrs = turned b.instrs }

-- the function with the instructions of each block turned
abbrev pub turned_function : (List Instr → List Instr) → Function → Function
turned_function turned f = record f { blocks = map (turned_block turned) f.blocks }

-- ---- markers

abbrev pub is_flagged : List Bool → Operand → Bool
is_flagged marked (Operand.Local v) = unwrap_or (slice_get marked v) false
is_flagged marked _ = false

-- a marker marks its second operand
abbrev pub marks_flagged : List Bool → List Arg → Bool
marks_flagged marked (size ∷ slot ∷ args) = is_flagged marked slot.value
marks_flagged marked _ = false

-- the instruction is no marker, or one of a flagged name
abbrev pub stays : List Bool → Instr → Bool
stays marked (Instr.Call r must_tail ty (Callee.Intrinsic Intrinsic.LifetimeStart) args) = marks_flagged marked args
stays marked (Instr.Call r must_tail ty (Callee.Intrinsic Intrinsic.LifetimeEnd) args) = marks_flagged marked args
stays marked _ = true

-- the markers of other names go
abbrev pub without_markers : List Bool → Function → Function
without_markers marked = turned_function (filter (stays marked))

-- ---- the promise

-- the second operand becomes null
abbrev pub with_null : List Arg → List Arg
with_null (align ∷ promise ∷ args) = align ∷ record promise { value = Operand.Null } ∷ args
with_null args = args

abbrev pub without_promise_of : Instr → Instr
without_promise_of (Instr.Call r must_tail ty (Callee.Intrinsic Intrinsic.CoroId) args) = Instr.Call r must_tail ty (Callee.Intrinsic Intrinsic.CoroId) (with_null args)
without_promise_of i = i

-- coro.id names no promise
abbrev pub without_promise : Function → Function
without_promise f = turned_function (map without_promise_of) f

-- ---- addresses

-- a slot of the frame is the address so far behind begin's value
abbrev pub slot_fetches : ℕ → List (Option ℕ) → List (Option Fetch)
slot_fetches begin offsets = map (option_map (Fetch.Address begin)) offsets

-- ---- allocas

abbrev pub is_none : Option ℕ → Bool
is_none None = true
is_none (Some d) = false

-- the instruction is no alloca, or one that doesn't lie in the frame
abbrev pub lies_outside : List (Option ℕ) → Instr → Bool
lies_outside offsets (Instr.Alloca r ty align) = is_none (unwrap_or (slice_get offsets r) None)
lies_outside offsets _ = true

-- the allocas of slots in the frame go
abbrev pub without_slots : List (Option ℕ) → Function → Function
without_slots offsets = turned_function (filter (lies_outside offsets))

-- ---- the pass

abbrev pub with_frame_addresses : Function → ℕ → List (Option ℕ) → List Bool → Function
with_frame_addresses f begin offsets marked =
    without_slots offsets (with_fetches (without_promise (without_markers marked f)) (slot_fetches begin offsets) (codes "$c.at."))
