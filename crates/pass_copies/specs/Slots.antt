-- The slots that are used before begin, with their temporaries and the cells of their addresses.
use Rattle.std.specs.Prelude.{ℕ, zero, suc, Bool, true, false, List, [], length, replicate, slice_get, slice_set, codes, Some, None, Option, unwrap_or, ◌+◌, ◌∷◌, ◌++◌, if◌then◌else◌}
use Rattle.ir_base.specs.declared.name.Name.{Name}
use Rattle.pass_intrinsics.specs.Shapes.{suspends_of}
use Rattle.pass_intrinsics.specs.declared.shape.SuspendPoint.{SuspendPoint}
use Rattle.ir_model.specs.Names.{numbered}
use Rattle.ir_model.specs.Ty.{Ty, ptr}
use Rattle.ir_model.specs.declared.instr.Instr.{Instr}
use Rattle.ir_model.specs.declared.module.Block.{Block}
use Rattle.ir_model.specs.declared.module.Function.{Function}
use Rattle.pass_fetch.specs.declared.fetch.Fetch.{Fetch}
use Rattle.pass_copies.specs.Uses.{flag_at}
use Rattle.pass_copies.specs.declared.slot.EarlySlot.{EarlySlot}

-- ---- the slots in order of their allocas; n is the next new name

abbrev pub early_slot : List ℕ → ℕ → ℕ → Ty → ℕ → EarlySlot
early_slot sizes n slot ty align =
    record { slot = slot; ty = ty; align = align; size = unwrap_or (slice_get sizes slot) 0; temporary = n; cell = n + 1 }

-- the slot of an alloca that is used before begin
abbrev pub slot_of : List Bool → List ℕ → ℕ → Instr → List EarlySlot
slot_of used sizes n (Instr.Alloca result ty align) = if flag_at used result then early_slot sizes n result ty align ∷ [] else []
slot_of used sizes n i = []

abbrev pub after_slot : List Bool → ℕ → Instr → ℕ
after_slot used n (Instr.Alloca result ty align) = if flag_at used result then n + 2 else n
after_slot used n i = n

abbrev pub slots_from : List Bool → List ℕ → ℕ → List Instr → List EarlySlot
slots_from used sizes n [] = []
slots_from used sizes n (i ∷ is) = slot_of used sizes n i ++ slots_from used sizes (after_slot used n i) is

abbrev pub entry_instrs : List Block → List Instr
entry_instrs [] = []
entry_instrs (b ∷ bs) = b.instrs

-- allocas stand in the entry block
abbrev pub early_slots : Function → List Bool → List ℕ → List EarlySlot
early_slots f used sizes = slots_from used sizes (length f.names) (entry_instrs f.blocks)

-- ---- their addresses are fetched from their cells

abbrev pub set_fetches : List (Option Fetch) → List EarlySlot → List (Option Fetch)
set_fetches table [] = table
set_fetches table (s ∷ ss) = set_fetches (slice_set table s.slot (Some (Fetch.Load ptr s.cell))) ss

abbrev pub fetches_of : Function → List EarlySlot → List (Option Fetch)
fetches_of f slots = set_fetches (replicate (length f.names) None) slots

-- ---- blocks on resume and destroy edges

abbrev pub set_resumed : List Bool → List SuspendPoint → List Bool
set_resumed flags [] = flags
set_resumed flags (p ∷ ps) = set_resumed (slice_set (slice_set flags p.resume true) p.destroy true) ps

-- for each label whether a suspend's resume or destroy edge leads to it
abbrev pub resumed_at : Function → List Bool
resumed_at f = set_resumed (replicate (length f.names) false) (suspends_of f)

-- ---- names

unfoldable pub early_name : ℕ → Name
early_name k = numbered (codes "$c.early.") k

unfoldable pub where_name : ℕ → Name
where_name k = numbered (codes "$c.where.") k

abbrev pub names_of_slot : ℕ → List Name
names_of_slot k = early_name k ∷ where_name k ∷ []

-- those of so many temporaries and cells
abbrev pub slot_names : ℕ → List Name
slot_names zero = []
slot_names (suc k) = slot_names k ++ names_of_slot k
