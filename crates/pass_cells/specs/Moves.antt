-- Values on their way between cells and fields; n is the next new name.
use Rattle.std.specs.Prelude.{ℕ, false, List, [], slice_get, Some, None, Option, ◌+◌, ◌∷◌, ◌++◌}
use Rattle.ir_model.specs.Ty.{Ty, int, ptr}
use Rattle.ir_model.specs.declared.instr.Instr.{Instr}
use Rattle.ir_model.specs.declared.operand.Operand.{Operand}
use Rattle.pass_fetch.specs.Fetching.{value_bytes}
use Rattle.pass_cells.specs.declared.plan.KeptValue.{KeptValue}

abbrev pub load_from : ℕ → Ty → ℕ → Instr
load_from r t p = Instr.Load r t (Operand.Local p) (value_bytes t)

abbrev pub store_to : Ty → ℕ → ℕ → Instr
store_to t v p = Instr.Store (record { ty = t; value = Operand.Local v }) (Operand.Local p) (value_bytes t)

abbrev pub cell_alloca : ℕ → Ty → Instr
cell_alloca r t = Instr.Alloca r t (value_bytes t)

-- ---- before a save: one name for each value

abbrev pub saved_one : ℕ → Option KeptValue → List Instr
saved_one n None = []
saved_one n (Some k) = load_from n k.field_ty k.field_cell ∷ store_to k.field_ty n k.field ∷ []

abbrev pub saved_values : List KeptValue → ℕ → List ℕ → List Instr
saved_values kept n [] = []
saved_values kept n (k ∷ ks) = saved_one n (slice_get kept k) ++ saved_values kept (n + 1) ks

abbrev pub after_saved : ℕ → List ℕ → ℕ
after_saved n [] = n
after_saved n (k ∷ ks) = after_saved (n + 1) ks

-- ---- where a coroutine goes on: two names for each value

-- the address so far from a slot that is made anew
abbrev pub address_again : ℕ → ℕ → Option ℕ → List Instr
address_again n cell None = []
address_again n cell (Some slot) =
    Instr.Gep (n + 1) false (int 8) (Operand.Local slot) (record { ty = int 64; value = Operand.Local n } ∷ [])
    ∷ store_to ptr (n + 1) cell
    ∷ []

abbrev pub again_one : ℕ → Option KeptValue → List Instr
again_one n None = []
again_one n (Some k) = load_from n k.field_ty k.field ∷ store_to k.field_ty n k.field_cell ∷ address_again n k.cell k.slot

abbrev pub again_values : List KeptValue → ℕ → List ℕ → List Instr
again_values kept n [] = []
again_values kept n (k ∷ ks) = again_one n (slice_get kept k) ++ again_values kept (n + 2) ks

abbrev pub after_again : ℕ → List ℕ → ℕ
after_again n [] = n
after_again n (k ∷ ks) = after_again (n + 2) ks
