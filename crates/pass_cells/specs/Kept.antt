-- The values that are kept, their types, and those that cross each suspend.
use Rattle.std.specs.Prelude.{ℕ, Bool, true, false, List, [], length, replicate, slice_get, slice_set, Some, None, Option, ◌∷◌, ◌++◌, if◌then◌else◌}
use Rattle.ir_parts.specs.Contents.{result_of}
use Rattle.ir_model.specs.Ty.{Ty, int, ptr}
use Rattle.ir_model.specs.declared.instr.Instr.{Instr}
use Rattle.ir_model.specs.declared.instr.Phi.{Phi}
use Rattle.ir_model.specs.declared.module.Block.{Block}
use Rattle.ir_model.specs.declared.module.Function.{Function}
use Rattle.ir_model.specs.declared.module.Param.{Param}
use Rattle.pass_cells.specs.declared.keeping.Keeping.{Keeping}

-- ---- tables by name

abbrev pub joined : Option (Option ℕ) → Option ℕ
joined None = None
joined (Some told) = told

-- what a table tells of a name
abbrev pub entry : List (Option ℕ) → ℕ → Option ℕ
entry table v = joined (slice_get table v)

abbrev pub flag_or_false : Option Bool → Bool
flag_or_false None = false
flag_or_false (Some b) = b

abbrev pub is_flagged : List Bool → ℕ → Bool
is_flagged flags v = flag_or_false (slice_get flags v)

-- ---- the values, each once, in order, and the place of each

abbrev pub is_untold : Option (Option ℕ) → Bool
is_untold (Some None) = true
is_untold _ = false

abbrev pub is_new : List (Option ℕ) → ℕ → Bool
is_new places v = is_untold (slice_get places v)

abbrev pub with_value : Keeping → ℕ → Keeping
with_value k v =
    if is_new k.places v then record { values = k.values ++ v ∷ []; places = slice_set k.places v (Some (length k.values)) } else k

abbrev pub with_values : Keeping → List (ℕ × ℕ) → Keeping
with_values k [] = k
with_values k (p ∷ ps) = with_values (with_value k p.0) ps

-- of a function of so many names
abbrev pub keeping_of : ℕ → List (ℕ × ℕ) → Keeping
keeping_of count crossing = with_values (record { values = []; places = replicate count None }) crossing

-- ---- the places of the values that cross each suspend, in order

abbrev pub row_or : Option (List ℕ) → List ℕ
row_or None = []
row_or (Some row) = row

abbrev pub with_row : List (List ℕ) → ℕ → ℕ → List (List ℕ)
with_row rows j k = slice_set rows j (row_or (slice_get rows j) ++ k ∷ [])

abbrev pub with_row_of : List (List ℕ) → ℕ → Option ℕ → List (List ℕ)
with_row_of rows j None = rows
with_row_of rows j (Some k) = with_row rows j k

abbrev pub with_pair : List (Option ℕ) → List (List ℕ) → ℕ → ℕ → List (List ℕ)
with_pair places rows v j = with_row_of rows j (entry places v)

abbrev pub rows_from : List (Option ℕ) → List (List ℕ) → List (ℕ × ℕ) → List (List ℕ)
rows_from places rows [] = rows
rows_from places rows (p ∷ ps) = rows_from places (with_pair places rows p.0 p.1) ps

abbrev pub rows_of : List (Option ℕ) → ℕ → List (ℕ × ℕ) → List (List ℕ)
rows_of places suspends crossing = rows_from places (replicate suspends []) crossing

-- ---- types

abbrev pub answer_type : Option Ty → Ty
answer_type None = ptr
answer_type (Some t) = t

-- the type of an instruction's result
abbrev pub result_type : Instr → Ty
result_type (Instr.Binary r op flags ty left right) = ty
result_type (Instr.Icmp r pred ty left right) = int 1
result_type (Instr.Select r c a b) = a.ty
result_type (Instr.Cast r op nneg arg to) = to
result_type (Instr.Alloca r ty align) = ptr
result_type (Instr.Load r ty address align) = ty
result_type (Instr.Store arg address align) = ptr
result_type (Instr.Gep r inbounds ty base indices) = ptr
result_type (Instr.Call r must_tail ty callee args) = answer_type ty

abbrev pub with_type : List Ty → Option ℕ → Ty → List Ty
with_type types None t = types
with_type types (Some k) t = slice_set types k t

abbrev pub with_param_types : List (Option ℕ) → List Ty → List Param → List Ty
with_param_types places types [] = types
with_param_types places types (p ∷ ps) = with_param_types places (with_type types (entry places p.name) p.ty) ps

abbrev pub with_phi_types : List (Option ℕ) → List Ty → List Phi → List Ty
with_phi_types places types [] = types
with_phi_types places types (p ∷ ps) = with_phi_types places (with_type types (entry places p.result) p.ty) ps

abbrev pub with_result_type : List (Option ℕ) → List Ty → Option ℕ → Instr → List Ty
with_result_type places types None i = types
with_result_type places types (Some v) i = with_type types (entry places v) (result_type i)

abbrev pub with_result_types : List (Option ℕ) → List Ty → List Instr → List Ty
with_result_types places types [] = types
with_result_types places types (i ∷ is) = with_result_types places (with_result_type places types (result_of i) i) is

abbrev pub with_block_types : List (Option ℕ) → List Ty → List Block → List Ty
with_block_types places types [] = types
with_block_types places types (b ∷ bs) = with_block_types places (with_result_types places (with_phi_types places types b.phis) b.instrs) bs

-- the types of the values that are kept, in order
abbrev pub value_types : Function → Keeping → List Ty
value_types f k = with_block_types k.places (with_param_types k.places (replicate (length k.values) ptr) f.params) f.blocks
