-- What stands around the instructions and at the fronts of the blocks; n is the next new name.
use Rattle.std.specs.Prelude.{ℕ, zero, suc, List, [], length, slice_get, Some, None, Option, ◌∷◌, ◌++◌}
use Rattle.ir_parts.specs.Contents.{result_of}
use Rattle.pass_distances.specs.Sums.{distance_instrs, distance_next}
use Rattle.pass_distances.specs.Ways.{ways_of}
use Rattle.ir_model.specs.Ty.{Ty, int}
use Rattle.ir_model.specs.declared.instr.Instr.{Instr}
use Rattle.ir_model.specs.declared.instr.Phi.{Phi}
use Rattle.ir_model.specs.declared.module.Block.{Block}
use Rattle.ir_model.specs.declared.module.Module.{Module}
use Rattle.ir_model.specs.declared.module.Param.{Param}
use Rattle.ir_model.specs.declared.operand.Arg.{Arg}
use Rattle.ir_model.specs.declared.operand.Callee.{Callee}
use Rattle.ir_model.specs.declared.operand.Intrinsic.{Intrinsic}
use Rattle.pass_cells.specs.Kept.{entry, row_or}
use Rattle.pass_cells.specs.Links.{link_name}
use Rattle.pass_cells.specs.Moves.{after_again, after_saved, again_values, cell_alloca, saved_values, store_to}
use Rattle.pass_cells.specs.declared.plan.KeptValue.{KeptValue}
use Rattle.pass_cells.specs.declared.plan.Plan.{Plan}

-- ---- before an instruction: at a save the values that cross its suspend

abbrev pub row_at : List (List ℕ) → Option ℕ → List ℕ
row_at rows None = []
row_at rows (Some j) = row_or (slice_get rows j)

-- the suspend whose save an instruction is
abbrev pub save_at : List (Option ℕ) → Instr → Option ℕ
save_at saves (Instr.Call (Some r) must_tail ty (Callee.Intrinsic Intrinsic.CoroSave) args) = entry saves r
save_at saves _ = None

abbrev pub save_row : Plan → Instr → List ℕ
save_row p i = row_at p.rows (save_at p.saves i)

-- ---- behind it: a value that is kept goes into its cell

abbrev pub stored_one : ℕ → Option KeptValue → List Instr
stored_one v None = []
stored_one v (Some k) = store_to k.ty v k.cell ∷ []

abbrev pub stored_at : List KeptValue → ℕ → Option ℕ → List Instr
stored_at kept v None = []
stored_at kept v (Some k) = stored_one v (slice_get kept k)

abbrev pub stored : Plan → ℕ → List Instr
stored p v = stored_at p.kept v (entry p.places v)

abbrev pub stored_result : Plan → Option ℕ → List Instr
stored_result p None = []
stored_result p (Some v) = stored p v

-- ---- and the distance of a getelementptr, where it has a cell

abbrev pub cell_of : List (Option ℕ) → Option ℕ → Option ℕ
cell_of cells None = None
cell_of cells (Some base) = entry cells base

-- the cell of the distance from which it goes on
abbrev pub distance_from : Plan → ℕ → Option ℕ
distance_from p v = cell_of p.cells (entry p.bases v)

abbrev pub distance_into : Module → Option ℕ → ℕ → Option ℕ → Ty → List Arg → List Instr
distance_into m from n None t indices = []
distance_into m from n (Some cell) t indices = distance_instrs n from cell (ways_of m t indices)

abbrev pub after_distance_into : Module → ℕ → Option ℕ → Ty → List Arg → ℕ
after_distance_into m n None t indices = n
after_distance_into m n (Some cell) t indices = distance_next n (ways_of m t indices)

abbrev pub distance_behind : Module → Plan → ℕ → Instr → List Instr
distance_behind m p n (Instr.Gep r inbounds ty base indices) = distance_into m (distance_from p r) n (entry p.cells r) ty indices
distance_behind m p n _ = []

abbrev pub after_distance : Module → Plan → ℕ → Instr → ℕ
after_distance m p n (Instr.Gep r inbounds ty base indices) = after_distance_into m n (entry p.cells r) ty indices
after_distance m p n _ = n

-- ---- instructions

abbrev pub written_one : Module → Plan → ℕ → Instr → List Instr
written_one m p n i =
    saved_values p.kept n (save_row p i) ++ i ∷ stored_result p (result_of i) ++ distance_behind m p (after_saved n (save_row p i)) i

abbrev pub after_one : Module → Plan → ℕ → Instr → ℕ
after_one m p n i = after_distance m p (after_saved n (save_row p i)) i

abbrev pub written_instrs : Module → Plan → ℕ → List Instr → List Instr
written_instrs m p n [] = []
written_instrs m p n (i ∷ is) = written_one m p n i ++ written_instrs m p (after_one m p n i) is

abbrev pub after_instrs : Module → Plan → ℕ → List Instr → ℕ
after_instrs m p n [] = n
after_instrs m p n (i ∷ is) = after_instrs m p (after_one m p n i) is

-- ---- blocks: where a resume or destroy edge leads to one, the values that cross are loaded again

abbrev pub again_row : Plan → ℕ → List ℕ
again_row p label = row_at p.rows (entry p.returns label)

abbrev pub stored_phis : Plan → List Phi → List Instr
stored_phis p [] = []
stored_phis p (x ∷ xs) = stored p x.result ++ stored_phis p xs

abbrev pub written_block : Module → Plan → List Instr → ℕ → Block → Block
written_block m p front n b =
    record {
      label = b.label;
      phis = b.phis;
      instrs = front ++ again_values p.kept n (again_row p b.label) ++ stored_phis p b.phis ++ written_instrs m p (after_again n (again_row p b.label)) b.instrs;
      term = b.term;
    }

abbrev pub after_block : Module → Plan → ℕ → Block → ℕ
after_block m p n b = after_instrs m p (after_again n (again_row p b.label)) b.instrs

abbrev pub written_blocks : Module → Plan → ℕ → List Block → List Block
written_blocks m p n [] = []
written_blocks m p n (b ∷ bs) = written_block m p [] n b ∷ written_blocks m p (after_block m p n b) bs

abbrev pub after_blocks : Module → Plan → ℕ → List Block → ℕ
after_blocks m p n [] = n
after_blocks m p n (b ∷ bs) = after_blocks m p (after_block m p n b) bs

-- the first block stands behind the front of the function
abbrev pub entry_blocks : Module → Plan → List Instr → ℕ → List Block → List Block
entry_blocks m p front n [] = []
entry_blocks m p front n (b ∷ bs) = written_block m p front n b ∷ written_blocks m p (after_block m p n b) bs

-- ---- the front of the function: cells and fields, and the parameters' stores

abbrev pub distance_alloca : ℕ → Ty → Option ℕ → List Instr
distance_alloca cell t None = []
distance_alloca cell t (Some slot) = cell_alloca cell t ∷ []

abbrev pub distance_allocas : KeptValue → List Instr
distance_allocas k = distance_alloca k.field_cell k.field_ty k.slot

abbrev pub kept_allocas : List KeptValue → List Instr
kept_allocas [] = []
kept_allocas (k ∷ ks) = cell_alloca k.cell k.ty ∷ cell_alloca k.field k.field_ty ∷ distance_allocas k ++ kept_allocas ks

-- of so many links behind the names of so many values
abbrev pub link_allocas : ℕ → ℕ → ℕ → List Instr
link_allocas first count zero = []
link_allocas first count (suc i) = link_allocas first count i ++ cell_alloca (link_name first count i) (int 64) ∷ []

abbrev pub stored_params : Plan → List Param → List Instr
stored_params p [] = []
stored_params p (x ∷ xs) = stored p x.name ++ stored_params p xs

abbrev pub entry_front : Plan → List Param → List Instr
entry_front p params = kept_allocas p.kept ++ link_allocas p.first (length p.kept) p.links ++ stored_params p params
