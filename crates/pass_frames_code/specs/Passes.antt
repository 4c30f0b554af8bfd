-- The passes that build frames, as layers: what each of them makes of a block, whose names it begins with.
use Rattle.std.specs.Prelude.{◌≡◌, ℕ, Bool, List, [], length, replicate, take, filter, slice_get, Some, None, Option, unwrap_or, ◌++◌, if◌then◌else◌, ◌==◌}
use Rattle.pass_proofs.specs.ir_model.declared.instr.Instr.{Instr}
use Rattle.pass_proofs.specs.ir_model.declared.instr.Terminator.{Terminator}
use Rattle.pass_proofs.specs.ir_model.declared.module.Block.{Block}
use Rattle.pass_proofs.specs.ir_model.declared.module.Function.{Function}
use Rattle.pass_proofs.specs.ir_model.declared.module.Module.{Module}
use Rattle.pass_proofs.specs.ir_parts.Contents.{instr_operands, result_of}
use Rattle.pass_proofs.specs.pass_addresses.Placing.{lies_outside, slot_fetches, stays, without_promise_of}
use Rattle.pass_proofs.specs.pass_cells.Kept.{entry}
use Rattle.pass_proofs.specs.pass_cells.Moves.{after_again, after_saved, again_values, saved_values}
use Rattle.pass_proofs.specs.pass_cells.Written.{after_blocks as after_written, after_one, again_row, distance_behind, save_row, stored_phis, stored_result}
use Rattle.pass_proofs.specs.pass_cells.declared.plan.Plan.{Plan}
use Rattle.pass_proofs.specs.pass_copies.BeginCopies.{after_blocks as after_copied, after_instr, behind as behind_begin, block_front, is_fetched}
use Rattle.pass_proofs.specs.pass_copies.Uses.{flag_at, still_before}
use Rattle.pass_proofs.specs.pass_copies.declared.copying.Copying.{Copying}
use Rattle.pass_proofs.specs.pass_fetch.Blocks.{end_at, ends_of_blocks, next_after_blocks, next_after_phis_by}
use Rattle.pass_proofs.specs.pass_fetch.Fetching.{fetches_of_all}
use Rattle.pass_proofs.specs.pass_fetch.Instrs.{fetched_term, next_after_instr, term_operands, with_fetched}
use Rattle.pass_proofs.specs.pass_fetch.declared.fetch.Fetch.{Fetch}
use Rattle.pass_proofs.specs.pass_front.Front.{is_alloca, is_no_alloca}
use Rattle.pass_frames_code.specs.Layers.{IsMadeBy, Layer, both, each, led_by, only, woven}

-- ---- operands are fetched anew by a table; ends is what is fetched for phis at the end of the block

abbrev pub fetching : List (Option Fetch) → List Instr → ℕ → Block → Layer ℕ
fetching t ends first b =
    record {
      front = [];
      start = first;
      before = λ n i. fetches_of_all t n (instr_operands i);
      here = λ n i. Some (with_fetched t n i);
      behind = λ n i. [];
      after = λ n i. next_after_instr t n i;
      back = λ n. ends ++ fetches_of_all t n (term_operands b.term);
      term = λ n x. fetched_term t n x;
    }

-- ---- values are put into cells, kept at saves, and loaded again

abbrev pub writing : Module → Plan → List Instr → ℕ → Block → Layer ℕ
writing m p front first b =
    record {
      front = front ++ again_values p.kept first (again_row p b.label) ++ stored_phis p b.phis;
      start = after_again first (again_row p b.label);
      before = λ n i. saved_values p.kept n (save_row p i);
      here = λ n i. Some i;
      behind = λ n i. stored_result p (result_of i) ++ distance_behind m p (after_saved n (save_row p i)) i;
      after = λ n i. after_one m p n i;
      back = λ n. [];
      term = λ n x. x;
    }

-- ---- slots that are used before begin go by cells there, and are copied at begin; the flag says whether begin is
-- ahead

abbrev pub fetches_before : Copying → Bool → ℕ → Instr → List Instr
fetches_before c is_before n i = if is_fetched is_before i then fetches_of_all c.fetches n (instr_operands i) else []

abbrev pub fetched_before : Copying → Bool → ℕ → Instr → Instr
fetched_before c is_before n i = if is_fetched is_before i then with_fetched c.fetches n i else i

abbrev pub copying : Copying → List Bool → List Instr → ℕ → Block → Layer (Bool × ℕ)
copying c before front first b =
    record {
      front = front ++ block_front c b.label;
      start = (flag_at before b.label, first);
      before = λ x i. fetches_before c x.0 x.1 i;
      here = λ x i. Some (fetched_before c x.0 x.1 i);
      behind = λ x i. behind_begin c i;
      after = λ x i. (still_before x.0 i, after_instr c x.0 x.1 i);
      back = λ x. [];
      term = λ x t. t;
    }

-- ---- the block of a function at a position

abbrev pub no_block : Block
no_block = record { label = 0; phis = []; instrs = []; term = Terminator.Unreachable }

abbrev pub block_at : Function → ℕ → Block
block_at f k = unwrap_or (slice_get f.blocks k) no_block

-- what a function stands in front of, if the block is the entry
abbrev pub at_entry : ℕ → List Instr → List Instr
at_entry k front = if k == 0 then front else []

-- ---- the passes over a function, at a block

abbrev pub phi_ends : Function → List (Option Fetch) → List (List Instr)
phi_ends f t = ends_of_blocks t (length f.names) (replicate (length f.names) []) f.blocks

-- the next new name where the block begins
abbrev pub fetched_first : Function → List (Option Fetch) → ℕ → ℕ
fetched_first f t k = next_after_blocks t (next_after_phis_by t (length f.names) f.blocks) (take k f.blocks)

abbrev pub fetching_at : Function → List (Option Fetch) → ℕ → Layer ℕ
fetching_at f t k = fetching t (end_at (phi_ends f t) (block_at f k).label) (fetched_first f t k) (block_at f k)

abbrev pub writing_at : Module → Plan → List Instr → Function → ℕ → Layer ℕ
writing_at m p front f k =
    writing m p (at_entry k front) (after_written m p (length f.names) (take k f.blocks)) (block_at f k)

abbrev pub copying_at : Copying → List Bool → List Instr → ℕ → Function → ℕ → Layer (Bool × ℕ)
copying_at c before front first f k =
    copying c before (at_entry k front) (after_copied c before first (take k f.blocks)) (block_at f k)

-- markers and the promise go, slots become bytes of the frame, and their allocas go
abbrev pub unmarked_at : List Bool → Layer (Unit {0} × Unit {0})
unmarked_at marked = both (only (stays marked)) (each without_promise_of)

abbrev pub addressed_at : Function → ℕ → List (Option ℕ) → ℕ → Layer (ℕ × Unit {0})
addressed_at f begin offsets k = both (fetching_at f (slot_fetches begin offsets) k) (only (lies_outside offsets))

-- the allocas of what a layer makes of a block stand in front
abbrev pub allocas_led : {S : Type 0} → Layer S → List Instr → Layer (S × Unit {0})
allocas_led L is = led_by (filter is_alloca (woven L is)) (both L (only is_no_alloca))

-- ---- what passes leave as it is

-- the instruction makes no distance that has a cell
abbrev pub IsUnmeasured : Plan → Instr → Type 0
IsUnmeasured p (Instr.Gep r inbounds ty base indices) = entry p.cells r ≡ None
IsUnmeasured p i = Unit {0}

-- it is no save of values that cross, and its result is kept in no cell
pub record IsUnwritten (p : Plan) (i : Instr) : Type 0 where
  pub row : save_row p i ≡ []
  pub result : (v : ℕ) → result_of i ≡ Some v → entry p.places v ≡ None
  pub distance : IsUnmeasured p i

-- ---- functions

-- where f has a block, g has what the layer makes of it
abbrev pub IsBlockMade : {S : Type 0} → Layer S → Function → Function → ℕ → Type 0
IsBlockMade L f g k = (b : Block) → slice_get f.blocks k ≡ Some b
    → (c : Block) × (slice_get g.blocks k ≡ Some c) × IsMadeBy L b c
