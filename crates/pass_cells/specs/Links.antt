-- The links between local slots and the values that are kept, and the names of cells and fields.
use Rattle.std.specs.Prelude.{ℕ, zero, suc, Bool, true, false, List, [], length, map, replicate, slice_set, Some, None, Option, ◌+◌, ◌*◌, ◌∷◌, if◌then◌else◌}
use Rattle.ir_model.specs.Calls.{or_else}
use Rattle.ir_model.specs.declared.instr.Instr.{Instr}
use Rattle.ir_model.specs.declared.module.Block.{Block}
use Rattle.ir_model.specs.declared.module.Function.{Function}
use Rattle.ir_model.specs.declared.operand.Operand.{Operand}
use Rattle.pass_cells.specs.Kept.{entry, is_flagged}

-- ---- names, behind those of the function: cells, fields and cells of distances of so many values, and cells of links

abbrev pub cell_name : ℕ → ℕ → ℕ
cell_name first k = first + k

abbrev pub field_name : ℕ → ℕ → ℕ → ℕ
field_name first count k = first + count + k

abbrev pub distance_name : ℕ → ℕ → ℕ → ℕ
distance_name first count k = first + 2 * count + k

abbrev pub link_name : ℕ → ℕ → ℕ → ℕ
link_name first count i = first + 2 * count + count + i

-- ---- for each name the base of the getelementptr that makes it

abbrev pub with_base : List (Option ℕ) → Instr → List (Option ℕ)
with_base bases (Instr.Gep r inbounds ty (Operand.Local b) indices) = slice_set bases r (Some b)
with_base bases _ = bases

abbrev pub with_bases_in : List (Option ℕ) → List Instr → List (Option ℕ)
with_bases_in bases [] = bases
with_bases_in bases (i ∷ is) = with_bases_in (with_base bases i) is

abbrev pub with_bases_by : List (Option ℕ) → List Block → List (Option ℕ)
with_bases_by bases [] = bases
with_bases_by bases (b ∷ bs) = with_bases_by (with_bases_in bases b.instrs) bs

abbrev pub bases_of : Function → List (Option ℕ)
bases_of f = with_bases_by (replicate (length f.names) None) f.blocks

-- ---- where chains of bases end

abbrev pub further : List (Option ℕ) → Option ℕ → Option ℕ
further t None = None
further t (Some u) = or_else (entry t u) (Some u)

-- the table that leads twice as far
abbrev pub jumped : List (Option ℕ) → List (Option ℕ)
jumped t = map (further t) t

unfoldable pub roots_after : ℕ → List (Option ℕ) → List (Option ℕ)
roots_after zero t = t
roots_after (suc k) t = roots_after k (jumped t)

-- no chain is longer than 2^64
unfoldable pub roots_of : List (Option ℕ) → List (Option ℕ)
roots_of bases = roots_after 64 bases

abbrev pub slot_by : List Bool → Option ℕ → Option ℕ
slot_by local None = None
slot_by local (Some s) = if is_flagged local s then Some s else None

-- for each result of a getelementptr in a chain from a local slot that slot
abbrev pub slots_of : List Bool → List (Option ℕ) → List (Option ℕ)
slots_of local bases = map (slot_by local) (roots_of bases)

-- ---- the links of which distances are kept: the values, and what stands above them

abbrev pub unmarked_by : Option ℕ → Bool → ℕ → Option ℕ
unmarked_by None marked u = None
unmarked_by (Some s) true u = None
unmarked_by (Some s) false u = Some u

-- a link that isn't marked yet
abbrev pub unmarked : List (Option ℕ) → List Bool → Option ℕ → Option ℕ
unmarked slots marks None = None
unmarked slots marks (Some u) = unmarked_by (entry slots u) (is_flagged marks u) u

-- a link and those above it are marked, up to one that is; at most so many
abbrev pub climbed : List (Option ℕ) → List (Option ℕ) → ℕ → List Bool → Option ℕ → List Bool
climbed bases slots zero marks at = marks
climbed bases slots (suc n) marks None = marks
climbed bases slots (suc n) marks (Some u) = climbed bases slots n (slice_set marks u true) (unmarked slots (slice_set marks u true) (entry bases u))

abbrev pub with_climbs : List (Option ℕ) → List (Option ℕ) → ℕ → List Bool → List ℕ → List Bool
with_climbs bases slots turns marks [] = marks
with_climbs bases slots turns marks (v ∷ vs) = with_climbs bases slots turns (climbed bases slots turns marks (unmarked slots marks (Some v))) vs

abbrev pub marks_of : List (Option ℕ) → List (Option ℕ) → List ℕ → List Bool
marks_of bases slots values = with_climbs bases slots (length bases) (replicate (length bases) false) values

-- ---- their cells

-- links is the number of those so far that aren't kept
abbrev pub distance_cell : ℕ → ℕ → ℕ → Bool → Option ℕ → Option ℕ
distance_cell first count links false place = None
distance_cell first count links true None = Some (link_name first count links)
distance_cell first count links true (Some k) = Some (distance_name first count k)

abbrev pub links_after : ℕ → Bool → Option ℕ → ℕ
links_after links false place = links
links_after links true None = links + 1
links_after links true (Some k) = links

-- of the names from v on
abbrev pub cells_from : ℕ → ℕ → List (Option ℕ) → ℕ → ℕ → List Bool → List (Option ℕ)
cells_from first count places v links [] = []
cells_from first count places v links (m ∷ ms) =
    distance_cell first count links m (entry places v) ∷ cells_from first count places (v + 1) (links_after links m (entry places v)) ms

abbrev pub links_from : List (Option ℕ) → ℕ → ℕ → List Bool → ℕ
links_from places v links [] = links
links_from places v links (m ∷ ms) = links_from places (v + 1) (links_after links m (entry places v)) ms
