-- The framed form of a coroutine, block by block: what each instruction of the coroutine with blocks on edges has
-- become,
-- and where its places are then.
use Rattle.std.specs.Prelude.{ℕ, Bool, true, false, List, length, filter, Option, ◌∷◌, ◌==◌}
use Rattle.pass_proofs.specs.frame_classes.declared.class.SlotClass.{SlotClass}
use Rattle.pass_proofs.specs.frame_contents.declared.contents.Contents.{Contents}
use Rattle.pass_proofs.specs.frame_layout.declared.layout.Layout.{Layout}
use Rattle.pass_proofs.specs.ir_model.declared.instr.Instr.{Instr}
use Rattle.pass_proofs.specs.ir_model.declared.module.Function.{Function}
use Rattle.pass_proofs.specs.ir_model.declared.module.Module.{Module}
use Rattle.pass_proofs.specs.ir_paths.declared.point.Point.{Point}
use Rattle.pass_proofs.specs.pass_addresses.Placing.{without_markers, without_promise}
use Rattle.pass_proofs.specs.pass_cells.Cells.{fetched_function, fetches_of, named_function, written_function}
use Rattle.pass_proofs.specs.pass_cells.Plan.{plan_of}
use Rattle.pass_proofs.specs.pass_cells.Written.{entry_front as cells_front}
use Rattle.pass_proofs.specs.pass_cells.declared.plan.Plan.{Plan}
use Rattle.pass_proofs.specs.pass_copies.BeginCopies.{copied_function, copying_of, entry_front as copies_front, first_fetched}
use Rattle.pass_proofs.specs.pass_copies.Slots.{early_slots, resumed_at}
use Rattle.pass_proofs.specs.pass_copies.Uses.{flag_at, used_before}
use Rattle.pass_proofs.specs.pass_copies.declared.copying.Copying.{Copying}
use Rattle.pass_proofs.specs.pass_edges.EdgeBlocks.{with_edge_blocks}
use Rattle.pass_proofs.specs.pass_frames.Framed.{IsFramedCoroutine, begin_block, begin_of, celled, copied, offsets_of, placed}
use Rattle.pass_proofs.specs.pass_frames.Tables.{class_flags, label_flags, sizes_by_name}
use Rattle.pass_proofs.specs.pass_front.Front.{is_alloca, with_front_allocas}
use Rattle.pass_frames_code.specs.Layers.{Layer, both, own_place_in, place_in, up_to}
use Rattle.pass_frames_code.specs.Passes.{addressed_at, allocas_led, block_at, copying_at, fetching_at, unmarked_at, writing_at}

-- ---- what the passes go by

-- a coroutine of a module, what its frame holds and where, and the blocks before begin
pub record Framing : Type 0 where
  pub code : Module
  pub layout : Layout
  pub function : Function
  pub contents : Contents
  pub before : List ℕ

-- the coroutine with blocks on edges
abbrev pub edged : Framing → Function
edged x = with_edge_blocks x.function

abbrev pub plan : Framing → Plan
plan x = plan_of (edged x) x.contents.crossing (class_flags x.function x.contents.classes SlotClass.Local)

-- with names for cells, with its uses loaded, and with all values in cells
abbrev pub named : Framing → Function
named x = named_function (plan x) (edged x)

abbrev pub fetched : Framing → Function
fetched x = fetched_function (plan x) (edged x)

abbrev pub written : Framing → Function
written x = written_function x.code (plan x) (fetched x)

-- the labels of the blocks before begin
abbrev pub before_labels : Framing → List Bool
before_labels x = label_flags (written x) (begin_block (written x) ∷ x.before)

abbrev pub copies : Framing → Copying
copies x =
    copying_of (written x)
    (early_slots (written x)
    (used_before (written x) (class_flags x.function x.contents.classes SlotClass.Frame) (before_labels x))
    (sizes_by_name x.function x.contents.held))

-- with its slots copied at begin, and then without markers and promise
abbrev pub with_copies : Framing → Function
with_copies x = copied_function (written x) (before_labels x) (copies x)

abbrev pub marked : Framing → List Bool
marked x = class_flags x.function x.contents.classes SlotClass.Ramp

abbrev pub unmarked : Framing → Function
unmarked x = without_promise (without_markers (marked x) (with_copies x))

abbrev pub offsets : Framing → List (Option ℕ)
offsets x = offsets_of x.layout x.function x.contents (length (with_copies x).names)

-- the framed form
abbrev pub framed : Framing → Function
framed x = with_front_allocas
    (placed x.layout x.function x.contents
    (copied x.function x.contents (celled x.code x.function x.contents) x.before))

-- what a framed coroutine was framed by
abbrev pub framing_of : (m : Module) (l : Layout) (f g : Function) → IsFramedCoroutine m l f g → Framing
framing_of m l f g c = record { code = m; layout = l; function = f; contents = c.contents; before = c.before }

-- ---- all layers at a block

-- the states: of loads, of cells, of copies, of markers, of addresses, each in turn
abbrev pub Celled : Type 0
Celled = ℕ × ℕ

abbrev pub Copied : Type 0
Copied = Celled × (Bool × ℕ)

abbrev pub Unmarked : Type 0
Unmarked = Copied × (Unit {0} × Unit {0})

abbrev pub Placed : Type 0
Placed = Unmarked × (ℕ × Unit {0})

abbrev pub loading_layer : Framing → ℕ → Layer ℕ
loading_layer x k = fetching_at (named x) (fetches_of (plan x)) k

abbrev pub writing_layer : Framing → ℕ → Layer ℕ
writing_layer x k = writing_at x.code (plan x) (cells_front (plan x) (edged x).params) (fetched x) k

abbrev pub copying_layer : Framing → ℕ → Layer (Bool × ℕ)
copying_layer x k =
    copying_at (copies x) (before_labels x) (copies_front (copies x).slots) (first_fetched (written x) (copies x))
    (written x) k

abbrev pub addressing_layer : Framing → ℕ → Layer (ℕ × Unit {0})
addressing_layer x k = addressed_at (unmarked x) (begin_of x.function) (offsets x) k

abbrev pub celled_layer : Framing → ℕ → Layer Celled
celled_layer x k = both (loading_layer x k) (writing_layer x k)

abbrev pub copied_layer : Framing → ℕ → Layer Copied
copied_layer x k = both (celled_layer x k) (copying_layer x k)

abbrev pub unmarked_layer : Framing → ℕ → Layer Unmarked
unmarked_layer x k = both (copied_layer x k) (unmarked_at (marked x))

-- of all passes but the last one
abbrev pub placed_layer : Framing → ℕ → Layer Placed
placed_layer x k = both (unmarked_layer x k) (addressing_layer x k)

-- the entry's allocas stand in front
abbrev pub entry_layer : Framing → Layer (Placed × Unit {0})
entry_layer x = allocas_led (placed_layer x 0) (block_at (edged x) 0).instrs

-- ---- places

abbrev pub instrs_at : Framing → ℕ → List Instr
instrs_at x k = (block_at (edged x) k).instrs

-- a resume or destroy edge leads to the block
abbrev pub is_return : Framing → ℕ → Bool
is_return x k = flag_at (resumed_at (edged x)) (block_at (edged x) k).label

abbrev pub place_by : Framing → Point → Bool → Bool → ℕ
place_by x p true is_entry = 0
place_by x p false true = place_in (entry_layer x) (instrs_at x 0) p.at
place_by x p false false = place_in (placed_layer x p.block) (instrs_at x p.block) p.at

-- where that begins which stands at a point: in front of what is woven in front of the instruction, and behind what
-- is
-- woven behind the one before. The first point of a block is behind all that stands in front there, but for a block
-- to
-- which a resume or destroy edge leads.
abbrev pub place : Framing → Point → Point
place x p = record { block = p.block; at = place_by x p (is_return x p.block) (p.block == 0) }

abbrev pub own_place_by : Framing → Point → Bool → ℕ
own_place_by x p true = own_place_in (entry_layer x) (instrs_at x 0) p.at
own_place_by x p false = own_place_in (placed_layer x p.block) (instrs_at x p.block) p.at

-- where the instruction itself stands, or what stands in its place
abbrev pub own_place : Framing → Point → Point
own_place x p = record { block = p.block; at = own_place_by x p (p.block == 0) }

-- where the alloca at a position of the entry block stands
abbrev pub alloca_place : Framing → ℕ → Point
alloca_place x at = record { block = 0; at = length (filter is_alloca (up_to (placed_layer x 0) (instrs_at x 0) at)) }
