-- The framed form of a module.
use Rattle.std.specs.Prelude.{◌≡◌, ℕ, Bool, true, false, List, [], length, replicate, slice_get, None, Option, IsTrue, IsFalse, unwrap_or, ◌+◌, ◌∷◌, ◌++◌, if◌then◌else◌, ◌==◌}
use Rattle.pass_copies.specs.BeginCopies.{with_begin_copies}
use Rattle.flow_blocks.specs.Reach.{AreReached}
use Rattle.frame_contents.specs.Frames.{AreContents}
use Rattle.frame_contents.specs.declared.contents.Contents.{Contents}
use Rattle.pass_edges.specs.EdgeBlocks.{with_edge_blocks}
use Rattle.pass_addresses.specs.Placing.{with_frame_addresses}
use Rattle.frame_layout.specs.Frames.{index_alone}
use Rattle.pass_front.specs.Front.{with_front_allocas}
use Rattle.frame_layout.specs.declared.layout.Layout.{Layout}
use Rattle.frame_layout.specs.declared.layout.Layouts.{Layouts}
use Rattle.ir_model.specs.Calls.{first_result}
use Rattle.ir_model.specs.declared.instr.Instr.{Instr}
use Rattle.ir_model.specs.declared.module.Block.{Block}
use Rattle.ir_model.specs.declared.module.Function.{Function}
use Rattle.ir_model.specs.declared.module.Module.{Module}
use Rattle.ir_model.specs.declared.operand.Callee.{Callee}
use Rattle.ir_model.specs.declared.operand.Intrinsic.{Intrinsic}
use Rattle.frame_contents.specs.frame_classes.declared.class.SlotClass.{SlotClass}
use Rattle.pass_frames.specs.Tables.{class_flags, label_flags, sizes_by_name, with_field_offsets, with_slot_offsets}
use Rattle.pass_cells.specs.Cells.{with_cells}
use Rattle.pass_cells.specs.Kept.{keeping_of}

-- ---- the block of begin

abbrev pub is_begin : Instr → Bool
is_begin (Instr.Call result must_tail ty (Callee.Intrinsic Intrinsic.CoroBegin) args) = true
is_begin _ = false

abbrev pub has_begin : List Instr → Bool
has_begin [] = false
has_begin (i ∷ is) = if is_begin i then true else has_begin is

abbrev pub begin_from : ℕ → List Block → ℕ
begin_from k [] = k
begin_from k (b ∷ bs) = if has_begin b.instrs then k else begin_from (k + 1) bs

-- the position of the first block with begin, or behind the last
abbrev pub begin_block : Function → ℕ
begin_block f = begin_from 0 f.blocks

-- where paths begin that stay before begin: at the entry, unless begin stands there
abbrev pub starts_before : ℕ → List ℕ
starts_before begin = if begin == 0 then [] else 0 ∷ []

-- the blocks, but for begin's own, whose front a path from the entry reaches without passing begin
abbrev pub AreBefore : Function → List ℕ → Type 0
AreBefore f blocks = AreReached f (starts_before (begin_block f)) (begin_block f ∷ []) blocks

-- ---- a coroutine

-- blocks on edges, and the values that cross suspends in cells and fields
unfoldable pub celled : Module → Function → Contents → Function
celled m f c = with_cells m (with_edge_blocks f) c.crossing (class_flags f c.classes SlotClass.Local)

-- slots that are used before begin are copied there; before are the blocks before begin but for begin's own
unfoldable pub copied : Function → Contents → Function → List ℕ → Function
copied f c g before =
    with_begin_copies g (class_flags f c.classes SlotClass.Frame) (label_flags g (begin_block g ∷ before)) (sizes_by_name f c.held)

-- the offsets of slots and of the fields of these values, of which the first stands behind so many names
abbrev pub offsets_with : Layout → Contents → ℕ → List ℕ → ℕ → List (Option ℕ)
offsets_with l c first values names =
    with_field_offsets l c.positions first (length values) 0 values (with_slot_offsets l 0 c.held (replicate names None))

abbrev pub kept_of : ℕ → Contents → List ℕ
kept_of first c = (keeping_of first c.crossing).values

-- for each name of an alloca that lies in the frame its offset
abbrev pub offsets_of : Layout → Function → Contents → ℕ → List (Option ℕ)
offsets_of l f c names =
    let first = length (with_edge_blocks f).names in offsets_with l c first (kept_of first c) names

abbrev pub begin_of : Function → ℕ
begin_of f = unwrap_or (first_result Intrinsic.CoroBegin f) 0

-- slots become bytes of the frame
unfoldable pub placed : Layout → Function → Contents → Function → Function
placed l f c g = with_frame_addresses g (begin_of f) (offsets_of l f c (length g.names)) (class_flags f c.classes SlotClass.Ramp)

-- g is the framed form of the coroutine: the allocas of its entry block stand in front, in their order
pub record IsFramedCoroutine (m : Module) (l : Layout) (f g : Function) : Type 0 where
  pub contents : Contents
  pub contents_are : AreContents m f contents
  pub before : List ℕ
  pub before_are : AreBefore (celled m f contents) before
  pub is : g ≡ with_front_allocas (placed l f contents (copied f contents (celled m f contents) before))

-- ---- the module

-- the layout of a number, that of a frame of an index alone where there is none
abbrev pub layout_at : List Layout → ℕ → Layout
layout_at layouts k = unwrap_or (slice_get layouts k) (index_alone 0 0)

-- The functions with the framed forms of the coroutines among them, of which so many are passed; the layouts are those of the coroutines in order.
pub data AreFramed (m : Module) (layouts : List Layout) : ℕ → List Function → List Function → Type 0 where
  NoneYet : AreFramed m layouts 0 [] []
  Other : (k : ℕ) (f : Function) (fs gs : List Function) → AreFramed m layouts k fs gs → IsFalse f.coroutine → AreFramed m layouts k (fs ++ f ∷ []) (gs ++ f ∷ [])
  Coroutine : (k : ℕ) (f g : Function) (fs gs : List Function) → AreFramed m layouts k fs gs → IsTrue f.coroutine → IsFramedCoroutine m (layout_at layouts k) f g → AreFramed m layouts (k + 1) (fs ++ f ∷ []) (gs ++ g ∷ [])

-- One function more: as it is, or, of a coroutine, in its framed form by the layout of a number; so many layouts are taken then.
pub data IsPushed (m : Module) (layouts : List Layout) (taken after : ℕ) (f : Function) (old new : List Function) : Type 0 where
  AsItIs : IsFalse f.coroutine → after ≡ taken → new ≡ old ++ f ∷ [] → IsPushed m layouts taken after f old new
  Framed : (g : Function) → IsTrue f.coroutine → IsFramedCoroutine m (layout_at layouts taken) f g → after ≡ taken + 1 → new ≡ old ++ g ∷ [] → IsPushed m layouts taken after f old new

-- all functions of the module
pub record AllFramed (m : Module) (layouts : List Layout) (all : List Function) : Type 0 where
  pub count : ℕ
  pub framed : AreFramed m layouts count m.functions all

-- n is the framed form of the module
pub record IsFramedForm (layouts : Layouts) (m n : Module) : Type 0 where
  pub types : n.types ≡ m.types
  pub globals : n.globals ≡ m.globals
  pub declarations : n.declarations ≡ m.declarations
  pub functions : AllFramed m layouts.coroutines n.functions
