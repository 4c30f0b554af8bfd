-- A framed coroutine has as many suspends as the coroutine.
use Rattle.std.proofs.Common.{◌≡◌, ℕ, List, length, ap, ◌∙◌}
use Rattle.pass_exits_proof.specs.frame_contents.declared.contents.Contents.{Contents}
use Rattle.pass_edges.specs.EdgeBlocks.{with_edge_blocks}
use Rattle.pass_exits_proof.specs.frame_layout.declared.layout.Layout.{Layout}
use Rattle.pass_exits_proof.proofs.cells.numbers.Cells.{cells_total}
use Rattle.pass_exits_proof.proofs.addresses.numbers.Copies.{copies_total, placed_total}
use Rattle.pass_exits_proof.proofs.rule_laws.frames.suspend_counts.Counted.{as_many, total}
use Rattle.pass_exits_proof.proofs.edges.numbers.Edges.{edges_as_many}
use Rattle.pass_exits_proof.proofs.rule_laws.frames.front_rules.Shape.{same_suspends}
use Rattle.pass_exits_proof.specs.pass_intrinsics.Shapes.{suspends_of}
use Rattle.pass_exits_proof.specs.pass_intrinsics.declared.shape.SuspendPoint.{SuspendPoint}
use Rattle.ir_model.specs.declared.module.Function.{Function}
use Rattle.ir_model.specs.declared.module.Module.{Module}
use Rattle.pass_exits_proof.specs.frame_classes.declared.class.SlotClass.{SlotClass}
use Rattle.pass_frames.specs.Framed.{IsFramedCoroutine, begin_of, celled, copied, offsets_of, placed}
use Rattle.pass_frames.specs.Tables.{class_flags, sizes_by_name}

celled_total : (m : Module) (f : Function) (c : Contents) → total (celled m f c).blocks ≡ total (with_edge_blocks f).blocks
unfolding celled
celled_total m f c = cells_total m (with_edge_blocks f) c.crossing (class_flags f c.classes SlotClass.Local)

copied_total : (f : Function) (c : Contents) (g : Function) (before : List ℕ) → total (copied f c g before).blocks ≡ total g.blocks
unfolding copied
copied_total f c g before = copies_total g (class_flags f c.classes SlotClass.Frame) _ (sizes_by_name f c.held)

bytes_total : (l : Layout) (f : Function) (c : Contents) (g : Function) → total (placed l f c g).blocks ≡ total g.blocks
unfolding placed
bytes_total l f c g = placed_total g (begin_of f) (offsets_of l f c (length g.names)) (class_flags f c.classes SlotClass.Ramp)

pub framed_as_many : (m : Module) (l : Layout) (f g : Function) → IsFramedCoroutine m l f g → length (suspends_of g) ≡ length (suspends_of f)
framed_as_many m l f g x =
    let h : Function = placed l f x.contents (copied f x.contents (celled m f x.contents) x.before) in
    ap (λ (y : Function). length (suspends_of y)) x.is
    ∙ ap (λ (ps : List SuspendPoint). length ps) (same_suspends h)
    ∙ as_many (with_edge_blocks f) h (
    bytes_total l f x.contents (copied f x.contents (celled m f x.contents) x.before)
    ∙ copied_total f x.contents (celled m f x.contents) x.before
    ∙ celled_total m f x.contents)
    ∙ edges_as_many f
