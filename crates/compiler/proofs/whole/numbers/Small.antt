-- The numbers of coroutines' shapes are small.
use Rattle.std.proofs.Common.{◌≤◌, length, Ok, Bool, arith}
use Rattle.pass_proofs.specs.frame_contents.Frames.{AreLayouts}
use Rattle.frame_layout.specs.declared.layout.Layout.{Layout}
use Rattle.frame_layout.specs.declared.layout.Layouts.{Layouts}
use Rattle.pass_proofs.proofs.exits.numbers.Edges.{exits_as_many}
use Rattle.pass_proofs.proofs.frames.numbers.Framed.{framed_as_many}
use Rattle.pass_proofs.specs.rule_laws.frames.suspend_counts.Given.{IsGiven}
use Rattle.pass_proofs.specs.pass_intrinsics.Shapes.{shape_of, suspends_of}
use Rattle.ir_model.specs.declared.module.Function.{Function}
use Rattle.ir_model.specs.declared.module.Module.{Module}
use Rattle.pass_frames.specs.Framed.{IsFramedCoroutine}
use Rattle.pass_proofs.specs.rule_laws.frames.replaced.Parted.{IsSmall}
use Rattle.pass_proofs.specs.pass_exits.ExitBlocks.{with_exit_blocks}
use Rattle.pass_proofs.proofs.frames.numbers.Small.{shape_small}

pub framed_small : (m : Module) (share : Bool) (layouts : Layouts) → AreLayouts m share (Ok layouts) → (f g : Function) (l : Layout) → IsGiven layouts.coroutines l → length (suspends_of f) ≤ 65536 → IsFramedCoroutine m l f g → IsSmall (shape_of (with_exit_blocks g) l)
framed_small m share layouts laid f g l given low framed =
    let exits = exits_as_many g in
    let frames = framed_as_many m l f g framed in
    shape_small m share layouts laid (with_exit_blocks g) (omega (arith, low, exits, frames)) l given
