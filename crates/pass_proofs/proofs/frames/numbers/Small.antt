-- Lemmas on small.
use Rattle.std.proofs.Common.{◌≤◌, length, Ok, Bool}
use Rattle.pass_exits_proof.specs.frame_contents.Frames.{AreLayouts}
use Rattle.pass_exits_proof.specs.frame_layout.declared.layout.Layout.{Layout}
use Rattle.pass_exits_proof.specs.frame_layout.declared.layout.Layouts.{Layouts}
use Rattle.pass_proofs.proofs.frames.numbers.Numbers.{given_bounded}
use Rattle.pass_exits_proof.specs.rule_laws.frames.suspend_counts.Given.{IsGiven}
use Rattle.pass_exits_proof.specs.pass_intrinsics.Shapes.{shape_of, suspends_of}
use Rattle.ir_model.specs.declared.module.Function.{Function}
use Rattle.ir_model.specs.declared.module.Module.{Module}
use Rattle.pass_exits_proof.specs.rule_laws.frames.replaced.Parted.{IsSmall}

pub shape_small : (m : Module) (share : Bool) (layouts : Layouts) → AreLayouts m share (Ok layouts) → (f : Function) → length (suspends_of f) ≤ 65536 → (l : Layout) → IsGiven layouts.coroutines l → IsSmall (shape_of f l)
shape_small m share layouts laid f low l given =
    let h = given_bounded m share layouts laid l given in
    record { size = h.size; align = h.align; index = h.index; suspends = low }
