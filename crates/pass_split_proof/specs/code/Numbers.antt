-- The numbers of suspends, by which parts go on.
use Rattle.std.specs.Prelude.{◌≡◌, ℕ, slice_get, Some}
use Rattle.pass_proofs.specs.ir_model.declared.module.Function.{Function}
use Rattle.pass_proofs.specs.ir_paths.Windows.{destroy_label, resume_label}
use Rattle.pass_proofs.specs.ir_paths.declared.point.Point.{Point}
use Rattle.pass_proofs.specs.pass_intrinsics.Shapes.{suspends_of}
use Rattle.pass_proofs.specs.pass_intrinsics.declared.shape.SuspendPoint.{SuspendPoint}
use Rattle.pass_proofs.specs.run_source_tables.Given.{is_final}
use Rattle.pass_proofs.specs.run_step.Step.{label_of}

-- the suspend of a number, as it stands at a point of the function
pub record IsNumbered (f : Function) (p : Point) (j : ℕ) : Type 0 where
  pub suspend : SuspendPoint
  pub stands : slice_get (suspends_of f) j ≡ Some suspend
  pub block : suspend.block ≡ label_of (slice_get f.blocks p.block)
  pub resume : suspend.resume ≡ resume_label f p
  pub destroy : suspend.destroy ≡ destroy_label f p
  pub final : suspend.is_final ≡ is_final f p
