-- The parts of a coroutine by their kinds.
use Rattle.pass_split.specs.Parts.{given_ramp_of, later_part, ramp_of}
use Rattle.pass_split.specs.Reached.{pruned}
use Rattle.pass_fetch_proof.specs.pass_intrinsics.declared.shape.Part.{Part}
use Rattle.pass_fetch_proof.specs.pass_intrinsics.declared.shape.Shape.{Shape}
use Rattle.ir_model.specs.declared.module.Function.{Function}

-- the parts of a coroutine of a shape
pub data IsPartOf (s : Shape) (f : Function) : Part → Function → Type 0 where
  IsRamp : IsPartOf s f Part.Ramp (pruned (ramp_of s f))
  IsGivenRamp : IsPartOf s f Part.GivenRamp (pruned (given_ramp_of s f))
  IsResume : IsPartOf s f Part.Resume (pruned (later_part s Part.Resume s.resume_name f))
  IsDestroy : IsPartOf s f Part.Destroy (pruned (later_part s Part.Destroy s.destroy_name f))
  IsCleanup : IsPartOf s f Part.Cleanup (pruned (later_part s Part.Cleanup s.cleanup_name f))
