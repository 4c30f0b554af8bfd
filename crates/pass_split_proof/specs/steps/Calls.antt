-- Functions that both runs call.
use Rattle.std.specs.Prelude.{◌≡◌, ℕ, ◌≤◌, length}
use Rattle.pass_proofs.specs.ir_model.Names.{function_at}
use Rattle.pass_proofs.specs.ir_model.declared.module.Module.{Module}
use Rattle.pass_proofs.specs.pass_intrinsics.declared.shape.Part.{Part}
use Rattle.pass_proofs.specs.pass_intrinsics.declared.shape.Shape.{Shape}
use Rattle.pass_split_proof.specs.places.Places.{IsCodeOf, IsPlace}
use Rattle.pass_split_proof.specs.states.Activations.{IsShapeOf}
use Rattle.pass_split_proof.specs.states.Instances.{part_position}
use Rattle.pass_proofs.specs.run_framed.Framed.{FramedGiven}

-- a function has its first part at its position there, with its parameters, and begins where that does
pub record IsCallee (g : FramedGiven) (h : Module) (func : ℕ) : Type 0 where
  pub shape : Shape
  pub shaped : IsShapeOf g func (function_at g.given.code func) shape
  pub coded : IsCodeOf (function_at g.given.code func) (function_at h (part_position g func Part.Ramp)) shape Part.Ramp
  pub place : IsPlace shape Part.Ramp (function_at g.given.code func)
      (function_at h (part_position g func Part.Ramp)) 0 0 0 0
  pub params : (function_at h (part_position g func Part.Ramp)).params ≡ (function_at g.given.code func).params
  pub names : length (function_at g.given.code func).names ≤ length
      (function_at h (part_position g func Part.Ramp)).names
