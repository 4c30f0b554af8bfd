-- What holds a value that is kept in a cell.
use Rattle.std.specs.Prelude.{◌≡◌, ℕ, slice_get, Some}
use Rattle.compiler.specs.frame_contents.Held.{position_of, value_held}
use Rattle.compiler.specs.pass_cells.declared.plan.KeptValue.{KeptValue}
use Rattle.compiler.specs.pass_fetch.Fetching.{value_bytes}
use Rattle.pass_frames_meaning.specs.pass_frames_proof.Places.{Framing}

-- what is kept in a cell is held as a value of as many bytes as its field has
pub record IsHeldAsValue (x : Framing) (v : ℕ) (k : KeptValue) : Type 0 where
  pub position : ℕ
  pub told : position_of x.contents.held v ≡ Some position
  pub there : slice_get x.contents.held position ≡ Some (value_held v (value_bytes k.field_ty))
