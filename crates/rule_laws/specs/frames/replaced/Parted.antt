-- The functions that a function becomes.
use Rattle.std.specs.Prelude.{length, ◌<◌, ◌≤◌, ◌^◌}
use Rattle.pass_intrinsics.specs.declared.shape.Shape.{Shape}

-- the numbers of a frame fit their types
pub record IsSmall (s : Shape) : Type 0 where
  pub size : s.size < 2 ^ 32
  pub align : s.align < 2 ^ 32
  pub index : s.index < 2 ^ 64
  pub suspends : length s.suspends ≤ 65536
