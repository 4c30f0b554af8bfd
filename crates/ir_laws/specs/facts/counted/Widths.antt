-- The widths of integers.
use Rattle.std.specs.Prelude.{ℕ, Bool, true, ◌||◌, ◌==◌}
use Rattle.run_laws.specs.ir_model.Ty.{Ty, int}

-- the widths that types are written with
abbrev pub is_width : ℕ → Bool
is_width w = (w == 1) || ((w == 8) || ((w == 16) || ((w == 32) || (w == 64))))

-- an integer type of such a width, or another type
abbrev pub has_width : Ty → Bool
has_width (int w) = is_width w
has_width _ = true
