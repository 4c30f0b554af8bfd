-- The layouts by which coroutines are framed and split.
use Rattle.std.specs.Prelude.{◌≡◌, ◌⊎◌, List}
use Rattle.ir_laws.specs.flow_solver.Paths.{IsListed}
use Rattle.frame_layout.specs.Frames.{index_alone}
use Rattle.frame_layout.specs.declared.layout.Layout.{Layout}

-- the layout is one of these, or that of a frame of an index alone, which is taken where there is none
abbrev pub IsGiven : List Layout → Layout → Type 0
IsGiven layouts l = IsListed l layouts ⊎ (l ≡ index_alone 0 0)
