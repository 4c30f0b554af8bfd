-- What the tables of a framed program say.
use Rattle.std.specs.Prelude.{ℕ, suc, List, [], ◌∷◌, Option, Some, find, option_and_then, slice_get, if◌then◌else◌, ◌≡◌, ◌==◌}
use Rattle.frame_layout.specs.declared.layout.Layout.{Layout}
use Rattle.run_framed.specs.declared.ramps.GivenRamp.{GivenRamp}
use Rattle.ir_model.specs.Names.{noalloc_of}
use Rattle.ir_model.specs.declared.module.Function.{Function}

-- the positions of the functions' layouts, by the functions' positions
pub record HavePlaces (layouts : List Layout) (table : List (Option ℕ)) : Type 0 where
  pub place : (func : ℕ) (o : Option ℕ) → slice_get table func ≡ Some o → find (λ l. l.coroutine == func) layouts ≡ option_and_then (slice_get layouts) o

-- the coroutines from a position on, by the names under which their ramps are given their frames
abbrev pub ramps_from : ℕ → List Function → List GivenRamp
ramps_from k [] = []
ramps_from k (f ∷ functions) =
    if f.coroutine then record { name = noalloc_of f.name; func = k } ∷ ramps_from (suc k) functions else ramps_from (suc k) functions
