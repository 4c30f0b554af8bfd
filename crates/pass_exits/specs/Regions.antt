-- Windows, as they are looked up.
use Rattle.std.specs.Prelude.{◌≡◌, ℕ, List, [], slice_get, Some, None, Option, ◌∷◌, ◌||◌, ◌==◌, if◌then◌else◌}
use Rattle.std.specs.HashSet.{contains}
use Rattle.ir_model.specs.declared.module.Function.{Function}
use Rattle.ir_paths.specs.Paths.{has_point, same_point}
use Rattle.ir_paths.specs.declared.point.Window.{Window}
use Rattle.pass_exits.specs.Exits.{front, number_of, or_else}
use Rattle.pass_exits.specs.declared.regions.Region.{Region}

-- the region of a window
pub record IsRegionOf (f : Function) (w : Window) (r : Region) : Type 0 where
  pub fronts : (t : ℕ) → contains ◌==◌ r.fronts t ≡ has_point w.inside (front t)
  pub suspend : r.suspend ≡ w.suspend
  pub number : r.number ≡ number_of f w.save

-- those of windows, one for each
abbrev pub AreRegionsOf : Function → List Window → List Region → Type 0
AreRegionsOf f [] [] = Unit {0}
AreRegionsOf f [] (r ∷ rs) = ⊥
AreRegionsOf f (w ∷ ws) [] = ⊥
AreRegionsOf f (w ∷ ws) (r ∷ rs) = IsRegionOf f w r × AreRegionsOf f ws rs

-- the number of a region's suspend, where an edge from the region to a block leaves it
abbrev pub region_mark : Region → ℕ → Option ℕ
region_mark r t = if contains ◌==◌ r.fronts t || same_point (front t) r.suspend then None else r.number

abbrev pub mark_in_region : Option Region → ℕ → Option ℕ
mark_in_region None t = None
mark_in_region (Some r) t = region_mark r t

abbrev pub mark_at : List Region → ℕ → ℕ → Option ℕ
mark_at rs n t = mark_in_region (slice_get rs n) t

-- that of the first of some regions, by their numbers
abbrev pub first_mark : List Region → List ℕ → ℕ → Option ℕ
first_mark rs [] t = None
first_mark rs (n ∷ ns) t = or_else (mark_at rs n t) (first_mark rs ns t)
