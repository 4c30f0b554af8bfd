-- What the tables of layouts and of sites say.
use Rattle.std.specs.Prelude.{ℕ, Bool, List, ◌≡◌, ◌==◌, is_some}
use Rattle.frame_layout.specs.declared.layout.Layout.{Layout}
use Rattle.indexmap.specs.IndexMap.{IndexMap, get}
use Rattle.ir_base.specs.declared.outcome.Place.{Place}
use Rattle.ir_model.specs.Names.{first_where}
use Rattle.pass_elide.specs.Places.{is_site, same_call_place}
use Rattle.pass_elide.specs.declared.places.CallPlace.{CallPlace}

-- the table has the first position of each coroutine among the layouts
pub record FindsLayouts {S : Type 0} (ls : List Layout) (table : IndexMap ℕ ℕ S) : Type 0 where
  pub first : (func : ℕ) → get ◌==◌ table func ≡ first_where (λ l. l.coroutine == func) ls

-- the table has the places of the sites
pub record FindsSites {S : Type 0} (sites : List Place) (table : IndexMap CallPlace Bool S) : Type 0 where
  pub each : (s : CallPlace) → is_some (get same_call_place table s) ≡ is_site sites s
