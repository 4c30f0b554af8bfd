use Rattle.std.proofs.Common.{◌≡◌, take}
use Rattle.std.specs.Prelude.{is_some}
use Rattle.indexmap.specs.IndexMap.{get}
use Rattle.pass_elide.specs.Places.{is_site, same_call_place}
use Rattle.pass_elide.specs.declared.places.CallPlace.{CallPlace}
use Rattle.pass_elide.proofs.tables.places_of.Given as goal

abbrev pub invariant-loop-site : goal.invariant-loop-site
invariant-loop-site l = (s : CallPlace) → is_some (get same_call_place l.places s) ≡ is_site (take l.site-index l.sites) s
