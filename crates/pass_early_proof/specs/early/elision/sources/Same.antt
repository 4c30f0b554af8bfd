-- What is found alike in two modules.
use Rattle.std.specs.Prelude.{◌↔◌, ℕ, List}
use Rattle.rule_laws.specs.ir_base.declared.outcome.Place.{Place}
use Rattle.elide_sites.specs.Elidable.{AreElidable}
use Rattle.elide_sites.specs.Sites.{AreSites}
use Rattle.ir_model.specs.Names.{function_at}
use Rattle.ir_model.specs.declared.module.Function.{Function}
use Rattle.ir_model.specs.declared.module.Module.{Module}
use Rattle.rule_laws.specs.frame_classes.Classes.{AreClasses}
use Rattle.rule_laws.specs.frame_classes.declared.class.SlotClass.{SlotClass}
use Rattle.rule_laws.specs.frame_crossing.Crossing.{AreCrossing}

-- what is said of each function of the one module is said of that of the other
abbrev pub AreAlikeBy : (Function → Type 0) → Module → Module → Type 0
AreAlikeBy P m k = (func : ℕ) → P (function_at m func) ↔ P (function_at k func)

-- the same values of each function cross suspends
abbrev pub HaveSameCrossing : Module → Module → Type 0
HaveSameCrossing m k = (all : List (ℕ × ℕ)) → AreAlikeBy (λ f. AreCrossing f all) m k

-- the slots of each function have the same classes
abbrev pub HaveSameClasses : Module → Module → Type 0
HaveSameClasses m k = (classes : List SlotClass) → AreAlikeBy (λ f. AreClasses f classes) m k

-- the same callees are elidable, and at the same calls
pub record HaveSameElision (m k : Module) : Type 0 where
  pub callees : (all : List ℕ) → AreElidable m all ↔ AreElidable k all
  pub sites : (all : List Place) → AreSites m all ↔ AreSites k all
