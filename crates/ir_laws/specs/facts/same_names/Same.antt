-- Modules that differ in the bodies and types of their functions alone.
use Rattle.std.specs.Prelude.{Bool, map, ◌≡◌}
use Rattle.run_laws.specs.ir_base.declared.name.Name.{Name}
use Rattle.run_laws.specs.ir_model.declared.module.Function.{Function}
use Rattle.run_laws.specs.ir_model.declared.module.Module.{Module}

-- the name of a function, and whether it is a coroutine
abbrev pub naming : Function → Name × Bool
naming f = (f.name, f.coroutine)

-- types, globals and declarations are the same, and functions have the same names, one for one, and are coroutines alike
pub record HaveSameNames (m n : Module) : Type 0 where
  pub types : n.types ≡ m.types
  pub globals : n.globals ≡ m.globals
  pub declarations : n.declarations ≡ m.declarations
  pub functions : map naming n.functions ≡ map naming m.functions
