-- Modules whose functions are called alike.
use Rattle.std.specs.Prelude.{◌≡◌, List, Option, map}
use Rattle.run_laws.specs.ir_base.declared.name.Name.{Name}
use Rattle.run_laws.specs.ir_model.Ty.{Ty}
use Rattle.run_laws.specs.ir_model.declared.module.Function.{Function}
use Rattle.run_laws.specs.ir_model.declared.module.Module.{Module}

-- what calls of a function go by
pub record Heading : Type 0 where
  pub name : Name
  pub result : Option Ty
  pub params : List Ty

abbrev pub heading : Function → Heading
heading f = record { name = f.name; result = f.result; params = map (λ p. p.ty) f.params }

-- types, globals and declarations are the same, and functions have the same names, results and types of parameters, one for one
pub record HaveSameSignatures (m n : Module) : Type 0 where
  pub types : n.types ≡ m.types
  pub globals : n.globals ≡ m.globals
  pub declarations : n.declarations ≡ m.declarations
  pub functions : map heading n.functions ≡ map heading m.functions
