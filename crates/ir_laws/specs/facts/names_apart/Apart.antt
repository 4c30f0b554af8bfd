-- Tables of names in which no name stands twice.
use Rattle.std.specs.Prelude.{◌≡◌, ℕ, true, List, Some, slice_get}
use Rattle.run_laws.specs.ir_base.declared.name.Name.{Name}
use Rattle.run_laws.specs.ir_model.Names.{same_name}
use Rattle.run_laws.specs.ir_model.declared.module.Function.{Function}
use Rattle.run_laws.specs.ir_model.declared.module.Module.{Module}

-- positions of the same name are the same
abbrev pub AreApart : List Name → Type 0
AreApart names = (i j : ℕ) (a b : Name) → slice_get names i ≡ Some a → slice_get names j ≡ Some b → same_name a b ≡ true → i ≡ j

-- so it is in each function of the module
abbrev pub AreNamesApart : Module → Type 0
AreNamesApart m = (k : ℕ) (f : Function) → slice_get m.functions k ≡ Some f → AreApart f.names
