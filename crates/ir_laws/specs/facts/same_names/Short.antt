-- Names whose numbers are written in full.
use Rattle.std.specs.Prelude.{ℕ, Some, slice_get, ◌≡◌, ◌<◌, ◌^◌}
use Rattle.run_laws.specs.ir_base.declared.name.Name.{Name}
use Rattle.run_laws.specs.ir_model.declared.module.Function.{Function}
use Rattle.run_laws.specs.ir_model.declared.module.Module.{Module}

-- a name that is a number has one below 2^64; in a text they are below 2^32
abbrev pub IsShort : Name → Type 0
IsShort (Name.Number n) = n < 2 ^ 64
IsShort (Name.Text t) = Unit {0}

-- the names of a module's functions
abbrev pub HaveShortNames : Module → Type 0
HaveShortNames m = (k : ℕ) (f : Function) → slice_get m.functions k ≡ Some f → IsShort f.name
