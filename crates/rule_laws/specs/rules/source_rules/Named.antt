-- What readers guarantee of a module's names, and that begins have names.
use Rattle.std.specs.Prelude.{◌≡◌, ◌<◌, ℕ, true, length, Some}
use Rattle.ir_laws.specs.flow_solver.Paths.{IsListed}
use Rattle.ir_parts.specs.Locals.{locals_of}
use Rattle.ir_parts.specs.declared.defined.Definition.{Definition}
use Rattle.ir_laws.specs.ir_model.Calls.{first_result}
use Rattle.ir_laws.specs.ir_model.Names.{function_at}
use Rattle.ir_laws.specs.ir_model.declared.module.Function.{Function}
use Rattle.ir_laws.specs.ir_model.declared.module.Module.{Module}
use Rattle.ir_laws.specs.ir_model.declared.operand.Intrinsic.{Intrinsic}

-- what a function defines, labels and values alike, are positions of its table of names
abbrev pub HasTabledLocals : ℕ → Function → Type 0
HasTabledLocals func f = (d : Definition) → IsListed d (locals_of func f) → d.name < length f.names

-- the same of each coroutine of a module
abbrev pub AreTabled : Module → Type 0
AreTabled m = (func : ℕ) → (function_at m func).coroutine ≡ true → HasTabledLocals func (function_at m func)

-- each coroutine of a module has a begin with a name
abbrev pub HaveNamedBegins : Module → Type 0
HaveNamedBegins m = (func : ℕ) → (function_at m func).coroutine ≡ true → (n : ℕ) × (first_result Intrinsic.CoroBegin (function_at m func) ≡ Some n)
