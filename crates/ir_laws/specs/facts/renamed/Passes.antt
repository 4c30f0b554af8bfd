-- Lemmas on passes, that speak of no pass.
use Rattle.std.specs.Prelude.{map}
use Rattle.run_laws.specs.ir_model.declared.module.Function.{Function}
use Rattle.run_laws.specs.ir_model.declared.module.Module.{Module}

-- the module with each of its functions changed
abbrev pub with_functions : (Function → Function) → Module → Module
with_functions change m = record { types = m.types; globals = m.globals; declarations = m.declarations; functions = map change m.functions }
