-- Lemmas on states, that speak of no pass.
use Rattle.std.proofs.Common.{◌≡◌, ℕ, [], refl, ap, ◌∙◌}
use Rattle.std.proofs.lemmas.Option.{slice_get-map}
use Rattle.std.specs.Prelude.{Some, None, Option, option_map, slice_get, unwrap_or}
use Rattle.ir_laws.specs.ir_model.Names.{function_at, no_function}
use Rattle.ir_laws.specs.ir_model.declared.module.Function.{Function}
use Rattle.ir_laws.specs.ir_model.declared.module.Module.{Module}
use Rattle.ir_laws.specs.ir_paths.Facts.{all_facts, facts_of}
use Rattle.ir_laws.specs.ir_paths.declared.point.Facts.{Facts}
use Rattle.ir_laws.specs.run_source_tables.Given.{facts_at}

-- ---- facts

pub facts_are : (m : Module) (func : ℕ) → facts_at (all_facts m) func ≡ facts_of (function_at m func)
facts_are m func = ap (λ (o : Option Facts). unwrap_or o (record { windows = []; ramp_slots = [] })) (slice_get-map facts_of m.functions func) ∙ on (slice_get m.functions func)
  where
    on : (o : Option Function) → unwrap_or (option_map facts_of o) (record { windows = []; ramp_slots = [] }) ≡ facts_of (unwrap_or o no_function)
    on None = refl
    on (Some f) = refl
