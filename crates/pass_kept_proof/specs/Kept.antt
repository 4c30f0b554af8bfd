-- A meaning in which a resume hands on only some of the values that were kept.
use Rattle.std.specs.Prelude.{ℕ, suc, Bool, List, [], ℤ, None, ◌∷◌, if◌then◌else◌}
use Rattle.ir_base.specs.declared.outcome.Word.{Word}
use Rattle.run_source.specs.Source.{Continues, continue, first_state, given, step_by}
use Rattle.ir_model.specs.declared.module.Frame.{Frame}
use Rattle.ir_model.specs.declared.module.Module.{Module}
use Rattle.ir_paths.specs.declared.point.Point.{Point}
use Rattle.run_step.specs.Runs.{Seen, iterate, seen_of}
use Rattle.run_step.specs.Values.{Env}
use Rattle.run_source.specs.run_source_tables.Given.{Given}

-- which values of a coroutine, the function at a position, are handed on behind a suspend
abbrev pub Keep : Type 0
Keep = ℕ → Point → ℕ → Bool

abbrev pub kept : (ℕ → Bool) → Env → Env
kept keep [] = []
kept keep (v ∷ env) = (if keep 0 then v else None) ∷ kept (λ i. keep (suc i)) env

-- a resumed activation has these values, and no other
abbrev pub continue_keeping : Given → Keep → Continues
continue_keeping g keep s i x suspend values label = continue g s i x suspend (kept (keep x.coroutine suspend) values) label

-- what is seen after n steps of the source meaning in which a resume goes on so
abbrev pub KeptAt : Module → Keep → List Frame → ℕ → List Word → List ℤ → ℕ → Seen
KeptAt m keep sizes entry args answers n =
    let g = given m sizes answers in
    let s = iterate (step_by g (continue_keeping g keep)) n (first_state m entry args) in
    seen_of m s.world s.outcome
