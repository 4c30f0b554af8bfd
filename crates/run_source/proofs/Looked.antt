-- Edges that leave no window.
use Rattle.std.proofs.Common.{◌≡◌, ℕ, zero, suc, ◌+◌, ◌<◌, Bool, true, false, List, [], ◌∷◌, ◌++◌, length, get_or, refl, ap, sym, subst, ◌∙◌, length-append, Option, Some, None, Ok, Err, inl, inr}
use Rattle.std.specs.Prelude.{Result, IfErr, OnOk, filter, slice_get, unwrap_or, ◌==◌, ◌⊎◌}
use Rattle.std.proofs.lemmas.Option.{slice_get-get_or}
use Rattle.std.specs.List.{list_any}
use Rattle.ir_model.specs.Names.{function_at, no_function}
use Rattle.ir_model.specs.declared.module.Function.{Function}
use Rattle.ir_model.specs.declared.module.Module.{Module}
use Rattle.ir_paths.specs.Paths.{entry_point}
use Rattle.ir_paths.specs.Slots.{promise_of}
use Rattle.ir_paths.specs.Windows.{leaves}
use Rattle.ir_paths.specs.declared.point.Facts.{Facts}
use Rattle.ir_paths.specs.declared.point.Point.{Point}
use Rattle.run_source.specs.Source.{branch_leaving, enter_block, go_to}
use Rattle.run_source_tables.specs.Given.{has_final}
use Rattle.run_source.specs.SourceEffects.{IsStop}
use Rattle.run_source.specs.State.{function_of, own_facts, point_of}
use Rattle.run_source_tables.specs.Given.{Given, facts_at}
use Rattle.run_source_tables.specs.Tables.{HaveSourceTables, IsSourceTableOf}
use Rattle.run_source.specs.declared.effects.Stop.{Stop}
use Rattle.run_source.specs.declared.state.State.{State}
use Rattle.run_source_tables.specs.declared.table.SourceTable.{SourceTable}

pub plainly-done : (g : Given) (s t : State) (label : ℕ) (r : Result (Unit {0}) Stop) → filter (λ w. leaves (point_of s) (entry_point (function_of g s) label) w) (own_facts g s).windows ≡ [] → OnOk r (t ≡ enter_block g s label) → OnOk r (go_to g s label ≡ Ok t)
plainly-done g s t label (Ok u) none e = ap (branch_leaving g s label) none ∙ ap Ok (sym e)
plainly-done g s t label (Err stop) none e = tt

pub plainly-refused : (g : Given) (s : State) (label : ℕ) (r : Result (Unit {0}) Stop) → IfErr r (λ stop. stop ≡ Stop.NoMemory) → IfErr r (λ stop. IsStop stop (go_to g s label))
plainly-refused g s label (Ok u) e = tt
plainly-refused g s label (Err Stop.NoMemory) e = tt
plainly-refused g s label (Err (Stop.Undefined cause)) e = absurd cc
