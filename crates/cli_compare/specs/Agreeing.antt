-- What is asked where runs are compared.
use Rattle.std.specs.Prelude.{◌≡◌, ℕ, ℤ, List, Some, slice_get}
use Rattle.cli_compare.specs.Compared.{counterpart}
use Rattle.cli_runs.specs.Runs.{sizes_of}
use Rattle.cli_runs.specs.cli_entries.declared.verdict.EntryCall.{EntryCall}
use Rattle.cli_words.specs.declared.words.RunWords.{RunWords}
use Rattle.compiler.specs.declared.lowered.Lowered.{Lowered}
use Rattle.ir_model.specs.declared.module.Frame.{Frame}
use Rattle.ir_model.specs.declared.module.Module.{Module}
use Rattle.run_compare.specs.Report.{IsFollowed}
use Rattle.run_plain.specs.Plain.{PlainAt}
use Rattle.run_source.specs.Source.{SourceAt}

-- the lowered run follows the source's from such a call
pub record AreRunsFollowed (source : Module) (sizes : List Frame) (lowered : Module) (answers : List ℤ)
    (call : EntryCall) (other : ℕ) : Type 0 where
  pub each : IsFollowed (λ n. SourceAt source sizes call.func call.args answers n)
      (λ n. PlainAt lowered other call.args answers n)

-- it does from the function of the same name
pub record MayBeCompared (l : Lowered) (w : RunWords) (call : EntryCall) : Type 0 where
  pub each : (other : ℕ) → counterpart l.«module» (slice_get l.source.functions call.func) ≡ Some other
      → AreRunsFollowed l.source (sizes_of l.layouts) l.«module» w.answers call other
