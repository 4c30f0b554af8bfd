-- What is answered where a source and what it was lowered to are compared.
use Rattle.std.specs.Prelude.{◌≡◌, ◌++◌, ℕ, List, [], None, Option, Some, codes, decimal, slice_get}
use Rattle.cli_report.specs.Report.{outcome_text}
use Rattle.cli_runs.specs.cli_entries.Entries.{entry_call, not_callable, shown}
use Rattle.cli_runs.specs.Runs.{sizes_of}
use Rattle.cli_runs.specs.cli_entries.declared.verdict.Answer.{Answer}
use Rattle.cli_runs.specs.cli_entries.declared.verdict.EntryCall.{EntryCall}
use Rattle.cli_runs.specs.cli_entries.declared.verdict.Verdict.{Verdict}
use Rattle.cli_words.specs.declared.words.RunWords.{RunWords}
use Rattle.compiler.specs.declared.lowered.Lowered.{Lowered}
use Rattle.ir_base.specs.declared.outcome.Outcome.{Outcome}
use Rattle.ir_model.specs.Names.{function_named}
use Rattle.ir_model.specs.declared.module.Frame.{Frame}
use Rattle.ir_model.specs.declared.module.Function.{Function}
use Rattle.ir_model.specs.declared.module.Module.{Module}
use Rattle.run_compare.specs.Report.{IsReport, source_seen}
use Rattle.run_compare.specs.declared.reports.Counts.{Counts}
use Rattle.run_compare.specs.declared.reports.Report.{Report}
use Rattle.run_plain.specs.Machines.{PlainRun, machine_at}
use Rattle.run_source.specs.Machines.{SourceRun}
use Rattle.run_source.specs.Source.{SourceAt}

-- ---- the text

-- words, and a number behind them
unfoldable pub counted_text : List ℕ → ℕ → List ℕ
counted_text words n = words ++ decimal n

-- `events N`
abbrev pub events_line : Counts → List ℕ
events_line c = counted_text (codes "events ") c.events ++ codes "\n"

-- two numbers, of the source and of what was lowered
unfoldable pub pair_text : List ℕ → ℕ → ℕ → List ℕ
pair_text words source lowered = counted_text words source ++ counted_text (codes " lowered ") lowered

unfoldable pub elided_text : ℕ → List ℕ
elided_text n = counted_text (codes " elided ") n ++ codes "\n"

-- `steps source N lowered M`
abbrev pub steps_line : Counts → List ℕ
steps_line c = pair_text (codes "steps source ") c.source_steps c.lowered_steps ++ codes "\n"

-- `allocs source N lowered M elided K`
abbrev pub allocs_line : Counts → List ℕ
allocs_line c = pair_text (codes "allocs source ") c.source_allocs c.lowered_allocs ++ elided_text c.elided

abbrev pub counts_text : Counts → List ℕ
counts_text c = events_line c ++ steps_line c ++ allocs_line c

abbrev pub some_counts_text : Option Counts → List ℕ
some_counts_text None = []
some_counts_text (Some c) = counts_text c

-- `outcome` and what `run` writes of it, and then the numbers, where there are some
abbrev pub report_text : Module → Report → List ℕ
report_text m r = codes "outcome " ++ outcome_text m r.outcome ++ some_counts_text r.counts

abbrev pub report_verdict : Outcome → Verdict
report_verdict (Outcome.Undefined cause place) = Verdict.Undefined
report_verdict outcome = Verdict.Done

-- ---- the answer

-- the function of the same name in the lowered module
abbrev pub counterpart : Module → Option Function → Option ℕ
counterpart n None = None
counterpart n (Some f) = function_named n f.name

-- the text of the report of two runs
pub record IsReportedOf (source : SourceRun) (lowered : PlainRun) (steps : ℕ) (a : Answer) : Type 0 where
  pub report : Report
  pub is : IsReport (source_seen source) lowered steps report
  pub answer : a ≡ shown (report_verdict report.outcome) (report_text source.given.code report)

-- the text of the report of both runs, which begin with the same arguments and are given the same answers
pub record IsReported (source : Module) (sizes : List Frame) (lowered : Module) (w : RunWords) (call : EntryCall)
    (other : ℕ) (a : Answer) : Type 0 where
  pub report : Report
  pub is : IsReport (λ n. SourceAt source sizes call.func call.args w.answers n)
      (machine_at (record { code = lowered; answers = w.answers }) other call.args 0) w.steps report
  pub answer : a ≡ shown (report_verdict report.outcome) (report_text source report)

abbrev pub IsReportedBy : Lowered → RunWords → EntryCall → Option ℕ → Answer → Type 0
IsReportedBy l w call None a = a ≡ not_callable w.entry
IsReportedBy l w call (Some other) a = IsReported l.source (sizes_of l.layouts) l.«module» w call other a

abbrev pub IsComparedBy : Lowered → RunWords → Option EntryCall → Answer → Type 0
IsComparedBy l w None a = a ≡ not_callable w.entry
IsComparedBy l w (Some call) a = IsReportedBy l w call (counterpart l.«module» (slice_get l.source.functions call.func)) a

-- the source says whether the entry is callable
abbrev pub IsCompared : Lowered → RunWords → Answer → Type 0
IsCompared l w a = IsComparedBy l w (entry_call l.source w.entry w.args) a
