-- What is answered to a run of a module.
use Rattle.std.specs.Prelude.{ℕ, List, map, ℤ, Some, None, Option}
use Rattle.run_agreement.specs.Machines.{Seen}
use Rattle.ir_base.specs.declared.outcome.Outcome.{Outcome}
use Rattle.cli_entries.specs.Entries.{entry_call, not_callable, shown}
use Rattle.cli_entries.specs.declared.verdict.Answer.{Answer}
use Rattle.cli_entries.specs.declared.verdict.EntryCall.{EntryCall}
use Rattle.cli_entries.specs.declared.verdict.Verdict.{Verdict}
use Rattle.run_source.specs.Machines.{run_of as source_run}
use Rattle.run_source.specs.Source.{SourceAt}
use Rattle.cli_report.specs.Report.{run_text, seen_text}
use Rattle.cli_words.specs.declared.words.RunWords.{RunWords}
use Rattle.frame_layout.specs.declared.layout.Layout.{Layout}
use Rattle.frame_layout.specs.declared.layout.Layouts.{Layouts}
use Rattle.run_framed.specs.Framed.{FramedAt}
use Rattle.run_framed.specs.Machines.{run_of as framed_run}
use Rattle.ir_model.specs.declared.module.Frame.{Frame}
use Rattle.ir_model.specs.declared.module.Module.{Module}
use Rattle.run_whole.specs.declared.framed.FramedView.{FramedView}
use Rattle.run_whole.specs.declared.plain.PlainView.{PlainView}
use Rattle.run_whole.specs.declared.source.SourceView.{SourceView}
use Rattle.run_plain.specs.Machines.{run_of as plain_run}
use Rattle.run_plain.specs.Plain.{PlainAt}

-- ---- runs

abbrev pub run_verdict : Outcome → Verdict
run_verdict (Outcome.Returned v) = Verdict.Done
run_verdict Outcome.Running = Verdict.Unfinished
run_verdict (Outcome.Undefined cause place) = Verdict.Undefined

-- the events and the outcome that are seen of a run
abbrev pub seen_answer : Module → Seen → Answer
seen_answer m seen = shown (run_verdict seen.outcome) (seen_text m seen)

-- ---- run of a module without coroutines

-- the answer by what a module's machine shows
abbrev pub plain_shown : PlainView → Answer
plain_shown v =
    shown (run_verdict v.outcome)
    (run_text (plain_run v.machine).given.code (plain_run v.machine).state.world.events v.outcome)

-- what is seen of a module without coroutines after so many steps
abbrev pub plain_answer : Module → List ℤ → EntryCall → ℕ → Answer
plain_answer code answers call steps = seen_answer code (PlainAt code call.func call.args answers steps)

-- a module run as it is
abbrev pub run_or : Module → RunWords → Option EntryCall → Answer
run_or m w None = not_callable w.entry
run_or m w (Some call) = plain_answer m w.answers call w.steps

abbrev pub run_module : Module → RunWords → Answer
run_module m w = run_or m w (entry_call m w.entry w.args)

-- ---- run of a source

abbrev pub size_of : Layout → Frame
size_of l = record { coroutine = l.coroutine; size = l.size; align = l.align }

-- the sizes of the coroutines' frames, which coro.size and coro.align give
abbrev pub sizes_of : Layouts → List Frame
sizes_of layouts = map size_of layouts.coroutines

-- the answer by what a source's machine shows
abbrev pub source_shown : SourceView → Answer
source_shown v =
    shown (run_verdict v.outcome)
    (run_text (source_run v.machine).given.code (source_run v.machine).state.world.events v.outcome)

-- what is seen of a source after so many steps
abbrev pub source_answer : Module → List Frame → List ℤ → EntryCall → ℕ → Answer
source_answer m sizes answers call steps = seen_answer m (SourceAt m sizes call.func call.args answers steps)

abbrev pub source_or : Module → List Frame → RunWords → Option EntryCall → Answer
source_or m sizes w None = not_callable w.entry
source_or m sizes w (Some call) = source_answer m sizes w.answers call w.steps

-- ---- run of a framed module

-- the answer by what a framed module's machine shows
abbrev pub framed_shown : FramedView → Answer
framed_shown v =
    shown (run_verdict v.outcome)
    (run_text (framed_run v.machine).given.given.code (framed_run v.machine).state.world.events v.outcome)

-- what is seen of a framed module after so many steps
abbrev pub framed_answer : Module → Layouts → List ℤ → EntryCall → ℕ → Answer
framed_answer m layouts answers call steps = seen_answer m (FramedAt m layouts call.func call.args answers steps)

abbrev pub framed_or : Module → Layouts → RunWords → Option EntryCall → Answer
framed_or m layouts w None = not_callable w.entry
framed_or m layouts w (Some call) = framed_answer m layouts w.answers call w.steps

abbrev pub run_framed : Module → Layouts → RunWords → Answer
run_framed m layouts w = framed_or m layouts w (entry_call m w.entry w.args)
