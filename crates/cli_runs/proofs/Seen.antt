-- The text of a run is that of what is seen of it.
use Rattle.std.proofs.Common.{◌≡◌, ℕ, ℤ, List, [], ◌∷◌, ◌++◌, ◌∙◌, ap, refl, subst, sym, Ok, Err}
use Rattle.std.specs.Prelude.{map, codes, slice_get, Some, None, Option, Result, IfOk}
use Rattle.run_agreement.specs.Machines.{Seen}
use Rattle.ir_base.specs.declared.outcome.Event.{Event}
use Rattle.ir_base.specs.declared.outcome.Outcome.{Outcome}
use Rattle.cli_runs.specs.Runs.{framed_answer, framed_shown, plain_answer, plain_shown, run_verdict, seen_answer, source_answer, source_shown}
use Rattle.cli_entries.specs.Entries.{shown}
use Rattle.cli_entries.specs.declared.verdict.Answer.{Answer}
use Rattle.cli_entries.specs.declared.verdict.EntryCall.{EntryCall}
use Rattle.text_names.specs.Spelling.{spelling}
use Rattle.cli_report.specs.Report.{declared_text, event_text, events_text, outcome_text, run_text, seen_event_text, seen_events_text, words_text}
use Rattle.frame_layout.specs.declared.layout.Layouts.{Layouts}
use Rattle.ir_model.specs.declared.module.Declaration.{Declaration}
use Rattle.ir_model.specs.declared.module.Frame.{Frame}
use Rattle.ir_model.specs.declared.module.Module.{Module}
use Rattle.run_step.specs.Runs.{name_of_declaration, seen_event}
use Rattle.ir_base.specs.declared.outcome.Word.{Word}
use Rattle.run_framed.specs.Framed.{FramedAt}
use Rattle.run_framed.specs.Machines.{run_of as framed_run}
use Rattle.run_plain.specs.Machines.{run_of as plain_run}
use Rattle.run_plain.specs.Plain.{PlainAt}
use Rattle.run_source.specs.Machines.{run_of as source_run}
use Rattle.run_source.specs.Source.{SourceAt}
use Rattle.run_whole.specs.Framed.{ShowsFramed}
use Rattle.run_whole.specs.Plain.{ShowsPlain}
use Rattle.run_whole.specs.Source.{ShowsSource}
use Rattle.run_whole.specs.declared.framed.FramedView.{FramedView}
use Rattle.run_whole.specs.declared.plain.PlainView.{PlainView}
use Rattle.run_whole.specs.declared.source.SourceView.{SourceView}

declared : (d : Option Declaration) → declared_text d ≡ spelling (name_of_declaration d)
declared None = refl
declared (Some d) = refl

event : (m : Module) (e : Event) → event_text m e ≡ seen_event_text (seen_event m e)
event m e = ap (λ (t : List ℕ). t ++ codes "(" ++ words_text e.args ++ codes ")\n") (declared (slice_get m.declarations e.func))

events : (m : Module) (es : List Event) → events_text m es ≡ seen_events_text (map (seen_event m) es)
events m [] = refl
events m (e ∷ es) = ap (λ (t : List ℕ). t ++ events_text m es) (event m e) ∙ ap (λ (t : List ℕ). seen_event_text (seen_event m e) ++ t) (events m es)

-- what is seen of these events and this outcome
abbrev seen_as : Module → List Event → ℕ → Outcome → Seen
seen_as m es allocs outcome = record { events = map (seen_event m) es; outcome = outcome; allocs = allocs }

-- the answer by the events and the outcome of a run is that by what is seen of it
as_seen : (m : Module) (es : List Event) (allocs : ℕ) (outcome : Outcome)
    → shown (run_verdict outcome) (run_text m es outcome) ≡ seen_answer m (seen_as m es allocs outcome)
as_seen m es allocs outcome = ap (λ (t : List ℕ). shown (run_verdict outcome) (t ++ outcome_text m outcome)) (events m es)

-- the answer by the machine of a view is that by what is seen of its module
by_view : (m code : Module) (es : List Event) (allocs : ℕ) (now told : Outcome) (seen : Seen) → code ≡ m
    → seen_as code es allocs now ≡ seen → told ≡ seen.outcome
    → shown (run_verdict told) (run_text code es told) ≡ seen_answer m seen
by_view m code es allocs now told seen same is outcome =
    as_seen code es allocs told
    ∙ (ap (λ (o : Outcome). seen_answer code (seen_as code es allocs o)) (outcome ∙ sym (ap (λ (s : Seen). s.outcome) is))
    ∙ (ap (λ (c : Module). seen_answer c (seen_as code es allocs now)) same
    ∙ ap (λ (s : Seen). seen_answer m s) is))

-- an answer that is one is the other, which is the same
on_answer : {E : Type 0} (r : Result Answer E) (one other : Answer) → one ≡ other → IfOk r (λ a. a ≡ one)
    → IfOk r (λ a. a ≡ other)
on_answer (Ok a) one other same is = is ∙ same
on_answer (Err e) one other same is = is

pub plain_by : {E : Type 0} (m : Module) (answers : List ℤ) (call : EntryCall) (steps : ℕ) (args : List Word)
    (v : PlainView) (r : Result Answer E) → args ≡ call.args → ShowsPlain m call.func args answers steps v
    → IfOk r (λ a. a ≡ plain_shown v) → IfOk r (λ a. a ≡ plain_answer m answers call steps)
plain_by m answers call steps args v r same shows is =
    let s = plain_run v.machine in
    let k = subst (λ (ws : List Word). ShowsPlain m call.func ws answers steps v) same shows in
    on_answer r (plain_shown v) (plain_answer m answers call steps)
    (by_view m s.given.code s.state.world.events s.state.world.allocs s.state.outcome v.outcome
    (PlainAt m call.func call.args answers steps) k.code k.seen k.outcome) is

pub source_by : {E : Type 0} (m : Module) (sizes : List Frame) (answers : List ℤ) (call : EntryCall) (steps : ℕ)
    (args : List Word) (v : SourceView) (r : Result Answer E) → args ≡ call.args
    → ShowsSource m sizes call.func args answers steps v → IfOk r (λ a. a ≡ source_shown v)
    → IfOk r (λ a. a ≡ source_answer m sizes answers call steps)
source_by m sizes answers call steps args v r same shows is =
    let s = source_run v.machine in
    let k = subst (λ (ws : List Word). ShowsSource m sizes call.func ws answers steps v) same shows in
    on_answer r (source_shown v) (source_answer m sizes answers call steps)
    (by_view m s.given.code s.state.world.events s.state.world.allocs s.state.outcome v.outcome
    (SourceAt m sizes call.func call.args answers steps) k.code k.seen k.outcome) is

pub framed_by : {E : Type 0} (m : Module) (layouts : Layouts) (answers : List ℤ) (call : EntryCall) (steps : ℕ)
    (args : List Word) (v : FramedView) (r : Result Answer E) → args ≡ call.args
    → ShowsFramed m layouts call.func args answers steps v → IfOk r (λ a. a ≡ framed_shown v)
    → IfOk r (λ a. a ≡ framed_answer m layouts answers call steps)
framed_by m layouts answers call steps args v r same shows is =
    let s = framed_run v.machine in
    let k = subst (λ (ws : List Word). ShowsFramed m layouts call.func ws answers steps v) same shows in
    on_answer r (framed_shown v) (framed_answer m layouts answers call steps)
    (by_view m s.given.given.code s.state.world.events s.state.world.allocs s.state.outcome v.outcome
    (FramedAt m layouts call.func call.args answers steps) k.code k.seen k.outcome) is
