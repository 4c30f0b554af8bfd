-- The text of a report.
use Rattle.std.proofs.Common.{◌≡◌, ◌∙◌, ℕ, ℤ, List, Ok, Err, refl, sym, ap, subst}
use Rattle.std.specs.Prelude.{IfOk, Result}
use Rattle.cli_compare.specs.Agreeing.{AreRunsFollowed}
use Rattle.cli_compare.specs.Compared.{IsReported, IsReportedOf, report_text, report_verdict}
use Rattle.cli_runs.specs.cli_entries.Entries.{shown}
use Rattle.cli_runs.specs.cli_entries.declared.verdict.Answer.{Answer}
use Rattle.cli_runs.specs.cli_entries.declared.verdict.EntryCall.{EntryCall}
use Rattle.cli_runs.specs.run_whole.Source.{IsStarted}
use Rattle.cli_words.specs.declared.words.RunWords.{RunWords}
use Rattle.ir_base.specs.declared.outcome.Outcome.{Outcome}
use Rattle.ir_base.specs.declared.outcome.Word.{Word}
use Rattle.ir_model.specs.declared.module.Frame.{Frame}
use Rattle.ir_model.specs.declared.module.Module.{Module}
use Rattle.run_compare.specs.Report.{AreFollowed, IsFollowed, IsReport, plain_seen, source_seen}
use Rattle.run_compare.specs.declared.reports.Report.{Report}
use Rattle.run_plain.specs.Machines.{PlainRun, machine_at as plain_at}
use Rattle.run_source.specs.Machines.{SourceRun}
use Rattle.run_source_tables.specs.Given.{Given}

pub reported_of : (r s : SourceRun) (b : PlainRun) (steps : ℕ) (report : Report) → IsReport (source_seen r) b steps report
    → s.given ≡ r.given → (m : Module) → m ≡ s.given.code → (text : List ℕ) → text ≡ report_text m report
    → (a : Answer) → a ≡ shown (report_verdict report.outcome) text → IsReportedOf r b steps a
reported_of r s b steps report is same m code text told a answer = record {
  report = report;
  is = is;
  answer = answer ∙ ap (shown (report_verdict report.outcome)) (told
      ∙ ap (λ (n : Module). report_text n report) (code ∙ ap (λ (g : Given). g.code) same));
}

-- ---- machines that were started, with the arguments of the call and the answers of the words

module _ (source : Module) (sizes : List Frame) (lowered : Module) (w : RunWords) (call : EntryCall) (other : ℕ)
    (args : List Word) (answers : List ℤ) (same-args : args ≡ call.args) (same-answers : answers ≡ w.answers)
    (r : SourceRun) (b : PlainRun) (first : IsStarted source sizes call.func args answers r)
    (second : b ≡ plain_at (record { code = lowered; answers = answers }) other args 0) where
  started : IsStarted source sizes call.func call.args w.answers r
  started =
      subst (λ (ws : List Word). IsStarted source sizes call.func ws w.answers r) same-args
      (subst (λ (zs : List ℤ). IsStarted source sizes call.func args zs r) same-answers first)

  abbrev begun : PlainRun
  begun = plain_at (record { code = lowered; answers = w.answers }) other call.args 0

  is : b ≡ begun
  is =
      second ∙ ap (λ (zs : List ℤ). plain_at (record { code = lowered; answers = zs }) other args 0) same-answers
      ∙ ap (λ (ws : List Word). plain_at (record { code = lowered; answers = w.answers }) other ws 0) same-args

  pub followed_with : AreRunsFollowed source sizes lowered w.answers call other → AreFollowed r b
  followed_with h =
      subst (λ (x : PlainRun). AreFollowed r x) (sym is) (record {
        each = subst (λ a. IsFollowed a (plain_seen begun)) (λ i n. sym (started.seen n) i) h.each;
      })

  reported : (a : Answer) → IsReportedOf r b w.steps a → IsReported source sizes lowered w call other a
  reported a k = record {
    report = k.report;
    is = subst (λ f. IsReport f begun w.steps k.report) (λ i n. started.seen n i)
        (subst (λ (x : PlainRun). IsReport (source_seen r) x w.steps k.report) is k.is);
    answer = k.answer
        ∙ ap (λ (m : Module). shown (report_verdict k.report.outcome) (report_text m k.report)) started.code;
  }

  pub reported_with : {E : Type 0} (result : Result Answer E) → IfOk result (λ a. IsReportedOf r b w.steps a)
      → IfOk result (λ a. IsReported source sizes lowered w call other a)
  reported_with (Ok a) k = reported a k
  reported_with (Err e) k = k
