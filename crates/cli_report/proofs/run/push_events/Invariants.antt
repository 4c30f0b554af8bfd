use Rattle.std.proofs.Common.{◌≡◌, ◌++◌, drop}
use Rattle.cli_report.specs.Report.{events_text}
use Rattle.cli_report.proofs.run.push_events.Given as goal

abbrev pub invariant-loop-event : goal.invariant-loop-event
invariant-loop-event l = l.out.items ++ events_text l.source (drop l.event-index l.events) ≡ l.initial.out.items ++ events_text l.source l.events
