use Rattle.std.proofs.Common.{◌≡◌, ℕ, ◌<◌}
use Rattle.run_agreement.specs.Machines.{IsRunning}
use Rattle.run_compare.specs.Report.{source_seen}
use Rattle.run_source.specs.Machines.{ran, run_of}
use Rattle.run_compare.proofs.comparing.run_source.Given as goal

abbrev pub invariant-loop-made : goal.invariant-loop-made
invariant-loop-made l =
    (run_of l.source ≡ ran l.made (run_of l.initial.source))
    × ((i : ℕ) → i < l.made → IsRunning (source_seen (run_of l.initial.source) i).outcome)
