use Rattle.std.proofs.Common.{◌≡◌, ℕ, ◌<◌}
use Rattle.run_compare.specs.Report.{HasCome, plain_seen}
use Rattle.run_plain.specs.Machines.{ran, run_of}
use Rattle.run_compare.proofs.comparing.follow.Given as goal

abbrev pub invariant-loop-steps : goal.invariant-loop-steps
invariant-loop-steps l =
    (run_of l.lowered ≡ ran l.steps (run_of l.initial.lowered))
    × ((i : ℕ) → i < l.steps → HasCome l.events l.returned (plain_seen (run_of l.initial.lowered) i) → ⊥)
