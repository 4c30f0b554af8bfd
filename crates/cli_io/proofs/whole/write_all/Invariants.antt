use Rattle.std.proofs.Common.{◌≡◌, ◌≤◌, ◌-◌, List, ℕ, length, ◌++◌}
use Rattle.std.specs.Io.KnownBytes.{Appends}
use Rattle.cli_io.proofs.whole.write_all.Given as goal

abbrev pub invariant-loop-rest : goal.invariant-loop-rest
invariant-loop-rest g l =
    (gone : List ℕ)
    × (l.bytes ≡ gone ++ l.rest)
    × Appends (g.K.Sink.held l.initial.sink) (g.K.Sink.held l.sink) gone
    × (g.K.Sink.faults l.initial.sink ≤ g.K.Sink.faults l.sink)
    × ((room : ℕ) → g.K.Sink.IsSureFor l.initial.sink room → length l.bytes ≤ room
    → g.K.Sink.IsSureFor l.sink (room - length gone) × (g.K.Sink.faults l.sink ≡ g.K.Sink.faults l.initial.sink))

abbrev pub decreases-loop-rest : goal.decreases-loop-rest
decreases-loop-rest g l = length l.rest
