use Rattle.std.proofs.Common.{◌≡◌, length, reverse}
use Rattle.text_reader.specs.Types.{on_from, type_at}
use Rattle.text_reader.proofs.types.type_of.Given as goal

abbrev pub invariant-loop-step : goal.invariant-loop-step
invariant-loop-step l = type_at l.symbols ≡ on_from l.step l.rest (reverse l.outers.items)

abbrev pub decreases-loop-step : goal.decreases-loop-step
decreases-loop-step l = length l.rest
