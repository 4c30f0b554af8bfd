use Rattle.std.proofs.Common.{◌≡◌, length}
use Rattle.text_reader.specs.Attrs.{attrs_at}
use Rattle.text_reader.proofs.AttrSteps.{joined}
use Rattle.text_reader.proofs.attrs.attrs_of.Given as goal

abbrev pub invariant-loop-marks : goal.invariant-loop-marks
invariant-loop-marks l = attrs_at l.groups l.symbols ≡ joined l.coroutine (attrs_at l.groups l.rest)

abbrev pub decreases-loop-marks : goal.decreases-loop-marks
decreases-loop-marks l = length l.rest
