use Rattle.std.proofs.Common.{◌≡◌, filter, take}
use Rattle.frame_crossing.specs.OneWalk.{is_in}
use Rattle.frame_crossing.proofs.far.values_in.Given as goal

abbrev pub invariant-loop-value : goal.invariant-loop-value
invariant-loop-value l = l.far.items ≡ filter (is_in l.table) (take l.value-index l.values)
