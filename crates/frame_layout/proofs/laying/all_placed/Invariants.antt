use Rattle.std.proofs.Common.{◌≡◌, map, take}
use Rattle.frame_layout.specs.Layouts.{placed}
use Rattle.frame_layout.proofs.laying.all_placed.Given as goal

abbrev pub invariant-loop-k : goal.invariant-loop-k
invariant-loop-k l = l.all ≡ map (placed l.fields l.offsets) (take l.k-index l.order)
