use Rattle.std.proofs.Common.{◌≡◌, drop}
use Rattle.frame_crossing.specs.OneWalk.{uses_far}
use Rattle.frame_crossing.proofs.far.see_uses.Given as goal

abbrev pub invariant-loop-one : goal.invariant-loop-one
invariant-loop-one l = uses_far l.far (drop l.one-index l.uses) ≡ uses_far l.initial.far l.uses
