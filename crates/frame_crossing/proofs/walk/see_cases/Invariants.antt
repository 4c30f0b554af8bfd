use Rattle.std.proofs.Common.{◌≡◌, drop, map}
use Rattle.frame_crossing.specs.OneWalk.{with_uses}
use Rattle.frame_crossing.proofs.walk.see_cases.Given as goal

abbrev pub invariant-loop-case : goal.invariant-loop-case
invariant-loop-case l = with_uses l.made l.mark l.far (map (λ k. k.arg.value) (drop l.case-index l.cases)) ≡ with_uses l.made l.mark l.initial.far (map (λ k. k.arg.value) l.cases)
