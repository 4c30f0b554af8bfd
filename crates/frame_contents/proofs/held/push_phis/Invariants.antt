use Rattle.std.proofs.Common.{◌≡◌, ◌++◌, drop, get_or, false}
use Rattle.frame_contents.specs.Held.{held_phis}
use Rattle.frame_contents.proofs.held.push_phis.Given as goal

abbrev pub invariant-loop-phi : goal.invariant-loop-phi
invariant-loop-phi l = l.all ++ held_phis (λ v. get_or l.values v false) (drop l.phi-index l.phis) ≡ l.initial.all ++ held_phis (λ v. get_or l.values v false) l.phis
