use Rattle.std.proofs.Common.{◌≡◌, ◌++◌, drop, get_or, false}
use Rattle.frame_contents.specs.Held.{held_params}
use Rattle.frame_contents.proofs.held.push_params.Given as goal

abbrev pub invariant-loop-param : goal.invariant-loop-param
invariant-loop-param l = l.all ++ held_params (λ v. get_or l.values v false) (drop l.param-index l.params) ≡ l.initial.all ++ held_params (λ v. get_or l.values v false) l.params
