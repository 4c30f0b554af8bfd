use Rattle.std.proofs.Common.{◌≡◌, ◌++◌, drop}
use Rattle.frame_crossing.specs.Values.{params_defined}
use Rattle.frame_crossing.proofs.values.push_params.Given as goal

abbrev pub invariant-loop-param : goal.invariant-loop-param
invariant-loop-param l = l.all.items ++ params_defined (drop l.param-index l.params) ≡ l.initial.all.items ++ params_defined l.params
