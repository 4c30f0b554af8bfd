use Rattle.std.proofs.Common.{◌≡◌, ◌+◌, drop}
use Rattle.frame_bounds.specs.Bounds.{params_bound}
use Rattle.frame_bounds.proofs.bounds.plus_params.Given as goal

abbrev pub invariant-loop-param : goal.invariant-loop-param
invariant-loop-param l = l.sum + params_bound (drop l.param-index l.params) ≡ l.initial.sum + params_bound l.params
