use Rattle.std.proofs.Common.{◌≡◌, ◌++◌, ◌∷◌, drop, take, map, filter, length, ◌-◌, ◌+◌}
use Rattle.pass_split.specs.Pieces.{redirected_case}
use Rattle.pass_split.proofs.pieces.redirected_cases.Given as goal

abbrev pub invariant-loop-case : goal.invariant-loop-case
invariant-loop-case l = l.all ++ map (redirected_case l.shape) (drop l.case-index l.cases) ≡ map (redirected_case l.shape) l.cases
