use Rattle.std.proofs.Common.{◌≡◌, ◌++◌, ◌∷◌, drop, take, map, filter, length, ◌-◌, ◌+◌}
use Rattle.pass_split.specs.Reached.{is_flagged}
use Rattle.pass_split.proofs.reached.kept_incoming.Given as goal

abbrev pub invariant-loop-one : goal.invariant-loop-one
invariant-loop-one l = l.all ++ filter (λ i. is_flagged l.flags i.from) (drop l.one-index l.incoming) ≡ filter (λ i. is_flagged l.flags i.from) l.incoming
