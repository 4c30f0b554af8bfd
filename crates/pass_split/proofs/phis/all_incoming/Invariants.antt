use Rattle.std.proofs.Common.{◌≡◌, ◌++◌, ◌∷◌, drop, take, map, filter, length, ◌-◌, ◌+◌}
use Rattle.std.specs.Prelude.{filter_map}
use Rattle.pass_split.specs.Pieces.{pieced_incoming}
use Rattle.pass_split.proofs.phis.all_incoming.Given as goal

abbrev pub invariant-loop-one : goal.invariant-loop-one
invariant-loop-one l = l.all ++ filter_map (pieced_incoming l.shape l.part l.origins l.label) (drop l.one-index l.incoming) ≡ filter_map (pieced_incoming l.shape l.part l.origins l.label) l.incoming
