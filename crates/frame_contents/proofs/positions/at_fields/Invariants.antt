use Rattle.std.proofs.Common.{◌≡◌, ◌++◌, None, drop, get_or}
use Rattle.frame_contents.specs.Held.{at_fields}
use Rattle.frame_contents.proofs.positions.at_fields.Given as goal

abbrev pub invariant-loop-pair : goal.invariant-loop-pair
invariant-loop-pair l = l.all.items ++ at_fields (λ v. get_or l.table v None) (drop l.pair-index l.pairs) ≡ at_fields (λ v. get_or l.table v None) l.pairs
