use Rattle.std.proofs.Common.{◌≡◌, ◌++◌, None, drop, get_or}
use Rattle.frame_contents.specs.Held.{both_at_fields}
use Rattle.frame_contents.proofs.positions.both_at_fields.Given as goal

abbrev pub invariant-loop-pair : goal.invariant-loop-pair
invariant-loop-pair l = l.all.items ++ both_at_fields (λ v. get_or l.table v None) (drop l.pair-index l.pairs) ≡ both_at_fields (λ v. get_or l.table v None) l.pairs
