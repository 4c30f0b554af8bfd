use Rattle.std.proofs.Common.{◌≡◌, ◌++◌, None, drop, get_or}
use Rattle.frame_contents.specs.Held.{field_positions}
use Rattle.frame_contents.proofs.positions.field_positions.Given as goal

abbrev pub invariant-loop-number : goal.invariant-loop-number
invariant-loop-number l = l.all.items ++ field_positions (λ v. get_or l.table v None) (drop l.number-index l.numbers) ≡ field_positions (λ v. get_or l.table v None) l.numbers
