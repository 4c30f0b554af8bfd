use Rattle.std.proofs.Common.{◌≡◌, ◌+◌, ◌≤◌, length}
use Rattle.text_lexer.specs.Lists.{all_at}
use Rattle.text_parser.specs.Items.{item_at, items_at}
use Rattle.text_parser.proofs.ItemSteps.{from}
use Rattle.text_parser.proofs.items.items_of.Given as goal

abbrev pub invariant-loop-item : goal.invariant-loop-item
invariant-loop-item l = (items_at l.known l.symbols ≡ from l.draft (all_at (item_at l.known) l.rest)) × (l.draft.count + length l.rest ≤ length l.symbols)

abbrev pub decreases-loop-item : goal.decreases-loop-item
decreases-loop-item l = length l.rest
