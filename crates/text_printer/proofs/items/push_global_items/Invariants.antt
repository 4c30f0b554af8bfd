use Rattle.std.proofs.Common.{◌≡◌, ◌++◌, drop}
use Rattle.text_canonical.specs.canonical.Items.{global_items_text}
use Rattle.text_printer.proofs.items.push_global_items.Given as goal

abbrev pub invariant-loop-item : goal.invariant-loop-item
invariant-loop-item l = l.out.items ++ global_items_text (drop l.item-index l.items) ≡ l.initial.out.items ++ global_items_text l.items
