use Rattle.std.proofs.Common.{◌≡◌, ◌++◌, drop}
use Rattle.text_canonical.specs.canonical.Items.{type_items_text}
use Rattle.text_printer.proofs.items.push_type_items.Given as goal

abbrev pub invariant-loop-item : goal.invariant-loop-item
invariant-loop-item l = l.out.items ++ type_items_text (drop l.item-index l.items) ≡ l.initial.out.items ++ type_items_text l.items
