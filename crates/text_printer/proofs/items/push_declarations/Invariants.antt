use Rattle.std.proofs.Common.{◌≡◌, ◌++◌, drop}
use Rattle.text_canonical.specs.canonical.Items.{declarations_text}
use Rattle.text_printer.proofs.items.push_declarations.Given as goal

abbrev pub invariant-loop-item : goal.invariant-loop-item
invariant-loop-item l = l.out.items ++ declarations_text (drop l.item-index l.items) ≡ l.initial.out.items ++ declarations_text l.items
