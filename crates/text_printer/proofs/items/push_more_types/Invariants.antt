use Rattle.std.proofs.Common.{◌≡◌, ◌++◌, drop}
use Rattle.text_canonical.specs.canonical.Items.{more_types_text}
use Rattle.text_printer.proofs.items.push_more_types.Given as goal

abbrev pub invariant-loop-ty : goal.invariant-loop-ty
invariant-loop-ty l = l.out.items ++ more_types_text (drop l.ty-index l.types) ≡ l.initial.out.items ++ more_types_text l.types
