use Rattle.std.proofs.Common.{◌≡◌, ◌++◌, drop}
use Rattle.text_canonical.specs.canonical.Blocks.{more_incoming_text}
use Rattle.text_printer.proofs.blocks.push_more_incoming.Given as goal

abbrev pub invariant-loop-incoming : goal.invariant-loop-incoming
invariant-loop-incoming l = l.out.items ++ more_incoming_text l.names (drop l.incoming-index l.all) ≡ l.initial.out.items ++ more_incoming_text l.names l.all
