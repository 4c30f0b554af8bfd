use Rattle.std.proofs.Common.{◌≡◌, ◌++◌, drop}
use Rattle.text_names.specs.Opened.{InRange, opened}
use Rattle.text_names.specs.declared.escape.Escape.{Escape}
use Rattle.text_names.proofs.opened.opened.Given as goal

abbrev pub invariant-loop-byte : goal.invariant-loop-byte
invariant-loop-byte l = record {
  small : InRange l.at;
  read : l.text.items ++ opened l.at (drop l.byte-index l.bytes) ≡ opened Escape.Outside l.bytes;
}
