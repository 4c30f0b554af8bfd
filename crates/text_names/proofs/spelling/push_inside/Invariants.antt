use Rattle.std.proofs.Common.{◌≡◌, ◌++◌, drop}
use Rattle.text_names.specs.Spelling.{inside}
use Rattle.text_names.proofs.spelling.push_inside.Given as goal

abbrev pub invariant-loop-byte : goal.invariant-loop-byte
invariant-loop-byte l = l.out.items ++ inside (drop l.byte-index l.text) ≡ l.initial.out.items ++ inside l.text
