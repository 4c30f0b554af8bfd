use Rattle.std.proofs.Common.{◌≡◌, ◌≤◌, drop}
use Rattle.clang_reader.specs.Forms.{value_of}
use Rattle.clang_reader.proofs.form.value_of.Given as goal

abbrev pub invariant-loop-digit : goal.invariant-loop-digit
invariant-loop-digit l = record {
  small : l.value ≤ 10245;
  read : value_of l.value (drop l.digit-index l.digits) ≡ value_of 0 l.digits;
}
