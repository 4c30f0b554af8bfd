use Rattle.std.proofs.Common.{◌≡◌, drop}
use Rattle.ir_parts.specs.Contents.{arg_operands}
use Rattle.frame_crossing.specs.Words.{operands_word}
use Rattle.frame_crossing.proofs.text.args_word.Given as goal

abbrev pub invariant-loop-arg : goal.invariant-loop-arg
invariant-loop-arg l = operands_word l.numbers l.chunk l.word (arg_operands (drop l.arg-index l.args)) ≡ operands_word l.numbers l.chunk l.first (arg_operands l.args)
