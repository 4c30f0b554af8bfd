use Rattle.std.proofs.Common.{◌≡◌, drop}
use Rattle.ir_parts.specs.Contents.{arg_operands}
use Rattle.rule_window_values.specs.Words.{operands_word}
use Rattle.rule_window_values.proofs.operands.with_args.Given as goal

abbrev pub invariant-loop-arg : goal.invariant-loop-arg
invariant-loop-arg l = operands_word l.numbers l.chunk l.word (arg_operands (drop l.arg-index l.args)) ≡ operands_word l.numbers l.chunk l.first (arg_operands l.args)
