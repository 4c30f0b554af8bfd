use Rattle.std.proofs.Common.{◌≡◌, drop}
use Rattle.rule_window_values.specs.Words.{taken_blocks}
use Rattle.rule_window_values.proofs.scan.taken_blocks.Given as goal

abbrev pub invariant-loop-at : goal.invariant-loop-at
invariant-loop-at l = taken_blocks l.function l.numbers l.chunk l.at l.told (drop l.at l.function.blocks) ≡ taken_blocks l.function l.numbers l.chunk 0 0 l.function.blocks
