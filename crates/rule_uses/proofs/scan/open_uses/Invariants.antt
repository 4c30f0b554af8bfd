use Rattle.std.proofs.Common.{◌≡◌, ◌++◌, None, drop, length, replicate}
use Rattle.rule_uses.specs.Scan.{open_blocks}
use Rattle.rule_uses.proofs.scan.open_uses.Given as goal

abbrev pub invariant-loop-at : goal.invariant-loop-at
invariant-loop-at l = l.opens.items ++ open_blocks l.function l.params l.last l.func l.at (drop l.at l.function.blocks) ≡ open_blocks l.function l.params (replicate (length l.function.names) None) l.func 0 l.function.blocks
