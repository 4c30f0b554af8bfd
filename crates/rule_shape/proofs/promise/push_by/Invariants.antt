use Rattle.std.proofs.Common.{◌≡◌, ◌++◌, drop, flat_map}
use Rattle.rule_windows.specs.ir_paths.Slots.{allocas_in}
use Rattle.rule_shape.proofs.promise.push_by.Given as goal

abbrev pub invariant-loop-block : goal.invariant-loop-block
invariant-loop-block l = l.all ++ flat_map (λ b. allocas_in b.instrs) (drop l.block-index l.blocks) ≡ l.initial.all ++ flat_map (λ b. allocas_in b.instrs) l.blocks
