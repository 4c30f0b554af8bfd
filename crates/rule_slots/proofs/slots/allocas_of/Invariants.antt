use Rattle.std.proofs.Common.{◌≡◌, ◌++◌, drop}
use Rattle.std.specs.Prelude.{flat_map}
use Rattle.ir_paths.specs.Slots.{allocas_in, allocas_of}
use Rattle.rule_slots.proofs.slots.allocas_of.Given as goal

abbrev pub invariant-loop-block : goal.invariant-loop-block
invariant-loop-block l = l.all ++ flat_map (λ b. allocas_in b.instrs) (drop l.block-index l.function.blocks) ≡ allocas_of l.function
