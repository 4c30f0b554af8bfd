use Rattle.std.proofs.Common.{arith}
use Rattle.run_memory.proofs.Blocks.{change_at, change_past}
use Rattle.run_memory.specs.Memory.{disowned}
use Rattle.run_memory.proofs.memory.Memory.disown.Goals as goal

pub returns-then-block-len : goal.returns-then-block-len
returns-then-block-len c =
    change_at c.self.inside.blocks.items c.args.self.now c.args.block disowned c.index_mut-x.result.now c.disown.new.self c.self.view_is c.index_mut-x.ensures.value (omega arith) c.disown.ensures.value

pub returns-else-block-len : goal.returns-else-block-len
returns-else-block-len c = change_past c.self.inside.blocks.items c.args.self.now c.args.block disowned c.self.view_is (omega arith)
