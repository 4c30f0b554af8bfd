use Rattle.std.proofs.Common.{arith}
use Rattle.run_memory.proofs.Blocks.{change_at, change_past}
use Rattle.run_memory.specs.Memory.{owned_to}
use Rattle.run_memory.proofs.memory.Memory.own_at.Goals as goal

pub returns-then-block-len : goal.returns-then-block-len
returns-then-block-len c =
    change_at c.self.inside.blocks.items c.args.self.now c.args.block (owned_to c.args.n) c.index_mut-x.result.now c.own.new.self c.self.view_is c.index_mut-x.ensures.value (omega arith) c.own.ensures.value

pub returns-else-block-len : goal.returns-else-block-len
returns-else-block-len c = change_past c.self.inside.blocks.items c.args.self.now c.args.block (owned_to c.args.n) c.self.view_is (omega arith)
