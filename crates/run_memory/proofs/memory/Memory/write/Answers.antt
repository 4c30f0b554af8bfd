use Rattle.std.proofs.Common.{length}
use Rattle.run_memory.proofs.Blocks.{change_within}
use Rattle.run_memory.specs.Memory.{with_bytes}
use Rattle.run_memory.proofs.memory.Memory.write.Goals as goal

pub returns : goal.returns
returns c =
    change_within c.self.inside.blocks.items c.args.self.now c.args.spot.block c.args.spot.offset (length c.args.new.now) (with_bytes c.args.spot.offset c.args.new.now) c.index_mut-x.result.now c.write.new.self c.self.view_is c.index_mut-x.ensures.value c.requires c.write.ensures.value
