use Rattle.run_memory.proofs.Split.{same_block}
use Rattle.run_memory.proofs.memory.Memory.transfer.Goals as goal

pub returns-then-to-from : goal.returns-then-to-from
returns-then-to-from c =
    same_block c.self.inside.blocks.items c.args.self.now c.args.to c.args.from c.args.len c.index_mut-x.result.now c.copy_within.new.self c.self.view_is c.index_mut-x.ensures.value c.requires.to_within c.if-to-from.true c.copy_within.ensures.value
