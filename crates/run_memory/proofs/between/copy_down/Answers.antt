use Rattle.std.proofs.Common.{◌<◌, ◌∙◌, arith, refl, length}
use Rattle.std.specs.Prelude.{slice_get}
use Rattle.run_memory.proofs.Blocks.{block_below}
use Rattle.run_memory.proofs.Split.{copied_at, split_low, split_high, set_low, whole_along}
use Rattle.run_memory.proofs.between.copy_down.Goals as goal

pub returns-clause-value : goal.returns-clause-value
returns-clause-value c =
    let e = c.split_at_mut-low.ensures.value in
    let n = c.split_at_mut-low.ensures.front_len in
    let m = c.args.blocks.now in
    let lt : c.args.to.block < length c.split_at_mut-low.result.0.now = omega (arith, c.requires.below) in
    let b = block_below m c.args.from.block c.args.from.offset c.args.len (slice_get m c.args.from.block) refl c.requires.from_within in
    set_low m _ _ c.args.to.block c.write.new.self e lt
    ∙ copied_at m c.args.to c.args.from c.args.len _ _ c.write.new.self c.part-bytes.result.now
    (split_low m _ _ c.args.to.block c.index-low-to.result e lt c.index-low-to.is)
    (split_high m _ _ c.args.from.block c.index-high-0.result e n b c.index-high-0.is)
    (rw (← c.index-high-0.is) at c.part-bytes.ensures)
    (rw (← c.index-low-to.is) at c.write.ensures.value)

pub returns-clause-whole : goal.returns-clause-whole
returns-clause-whole c =
    let e = c.split_at_mut-low.ensures.value in
    let n = c.split_at_mut-low.ensures.front_len in
    let lt : c.args.to.block < length c.split_at_mut-low.result.0.now = omega (arith, c.requires.below) in
    whole_along c.args.blocks.now _ c.args.to.block c.write.new.self (set_low c.args.blocks.now _ _ c.args.to.block c.write.new.self e lt) c.requires.whole c.write.ensures.whole
