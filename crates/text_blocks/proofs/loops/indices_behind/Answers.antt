use Rattle.std.proofs.Common.{◌≡◌, ◌<◌, length, true, arith}
use Rattle.text_blocks.specs.Instrs.{begins_index}
use Rattle.text_blocks.proofs.ListTurns.{indices_turn}
use Rattle.text_blocks.proofs.loops.indices_behind.Goals as goal

pub loop-alloc-preserved : goal.loop-alloc-preserved
loop-alloc-preserved c =
    let begun : begins_index c.loop-alloc.rest.now ≡ true = cc in
    let less : length c.in_ok-next.after.now < length c.loop-alloc.rest.now = omega arith in
    indices_turn _ c.loop-alloc.all c.push-in-loop-alloc.new.self c.loop-alloc.names c.index_of.new.names c.loop-alloc.rest.now c.in_ok-next.after.now c.in_ok-next.next c.loop-alloc.invariant begun c.in_ok-next.ensures less c.in_ok-push-2.ensures.ok
