use Rattle.std.proofs.Common.{◌≡◌, ◌<◌, length, true, arith}
use Rattle.text_blocks.specs.Terminators.{begins_phi}
use Rattle.text_blocks.proofs.ListTurns.{phis_turn}
use Rattle.text_blocks.proofs.loops.phis_of.Goals as goal

pub loop-alloc-preserved : goal.loop-alloc-preserved
loop-alloc-preserved c =
    let begun : begins_phi c.loop-alloc.rest.now ≡ true = cc in
    let less : length c.in_ok-next.after.now < length c.loop-alloc.rest.now = omega arith in
    phis_turn _ c.loop-alloc.all c.push.new.self c.loop-alloc.names c.phi_line_of.new.names c.loop-alloc.rest.now c.in_ok-next.after.now c.in_ok-next.next c.loop-alloc.invariant begun c.in_ok-next.ensures less c.in_ok-push.ensures.ok
