use Rattle.std.proofs.Common.{◌≡◌, ◌+◌, ◌%◌, arith}
use Rattle.frame_conflicts.proofs.Order.{by_test, next_row}
use Rattle.frame_conflicts.proofs.Places.{bit_test, bit_within}
use Rattle.frame_conflicts.specs.Conflicts.{AliveAt}
use Rattle.frame_conflicts.proofs.suspended.push_suspends.Goals as goal

pub loop-suspend-preserved : goal.loop-suspend-preserved
loop-suspend-preserved c =
    let k = c.loop-suspend.suspend in
    let two = bit_test c.has_bit-is_alive.result c.word_at.result _ (c.args.at % 64) c.has_bit-is_alive.ensures c.word_at.ensures in
    by_test (AliveAt c.args.function.now) c.has_bit-is_alive.result c.args.at c.loop-suspend.suspend c.loop-suspend.pairs c.push_if.new.pairs
    (λ e. (c.requires.told.each k).0 (two.0 e))
    (λ a. two.1 ((c.requires.told.each k).1 a))
    c.in_ok-push_if.ensures c.loop-suspend.invariant

pub returns : goal.returns
returns c = next_row (AliveAt c.args.function.now) c.args.at c.loop-suspend.suspend c.loop-suspend.pairs
    (λ k a. let lt = bit_within c.args.words.now k (c.args.at % 64) ((c.requires.told.each k).1 a) in let past = c.loop-suspend-test.false in omega (arith, lt, past))
    c.loop-suspend.invariant
