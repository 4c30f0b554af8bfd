use Rattle.std.proofs.Common.{◌≡◌, ◌+◌, ◌<◌, length, arith}
use Rattle.std.proofs.lemmas.Option.{slice_get_within}
use Rattle.ir_paths.specs.Slots.{allocas_of}
use Rattle.frame_conflicts.proofs.Order.{by_test, from_column, next_row}
use Rattle.frame_conflicts.specs.Conflicts.{ConflictAt}
use Rattle.frame_conflicts.proofs.answer.push_row.Goals as goal

pub overflow_step-other : goal.overflow_step-other
overflow_step-other c = omega arith

pub loop-other-init : goal.loop-other-init
loop-other-init c = from_column (ConflictAt c.args.function.now) c.args.one (c.args.one + 1) c.args.pairs.now (λ k h. let lt = h.is_lower in omega (arith, lt)) c.requires.pairs

pub loop-other-preserved : goal.loop-other-preserved
loop-other-preserved c = by_test (ConflictAt c.args.function.now) c.is_conflict-holds.result c.args.one c.loop-other.other c.loop-other.pairs c.push_if.new.pairs c.is_conflict-holds.ensures.0 c.is_conflict-holds.ensures.1 c.in_ok-push_if.ensures c.loop-other.invariant

pub returns : goal.returns
returns c = next_row (ConflictAt c.args.function.now) c.args.one c.loop-other.other c.loop-other.pairs
    (λ k h.
    let lt = slice_get_within (allocas_of c.args.function.now) k h.other h.is_other.stands in
    let count = c.requires.known.is_count in
    let past = c.loop-other-test.false in
    omega (arith, lt, count, past))
    c.loop-other.invariant
