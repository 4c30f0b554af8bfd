use Rattle.std.proofs.Common.{◌≡◌, ℕ, ◌<◌, List, length, subst, sym, arith}
use Rattle.std.proofs.lemmas.Option.{slice_get_within}
use Rattle.ir_paths.specs.Slots.{allocas_of}
use Rattle.frame_conflicts.proofs.Parting.{all_below, more_below, none_below}
use Rattle.frame_conflicts.specs.Parts.{AreBelow, IsWideAt}
use Rattle.frame_conflicts.proofs.parts.wide_slots.Goals as goal

pub loop-at-init : goal.loop-at-init
loop-at-init c = subst (λ (l : List ℕ). AreBelow (IsWideAt c.args.function.now) 0 l) (sym c.new-all.ensures) (none_below (IsWideAt c.args.function.now))

pub loop-at-preserved : goal.loop-at-preserved
loop-at-preserved c = more_below (IsWideAt c.args.function.now) c.is_wide-holds.result c.loop-at.at c.loop-at.all c.push_number.new.all c.is_wide-holds.ensures.0 c.is_wide-holds.ensures.1 c.in_ok-push_number.ensures c.loop-at.invariant

pub returns : goal.returns
returns c = all_below (IsWideAt c.args.function.now) c.loop-at.at c.loop-at.all
    (λ i h.
    let lt = slice_get_within (allocas_of c.args.function.now) i h.slot h.is_slot.stands in
    let count = c.requires.is_count in
    let past = c.loop-at-test.false in
    omega (arith, lt, count, past))
    c.loop-at.invariant
