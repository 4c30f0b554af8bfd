use Rattle.std.proofs.Common.{rules, take, subst, sym, ◌∙◌, ap, arith, ◌+◌}
use Rattle.std.proofs.lemmas.List.Sorted.{IsNonDecreasingBy-from_sort_by_key}
use Rattle.frame_placing.specs.declared.bars.Bar.{Bar}
use Rattle.frame_placing.proofs.Covering.{IsGathered, gather_push, gather_skip, gathered}
use Rattle.frame_placing.proofs.sides.bars_of.Goals as goal
use Rattle.frame_placing.proofs.sides.bars_of.Goals.{then-size-gt0+in_ok-push, else-size-gt0}

pub loop-k-preserved : goal.loop-k-preserved
loop-k-preserved c =
    elim c.if-size-gt0.branch [
      | then-size-gt0+in_ok-push w ↦ gather_push c.args.rooms.now c.args.offsets.now c.args.fields.now c.loop-k.k-index c.size_at-size.result c.loop-k.bars.items c.if-size-gt0.bars.items c.loop-k-test.true c.size_at-size.ensures w.if-size-gt0.true
          (ap (λ v. v.items) w.bars-is ∙ w.in_ok-push.ensures.items) c.loop-k.invariant
      | else-size-gt0 w ↦ subst (λ v. IsGathered c.args.rooms.now c.args.offsets.now (take (c.loop-k.k-index + 1) c.args.fields.now) v.items) (sym w.bars-is)
          (gather_skip c.args.rooms.now c.args.offsets.now c.args.fields.now c.loop-k.k-index c.loop-k.bars.items c.loop-k-test.true (let e = c.size_at-size.ensures in omega (arith, e)) c.loop-k.invariant)
    ]

pub returns : goal.returns
returns c =
    gathered c.args.rooms.now c.args.offsets.now c.args.fields.now c.loop-k.k-index c.loop-k.bars.items c.sort_unstable_by_key.new.self.items c.loop-k-test.false c.loop-k.invariant c.sort_unstable_by_key.ensures.permutation
    (IsNonDecreasingBy-from_sort_by_key (λ (x : Bar). x.start) c.sort_unstable_by_key.new.self.items c.sort_unstable_by_key.ensures.sorted (λ a r f k. search rules))
