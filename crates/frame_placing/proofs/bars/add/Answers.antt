use Rattle.std.proofs.Common.{◌≡◌, ◌-◌, List, refl, subst, arith, rules, true, false}
use Rattle.std.specs.Prelude.{nat_lt}
use Rattle.std.specs.List.Sorted.{IsPartitionPoint}
use Rattle.std.proofs.lemmas.List.Sorted.{IsPartitionPoint-from_clause, IsPartitionedBy-ltb}
use Rattle.frame_placing.specs.declared.bars.Bar.{Bar}
use Rattle.frame_placing.proofs.Adding.{made_wider, put_between}
use Rattle.frame_placing.proofs.Covers.{starts_rise}
use Rattle.frame_placing.proofs.bars.add.Goals as goal

pub returns-then-more-before : goal.returns-then-more-before
returns-then-more-before c =
    let up = starts_rise c.args.bars.now.items c.requires.bars in
    let split =
    subst (λ (b : List Bar). IsPartitionPoint (λ (y : Bar). nat_lt y.start c.args.more.start ≡ true) (λ (y : Bar). nat_lt y.start c.args.more.start ≡ false) b c.partition_point-at.result) c.deref.ensures.value
    (IsPartitionPoint-from_clause (λ (y : Bar). nat_lt y.start c.args.more.start) c.deref.result.now c.partition_point-at.result c.partition_point-at.ensures.partitioned
    (rw c.deref.ensures.value (IsPartitionedBy-ltb (λ (x : Bar). x.start) c.args.bars.now.items c.args.more.start up)) (λ a r f k. search rules)) in
    let bound = c.partition_point-at.ensures.bound in
    let len = c.deref.ensures.len in
    made_wider c.args.bars.now.items _ c.args.more c.index-before.result.now c.partition_point-at.result (c.partition_point-at.result - 1) c.max-end.result c.requires.bars c.requires.more split (omega (arith, bound, len)) (omega arith)
    c.index-before.ensures c.if-more-before.true c.max-end.ensures refl

pub returns : goal.returns
returns c =
    let up = starts_rise c.args.bars.now.items c.requires.bars in
    let split =
    subst (λ (b : List Bar). IsPartitionPoint (λ (y : Bar). nat_lt y.start c.args.more.start ≡ true) (λ (y : Bar). nat_lt y.start c.args.more.start ≡ false) b c.partition_point-at.result) c.deref.ensures.value
    (IsPartitionPoint-from_clause (λ (y : Bar). nat_lt y.start c.args.more.start) c.deref.result.now c.partition_point-at.result c.partition_point-at.ensures.partitioned
    (rw c.deref.ensures.value (IsPartitionedBy-ltb (λ (x : Bar). x.start) c.args.bars.now.items c.args.more.start up)) (λ a r f k. search rules)) in
    let bound = c.partition_point-at.ensures.bound in
    let len = c.deref.ensures.len in
    put_between c.args.bars.now.items c.insert.new.self.items c.args.more c.partition_point-at.result c.requires.bars c.requires.more (omega (arith, bound, len)) split c.in_ok-insert.ensures.items
