use Rattle.std.proofs.Common.{List, ℕ, ◌+◌, get_or, subst, sym}
use Rattle.std.proofs.lemmas.Option.{slice_get-get_or}
use Rattle.frame_placing.specs.Bars.{IsFloor, IsMore}
use Rattle.frame_placing.specs.Placed.{Always}
use Rattle.frame_placing.specs.Rooms.{size_at}
use Rattle.frame_placing.specs.Steps.{CoverFirst, HasNoRoom, HasRoom, IsUnderway, placed_by}
use Rattle.frame_placing.specs.declared.bars.Bar.{Bar}
use Rattle.frame_placing.proofs.Covering.{cover_more, first_taken}
use Rattle.frame_placing.proofs.Passing.{next_floor, same_floor}
use Rattle.frame_placing.proofs.Stepping.{all_placed, no_room, room_placed}
use Rattle.frame_placing.proofs.underway.place_behind.Goals as goal

pub place_one-requires-clause-from : goal.place_one-requires-clause-from
place_one-requires-clause-from c =
    subst (λ (b : List Bar). IsFloor b (size_at c.args.rooms.now (get_or c.args.order.now c.loop-k.k-index 0)) (placed_by c.args.rooms.now c.args.promise (get_or c.args.order.now c.loop-k.k-index 0)) c.floor_for-from.result) (sym c.as_slice.ensures.value)
    (subst (λ (n : ℕ). IsFloor c.loop-k.bars.items n (placed_by c.args.rooms.now c.args.promise (get_or c.args.order.now c.loop-k.k-index 0)) c.floor_for-from.result) c.size_at-size.ensures
    (subst (λ (n : ℕ). IsFloor c.loop-k.bars.items c.size_at-size.result n c.floor_for-from.result) c.placed_by-align.ensures
    (same_floor c.loop-k.bars.items c.loop-k.last.size c.loop-k.last.align c.loop-k.last.offset c.size_at-size.result c.placed_by-align.result c.floor_for-from.result c.loop-k.invariant.floor c.floor_for-from.ensures)))

pub returns-in-None : goal.returns-in-None
returns-in-None c =
    let here = slice_get-get_or c.args.order.now c.loop-k.k-index 0 c.loop-k-test.true in
    let none = subst (λ (b : List Bar). HasNoRoom c.args.rooms.now c.args.promise b (get_or c.args.order.now c.loop-k.k-index 0) c.args.limit) c.as_slice.ensures.value c.in-None.ensures in
    no_room c.args.rooms.now c.args.promise Always c.args.order.now c.requires.order c.args.limit c.loop-k.offsets c.loop-k.k-index (get_or c.args.order.now c.loop-k.k-index 0) c.loop-k.bars.items c.loop-k.invariant.underway here
    (first_taken c.args.rooms.now c.args.promise c.args.order.now c.loop-k.offsets c.loop-k.k-index (get_or c.args.order.now c.loop-k.k-index 0) c.loop-k.bars.items c.requires.order here c.loop-k.invariant.cover) none

pub loop-k-preserved : goal.loop-k-preserved
loop-k-preserved c =
    let here = slice_get-get_or c.args.order.now c.loop-k.k-index 0 c.loop-k-test.true in
    let room = subst (λ (b : List Bar). HasRoom c.args.rooms.now c.args.promise b (get_or c.args.order.now c.loop-k.k-index 0) c.args.limit c.in-Some.offset) c.as_slice.ensures.value c.in-Some.ensures in
    record {
      underway = subst (IsUnderway c.args.rooms.now c.args.promise Always c.args.order.now c.args.limit (c.loop-k.k-index + 1)) (sym c.set.ensures)
          (room_placed c.args.rooms.now c.args.promise Always c.args.order.now c.requires.order c.args.limit c.loop-k.offsets c.loop-k.k-index (get_or c.args.order.now c.loop-k.k-index 0) c.in-Some.offset c.loop-k.bars.items c.loop-k.invariant.underway here
          (first_taken c.args.rooms.now c.args.promise c.args.order.now c.loop-k.offsets c.loop-k.k-index (get_or c.args.order.now c.loop-k.k-index 0) c.loop-k.bars.items c.requires.order here c.loop-k.invariant.cover) room);
      cover = subst (λ (o : List ℕ). CoverFirst c.args.rooms.now c.args.order.now (c.loop-k.k-index + 1) o c.add_field.new.bars.items) (sym c.set.ensures)
          (cover_more c.args.rooms.now c.args.promise c.args.order.now c.loop-k.offsets c.loop-k.k-index (get_or c.args.order.now c.loop-k.k-index 0) c.in-Some.offset c.loop-k.bars.items c.add_field.new.bars.items
          c.requires.order here c.loop-k.invariant.underway.one_each c.loop-k.invariant.cover
          (subst (λ (n : ℕ). IsMore c.loop-k.bars.items (record { start = c.in-Some.offset; end = c.in-Some.offset + n }) c.add_field.new.bars.items) c.size_at-size.ensures c.in_ok-add_field-in-Some.ensures));
      floor = subst (λ (n : ℕ). IsFloor c.add_field.new.bars.items n c.placed_by-align.result c.in-Some.offset) (sym c.size_at-size.ensures)
          (subst (λ (n : ℕ). IsFloor c.add_field.new.bars.items (size_at c.args.rooms.now (get_or c.args.order.now c.loop-k.k-index 0)) n c.in-Some.offset) (sym c.placed_by-align.ensures)
          (next_floor c.loop-k.bars.items c.add_field.new.bars.items (record { start = c.in-Some.offset; end = c.in-Some.offset + c.size_at-size.result }) _ _ c.in-Some.offset c.in_ok-add_field-in-Some.ensures room.is_least));
    }

pub returns : goal.returns
returns c = all_placed c.args.rooms.now c.args.promise Always c.args.order.now c.requires.order c.args.limit c.loop-k.offsets c.loop-k.k-index c.loop-k-test.false c.requires.header c.loop-k.invariant.underway
