use Rattle.std.proofs.Common.{List, ℕ, ◌+◌, ◌<◌, ◌≤◌, length, get_or, map, subst, sym, arith}
use Rattle.std.specs.Prelude.{slice_index}
use Rattle.std.proofs.lemmas.Option.{slice_get-get_or}
use Rattle.frame_placing.specs.Placed.{AreKeptApart, IsPair}
use Rattle.frame_placing.specs.Rooms.{size_at}
use Rattle.frame_placing.specs.Steps.{AreEarlier, IsUnderway}
use Rattle.frame_placing.proofs.Grouping.{side_grown, taken_here}
use Rattle.frame_placing.proofs.Stepping.{all_placed, earlier_within, no_room, room_placed}
use Rattle.frame_placing.proofs.underway.place_beside.Goals as goal

pub taken_bars-requires-clause-fields : goal.taken_bars-requires-clause-fields
taken_bars-requires-clause-fields c j listed =
    let here = slice_get-get_or c.args.order.now c.loop-k.k-index 0 c.loop-k-test.true in
    let rows = subst (λ r. AreEarlier c.args.rooms.now c.args.promise (IsPair c.args.conflicts.now) (map (λ row. row.items) r)) (sym c.as_slice.ensures.value) c.in_ok-rows.ensures in
    let is = rows.listed (get_or c.args.order.now c.loop-k.k-index 0) j c.row_at-row.result.now c.row_at-row.ensures listed in
    let within =
    earlier_within c.args.rooms.now c.args.promise (AreKeptApart c.args.conflicts.now c.args.one.now c.args.other.now) c.args.order.now c.requires.order c.args.limit c.loop-k.offsets c.loop-k.k-index j (get_or c.args.order.now c.loop-k.k-index 0) c.loop-k.invariant.underway here is.0 is.1.0 in
    let low = c.requires.limit in
    let end = within.1 in
    subst (λ (o : List ℕ). (j < length o) × (slice_index o j + size_at c.args.rooms.now j ≤ 16777216)) (sym c.as_slice-in-loop-k.ensures) (within.0, omega (arith, end, low))

pub returns-in-None : goal.returns-in-None
returns-in-None c =
    let here = slice_get-get_or c.args.order.now c.loop-k.k-index 0 c.loop-k-test.true in
    no_room c.args.rooms.now c.args.promise (AreKeptApart c.args.conflicts.now c.args.one.now c.args.other.now) c.args.order.now c.requires.order c.args.limit c.loop-k.offsets c.loop-k.k-index (get_or c.args.order.now c.loop-k.k-index 0) c.as_slice-in-loop-k-4.result.now
    c.loop-k.invariant.underway here
    (taken_here c.args.rooms.now c.args.promise c.args.conflicts.now c.args.one.now c.args.other.now c.args.order.now c.loop-k.offsets c.as_slice-in-loop-k.result.now c.loop-k.k-index (get_or c.args.order.now c.loop-k.k-index 0) c.in_ok-rows.rows.items c.as_slice.result.now (λ row. row.items)
    c.row_at-row.result.now c.loop-k.ones.items c.as_slice-in-loop-k-2.result.now c.loop-k.others.items c.as_slice-in-loop-k-3.result.now (λ bars. bars.items) c.groups_of-on_one.result.now c.groups_of-on_other.result.now c.in_ok-bars.bars.items c.as_slice-in-loop-k-4.result.now
    c.requires.order here c.in_ok-rows.ensures c.as_slice.ensures.value c.row_at-row.ensures c.loop-k.invariant.ones c.loop-k.invariant.others c.as_slice-in-loop-k.ensures c.as_slice-in-loop-k-2.ensures.value c.as_slice-in-loop-k-3.ensures.value c.groups_of-on_one.ensures
    c.groups_of-on_other.ensures c.in_ok-bars.ensures c.as_slice-in-loop-k-4.ensures.value)
    c.in-None.ensures

pub loop-k-preserved : goal.loop-k-preserved
loop-k-preserved c =
    let here = slice_get-get_or c.args.order.now c.loop-k.k-index 0 c.loop-k-test.true in
    record {
      underway = subst (IsUnderway c.args.rooms.now c.args.promise (AreKeptApart c.args.conflicts.now c.args.one.now c.args.other.now) c.args.order.now c.args.limit (c.loop-k.k-index + 1)) (sym c.set.ensures)
          (room_placed c.args.rooms.now c.args.promise (AreKeptApart c.args.conflicts.now c.args.one.now c.args.other.now) c.args.order.now c.requires.order c.args.limit c.loop-k.offsets c.loop-k.k-index (get_or c.args.order.now c.loop-k.k-index 0) c.in-Some.offset
          c.as_slice-in-loop-k-4.result.now c.loop-k.invariant.underway here
          (taken_here c.args.rooms.now c.args.promise c.args.conflicts.now c.args.one.now c.args.other.now c.args.order.now c.loop-k.offsets c.as_slice-in-loop-k.result.now c.loop-k.k-index (get_or c.args.order.now c.loop-k.k-index 0) c.in_ok-rows.rows.items c.as_slice.result.now
          (λ row. row.items) c.row_at-row.result.now c.loop-k.ones.items c.as_slice-in-loop-k-2.result.now c.loop-k.others.items c.as_slice-in-loop-k-3.result.now (λ bars. bars.items) c.groups_of-on_one.result.now c.groups_of-on_other.result.now c.in_ok-bars.bars.items
          c.as_slice-in-loop-k-4.result.now c.requires.order here c.in_ok-rows.ensures c.as_slice.ensures.value c.row_at-row.ensures c.loop-k.invariant.ones c.loop-k.invariant.others c.as_slice-in-loop-k.ensures c.as_slice-in-loop-k-2.ensures.value
          c.as_slice-in-loop-k-3.ensures.value c.groups_of-on_one.ensures c.groups_of-on_other.ensures c.in_ok-bars.ensures c.as_slice-in-loop-k-4.ensures.value)
          c.in-Some.ensures);
      ones =
          side_grown c.args.rooms.now c.args.promise c.args.order.now c.loop-k.offsets c.set.new.self c.args.one.now c.loop-k.k-index (get_or c.args.order.now c.loop-k.k-index 0) c.in-Some.offset c.size_at-size.result c.groups_of-on_one.result.now
          (map (λ bars. bars.items) c.loop-k.ones.items) (map (λ bars. bars.items) c.add_to.new.side.items) c.requires.order here c.loop-k.invariant.underway.one_each c.loop-k.invariant.ones c.groups_of-on_one.ensures c.size_at-size.ensures c.set.ensures c.in_ok-add_to-in-Some.ensures;
      others =
          side_grown c.args.rooms.now c.args.promise c.args.order.now c.loop-k.offsets c.set.new.self c.args.other.now c.loop-k.k-index (get_or c.args.order.now c.loop-k.k-index 0) c.in-Some.offset c.size_at-size.result c.groups_of-on_other.result.now
          (map (λ bars. bars.items) c.loop-k.others.items) (map (λ bars. bars.items) c.add_to-in-Some.new.side.items) c.requires.order here c.loop-k.invariant.underway.one_each c.loop-k.invariant.others c.groups_of-on_other.ensures c.size_at-size.ensures c.set.ensures
          c.in_ok-add_to-in-Some-2.ensures;
    }

pub returns : goal.returns
returns c =
    all_placed c.args.rooms.now c.args.promise (AreKeptApart c.args.conflicts.now c.args.one.now c.args.other.now) c.args.order.now c.requires.order c.args.limit c.loop-k.offsets c.loop-k.k-index c.loop-k-test.false c.requires.header c.loop-k.invariant.underway
