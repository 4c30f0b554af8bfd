use Rattle.std.proofs.Common.{List, ℕ, length, ap, ◌∙◌, arith}
use Rattle.frame_placing.specs.Ends.{end_of}
use Rattle.frame_placing.specs.Placed.{AreKeptApart}
use Rattle.frame_placing.proofs.Both.{is_apart}
use Rattle.frame_placing.proofs.Choosing.{kept_plain}
use Rattle.frame_placing.proofs.Greatest.{end_from}
use Rattle.frame_placing.proofs.placing.chosen.Goals as goal

pub place_beside-requires-clause-header : goal.place_beside-requires-clause-header
place_beside-requires-clause-header c =
    let e = end_from c.args.rooms.now c.args.plain (length c.args.rooms.now) in
    let is = c.end_of-limit.ensures in
    let same = ap (λ (o : List ℕ). end_of c.args.rooms.now o) c.as_slice.ensures in
    omega (arith, e, is, same)

pub returns-in-None : goal.returns-in-None
returns-in-None c =
    let is = c.end_of-limit.ensures ∙ ap (λ (o : List ℕ). end_of c.args.rooms.now o) c.as_slice.ensures in
    kept_plain c.args.rooms.now c.args.promise (AreKeptApart c.args.conflicts.now c.args.one.now c.args.other.now) c.args.plain c.end_of-limit.result c.requires.plain is
    (is_apart c.args.rooms.now c.args.promise c.args.conflicts.now c.args.one.now c.args.other.now) (rw c.in-None.is at c.in_ok-place_beside.ensures)
