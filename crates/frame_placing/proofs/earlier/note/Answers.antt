use Rattle.std.proofs.Common.{map, sym, ◌∙◌, arith}
use Rattle.std.proofs.lemmas.List.{length-map}
use Rattle.frame_placing.proofs.Rows.{no_note_before, no_note_first, no_note_second, note_made}
use Rattle.frame_placing.proofs.earlier.note.Goals as goal
use Rattle.frame_placing.proofs.earlier.note.Goals.{else-first-rooms-via-then-first-rooms+then-second-len+else-comes_first, else-first-rooms-via-then-first-rooms+else-second-len, else-first-rooms-via-else-first-rooms}

pub returns-in_ok-file : goal.returns-in_ok-file
returns-in_ok-file c =
    let same = length-map c.args.rows.now.items (λ row. row.items) in
    note_made c.args.rooms.now c.args.promise c.args.first c.args.second (map (λ row. row.items) c.args.rows.now.items) _ c.if-first-rooms.true (omega (arith, same)) (sym c.comes_first.ensures ∙ c.if-comes_first.true) c.in_ok-file.ensures

pub returns-else-first-rooms : goal.returns-else-first-rooms
returns-else-first-rooms c =
    let same = length-map c.args.rows.now.items (λ row. row.items) in
    elim c.else-first-rooms.branch [
      | else-first-rooms-via-then-first-rooms+then-second-len+else-comes_first w ↦ no_note_before c.args.rooms.now c.args.promise c.args.first c.args.second (map (λ row. row.items) c.args.rows.now.items) (sym w.comes_first.ensures ∙ w.if-comes_first.false)
      | else-first-rooms-via-then-first-rooms+else-second-len w ↦ no_note_second c.args.rooms.now c.args.promise c.args.first c.args.second (map (λ row. row.items) c.args.rows.now.items) (omega (arith, same))
      | else-first-rooms-via-else-first-rooms w ↦ no_note_first c.args.rooms.now c.args.promise c.args.first c.args.second (map (λ row. row.items) c.args.rows.now.items) w.if-first-rooms.false
    ]
