use Rattle.std.proofs.Common.{◌≡◌, drop}
use Rattle.pass_exits.specs.Rows.{noted_by}
use Rattle.pass_exits.proofs.rows.note_all.Given as goal

abbrev pub invariant-loop-point : goal.invariant-loop-point
invariant-loop-point l = noted_by l.function l.number l.rows.items (drop l.point-index l.inside) ≡ noted_by l.function l.number l.initial.rows.items l.inside
