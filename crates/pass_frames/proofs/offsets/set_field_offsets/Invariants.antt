use Rattle.std.proofs.Common.{◌≡◌, drop, length}
use Rattle.pass_frames.specs.Tables.{with_field_offsets}
use Rattle.pass_frames.proofs.offsets.set_field_offsets.Given as goal

abbrev pub invariant-loop-value : goal.invariant-loop-value
invariant-loop-value l = with_field_offsets l.layout l.positions l.first (length l.kept) l.k (drop l.value-index l.kept) l.table ≡ with_field_offsets l.layout l.positions l.first (length l.kept) 0 l.kept l.initial.table
