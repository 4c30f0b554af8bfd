use Rattle.std.proofs.Common.{◌≡◌, drop}
use Rattle.pass_frames.specs.Tables.{with_slot_offsets}
use Rattle.pass_frames.proofs.offsets.set_slot_offsets.Given as goal

abbrev pub invariant-loop-holding : goal.invariant-loop-holding
invariant-loop-holding l = with_slot_offsets l.layout l.k (drop l.holding-index l.held) l.table ≡ with_slot_offsets l.layout 0 l.held l.initial.table
