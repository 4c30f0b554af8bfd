use Rattle.std.proofs.Common.{◌+◌, ◌*◌, length}
use Rattle.std.specs.Prelude.{◌^◌}
use Rattle.run_step.proofs.program.Program.+extent.Given as goal

abbrev pub decreases-extent_in : goal.decreases-extent_in
decreases-extent_in l = (l.names * 2 ^ 32 + l.depth) * 2 ^ 64

abbrev pub decreases-fields_extent : goal.decreases-fields_extent
decreases-fields_extent l = (l.names * 2 ^ 32 + l.depth) * 2 ^ 64 + 1 + length l.fields.now
