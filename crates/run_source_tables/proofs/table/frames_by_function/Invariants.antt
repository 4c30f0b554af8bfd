use Rattle.std.proofs.Common.{◌≡◌, ℕ, ◌≤◌, Option, Some, drop, length}
use Rattle.std.specs.Prelude.{slice_get}
use Rattle.ir_model.specs.declared.module.Frame.{Frame}
use Rattle.run_source_tables.specs.Given.{frame_of}
use Rattle.run_source_tables.specs.Tables.{frame_or}
use Rattle.run_source_tables.proofs.table.frames_by_function.Given as goal

abbrev pub invariant-loop-at : goal.invariant-loop-at
invariant-loop-at l =
    record {
      within : l.at ≤ length l.frames;
      frame : (func : ℕ) (o : Option Frame) → slice_get l.table func ≡ Some o → frame_or func o ≡ frame_of (drop l.at l.frames) func;
    }

abbrev pub decreases-loop-at : goal.decreases-loop-at
decreases-loop-at l = l.at
