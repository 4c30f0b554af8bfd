use Rattle.std.proofs.Common.{◌≡◌, ℕ, None, length}
use Rattle.std.specs.Prelude.{slice_get}
use Rattle.ir_locals.specs.Tables.{joined}
use Rattle.ir_locals.proofs.table.LocalTable.new.Given as goal

abbrev pub invariant-loop-at : goal.invariant-loop-at
invariant-loop-at g l = ((n : ℕ) → joined (slice_get l.slots n) ≡ None) × (length l.slots ≡ l._at)
