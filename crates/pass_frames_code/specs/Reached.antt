-- Addresses of slots in the frame, which are made in front of each use.
use Rattle.std.specs.Prelude.{ℕ, Some, None, Option, ◌+◌}
use Rattle.pass_proofs.specs.pass_cells.Kept.{entry}
use Rattle.pass_frames_code.specs.Places.{Framing, offsets}
use Rattle.pass_proofs.specs.run_laws.access.Lines.{pointer_at}
use Rattle.pass_proofs.specs.run_memory.declared.pointer.Value.{Value}

abbrev pub address_by : (block start : ℕ) → Option ℕ → Value
address_by block start None = Value.Poison
address_by block start (Some d) = pointer_at block (start + d)

-- the address of a name that lies in the frame which starts in a block
abbrev pub address_in_frame : Framing → (block start : ℕ) → ℕ → Value
address_in_frame x block start v = address_by block start (entry (offsets x) v)
