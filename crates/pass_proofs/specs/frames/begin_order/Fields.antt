-- What lies in the frame of a function whose crossing values are kept in cells: slots, and the fields of these values.
use Rattle.std.specs.Prelude.{◌≡◌, ◌⊎◌, ℕ, Bool, true, false, List, [], Some, Option, length, slice_get, unwrap_or, ◌+◌, ◌*◌, ◌^◌, ◌<◌, ◌≤◌}
use Rattle.pass_exits_proof.specs.addresses.rules.Addresses.{lies_in_frame}
use Rattle.ir_model.specs.declared.module.Function.{Function}
use Rattle.pass_exits_proof.specs.pass_cells.Kept.{entry, keeping_of}
use Rattle.pass_exits_proof.specs.pass_cells.declared.keeping.Keeping.{Keeping}

-- the values of a function that are kept
abbrev pub values_kept : Function → List (ℕ × ℕ) → Keeping
values_kept f crossing = keeping_of (length f.names) crossing

-- the name is that of the field of one of so many values, behind so many names
pub record IsField (first count v : ℕ) : Type 0 where
  pub low : first + count ≤ v
  pub high : v < first + 2 * count

-- There is an entry block; what lies in the frame lay there before, or is a field; kept values don't lie there.
pub record FieldsFit (f : Function) (crossing : List (ℕ × ℕ)) (old offsets : List (Option ℕ)) (marked : List Bool) : Type 0 where
  pub starts : f.blocks ≡ [] → ⊥
  pub frame : (v : ℕ) → lies_in_frame offsets v ≡ true → (lies_in_frame old v ≡ true) ⊎ IsField (length f.names) (length (values_kept f crossing).values) v
  pub near : (v d : ℕ) → slice_get offsets v ≡ Some (Some d) → d < 2 ^ 64
  pub unmarked : (v : ℕ) → unwrap_or (slice_get marked v) false ≡ true → lies_in_frame offsets v ≡ false
  pub kept : (v k : ℕ) → entry (values_kept f crossing).places v ≡ Some k → lies_in_frame old v ≡ false
