-- Sets of names, by a mark for each of a function's names.
use Rattle.std.specs.Prelude.{ℕ, Bool, false, not, List, unwrap_or, slice_get, ◌≡◌, ◌&&◌}
use Rattle.ir_model.specs.declared.operand.Operand.{Operand}
use Rattle.ir_paths.specs.Slots.{has_name}

abbrev pub is_named : List Bool → ℕ → Bool
is_named marks v = unwrap_or (slice_get marks v) false

-- the set has just these names
pub record AreNamed (names : List ℕ) (marks : List Bool) : Type 0 where
  pub each : (v : ℕ) → is_named marks v ≡ has_name names v

-- the operand is a local of the set
abbrev pub names_one : List Bool → Operand → Bool
names_one marks (Operand.Local v) = is_named marks v
names_one marks _ = false

-- it is a local of the one set, and not of the other
abbrev pub names_other : List Bool → List Bool → Operand → Bool
names_other marks without (Operand.Local v) = is_named marks v && not (is_named without v)
names_other marks without _ = false
