-- What stands in a target memory for the pointers, bytes and values of a source memory.
use Rattle.std.specs.Prelude.{ℕ, Bool, true, false, List, [], ◌∷◌, get_or, ◌≡◌}
use Rattle.run_memory.specs.Pointers.{moved}
use Rattle.run_memory.specs.declared.block.Byte.{Byte}
use Rattle.run_memory.specs.declared.pointer.Pointer.{Pointer}
use Rattle.run_memory.specs.declared.pointer.Value.{Value}

-- where a block of the source stands: from an offset on in a block of the target; and whether pointers into it may be about
pub record Home : Type 0 where
  pub block : ℕ
  pub offset : ℕ
  pub is_seen : Bool

abbrev pub nowhere : Home
nowhere = record { block = 0; offset = 0; is_seen = false }

abbrev pub home_of : List Home → ℕ → Home
home_of homes b = get_or homes b nowhere

-- the pointer of the target for a pointer of the source
abbrev pub moved_pointer : List Home → Pointer → Pointer
moved_pointer homes Pointer.Null = Pointer.Null
moved_pointer homes (Pointer.Func g) = Pointer.Func g
moved_pointer homes (Pointer.At b o) = Pointer.At (home_of homes b).block (moved o (home_of homes b).offset)

-- a pointer that may be about
abbrev pub IsSeen : List Home → Pointer → Type 0
IsSeen homes Pointer.Null = Unit {0}
IsSeen homes (Pointer.Func g) = Unit {0}
IsSeen homes (Pointer.At b o) = (home_of homes b).is_seen ≡ true

-- numbers stand for themselves and parts of pointers for parts of the moved pointers; for an undefined byte anything may stand
abbrev pub IsByte : List Home → Byte → Byte → Type 0
IsByte homes Byte.Undefined c = Unit {0}
IsByte homes (Byte.Number k) c = c ≡ Byte.Number k
IsByte homes (Byte.Part p k) c = IsSeen homes p × (c ≡ Byte.Part (moved_pointer homes p) k)

-- words stand for themselves and moved pointers for pointers; for poison anything may stand
abbrev pub IsValue : List Home → Value → Value → Type 0
IsValue homes Value.Poison w = Unit {0}
IsValue homes (Value.Int x) w = w ≡ Value.Int x
IsValue homes (Value.Ptr p) w = IsSeen homes p × (w ≡ Value.Ptr (moved_pointer homes p))

-- byte for byte
abbrev pub AreBytes : List Home → List Byte → List Byte → Type 0
AreBytes homes [] [] = Unit {0}
AreBytes homes [] (d ∷ ds) = ⊥
AreBytes homes (c ∷ cs) [] = ⊥
AreBytes homes (c ∷ cs) (d ∷ ds) = IsByte homes c d × AreBytes homes cs ds

-- homes that leave each block where it is into which pointers may be about
pub record Extends (homes more : List Home) : Type 0 where
  pub each : (b : ℕ) → (home_of homes b).is_seen ≡ true → home_of more b ≡ home_of homes b
