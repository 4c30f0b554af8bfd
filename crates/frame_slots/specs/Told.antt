-- What the words of names say of slots: the question c is that of the slot at the position c of a chunk of at most 64.
use Rattle.std.specs.Prelude.{◌≡◌, ◌↔◌, ◌<◌, ℕ, List, slice_get, Some, IsTrue}
use Rattle.flow_bits.specs.Bits.{HasBit}
use Rattle.ir_model.specs.declared.module.Function.{Function}
use Rattle.ir_paths.specs.Slots.{addresses_of, has_name}
use Rattle.frame_slots.specs.Words.{name_word}

-- the word of a name has the questions of the slots of that name
pub record AreSlotWords (slots words : List ℕ) : Type 0 where
  pub each : (v c : ℕ) → c < 64 → HasBit (name_word words v) c ↔ (slice_get slots c ≡ Some v)

-- the name is an address of the question's slot
pub record IsAddressIn (f : Function) (slots : List ℕ) (c v : ℕ) : Type 0 where
  pub slot : ℕ
  pub is_slot : slice_get slots c ≡ Some slot
  pub is_address : IsTrue (has_name (addresses_of f slot) v)

-- the word of a name has the questions of the slots of which it is an address
pub record AreAddressWords (f : Function) (slots words : List ℕ) : Type 0 where
  pub each : (v c : ℕ) → c < 64 → HasBit (name_word words v) c ↔ IsAddressIn f slots c v
