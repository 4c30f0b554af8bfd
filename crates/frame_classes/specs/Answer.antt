-- The classes by ramp slots and words.
use Rattle.std.specs.Prelude.{ℕ, Bool, true, false, List, [], length, slice_get, unwrap_or, Some, ◌≡◌, ◌↔◌, ◌+◌, ◌/◌, ◌%◌, ◌<◌, ◌==◌, ◌∷◌}
use Rattle.std.specs.Int.{bit_at}
use Rattle.flow_bits.specs.Bits.{HasBit}
use Rattle.ir_model.specs.declared.module.Function.{Function}
use Rattle.ir_paths.specs.Slots.{has_name}
use Rattle.frame_classes.specs.Classes.{NeedsFrame}
use Rattle.frame_classes.specs.Rows.{word_in}
use Rattle.frame_classes.specs.declared.class.SlotClass.{SlotClass}

abbrev pub is_named : List Bool → ℕ → Bool
is_named marks v = unwrap_or (slice_get marks v) false

-- the marks are those of these names
pub record AreNamed (names : List ℕ) (marks : List Bool) : Type 0 where
  pub each : (v : ℕ) → is_named marks v ≡ has_name names v

abbrev pub has_bit : ℕ → ℕ → Bool
has_bit word c = bit_at word c == 1

abbrev pub class_by : Bool → Bool → SlotClass
class_by true needs_frame = SlotClass.Ramp
class_by false true = SlotClass.Frame
class_by false false = SlotClass.Local

-- the class of the slot at a position
abbrev pub class_of : List Bool → List ℕ → ℕ → ℕ → SlotClass
class_of ramp words at slot = class_by (is_named ramp slot) (has_bit (word_in words (at / 64)) (at % 64))

abbrev pub classes_from : List Bool → List ℕ → ℕ → List ℕ → List SlotClass
classes_from ramp words at [] = []
classes_from ramp words at (slot ∷ slots) = class_of ramp words at slot ∷ classes_from ramp words (at + 1) slots

-- so many words, one for each chunk of 64 slots, have the bits of the slots that need the frame
pub record HaveFrameWords (f : Function) (slots : List ℕ) (count : ℕ) (words : List ℕ) : Type 0 where
  pub is_long : length words ≡ count
  pub each : (k slot : ℕ) → k / 64 < count → slice_get slots k ≡ Some slot → HasBit (word_in words (k / 64)) (k % 64) ↔ NeedsFrame f slot

-- the words have the bits of all these slots that need the frame
pub record AreFrameWords (f : Function) (slots : List ℕ) (words : List ℕ) : Type 0 where
  pub each : (k slot : ℕ) → slice_get slots k ≡ Some slot → HasBit (word_in words (k / 64)) (k % 64) ↔ NeedsFrame f slot

-- the bits of a word are those slots of a chunk that need the frame
pub record IsFrameWordOf (f : Function) (slots : List ℕ) (word : ℕ) : Type 0 where
  pub each : (c slot : ℕ) → c < 64 → slice_get slots c ≡ Some slot → HasBit word c ↔ NeedsFrame f slot
