-- Which slots may be alive at the suspends, by words.
use Rattle.std.specs.Prelude.{◌≡◌, ◌↔◌, ◌<◌, ℕ, Bool, List, bit_or, bit_xor, slice_get, Some, if◌then◌else◌}
use Rattle.flow_bits.specs.Bits.{HasBit}
use Rattle.frame_classes.specs.flow_blocks.Words.{word_at}
use Rattle.ir_model.specs.declared.module.Function.{Function}
use Rattle.ir_paths.specs.declared.point.Point.{Point}
use Rattle.flow_points.specs.Rows.{is_marked}
use Rattle.frame_classes.specs.flow_reach.Reached.{word_at_point}
use Rattle.frame_classes.specs.flow_reach.Rows.{all_bits}
use Rattle.frame_conflicts.specs.Conflicts.{AliveAt}
use Rattle.frame_classes.specs.Alive.{MayBeAlive}
use Rattle.frame_classes.specs.Classes.{suspends}

-- those that are started, and behind begin those without markers
abbrev pub alive_word : List (List ℕ) → ℕ → List (List Bool) → Point → ℕ
alive_word rows marked behind p =
    if is_marked behind p then bit_or (word_at_point rows p) (bit_xor marked all_bits) else word_at_point rows p

-- the slot may be alive at the suspend of a number
pub record IsAliveAtSuspend (f : Function) (slot k : ℕ) : Type 0 where
  pub suspend : Point
  pub is_suspend : slice_get (suspends f) k ≡ Some suspend
  pub is_alive : MayBeAlive f slot suspend

-- the words of the suspends have the slots of a chunk that may be alive there
pub record TellSuspends (f : Function) (slots words : List ℕ) : Type 0 where
  pub each : (k c slot : ℕ) → c < 64 → slice_get slots c ≡ Some slot → HasBit (word_at words k) c ↔ IsAliveAtSuspend f slot k

-- the bit of the words is that of one frame slot
pub record TellSlot (f : Function) (i c : ℕ) (words : List ℕ) : Type 0 where
  pub each : (k : ℕ) → HasBit (word_at words k) c ↔ AliveAt f i k
