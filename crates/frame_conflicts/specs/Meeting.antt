-- Who is alive with whom at the points looked at, by words.
use Rattle.std.specs.Prelude.{◌≡◌, ◌↔◌, ◌⊎◌, ◌<◌, ◌+◌, ◌++◌, ◌∷◌, ℕ, Bool, List, [], length, if◌then◌else◌, ◌==◌, ◌&&◌, ◌||◌}
use Rattle.flow_bits.specs.Bits.{HasBit}
use Rattle.frame_classes.specs.flow_blocks.Words.{word_at}

-- the words at one position have the two bits
pub record Meet (one other : List ℕ) (c d : ℕ) : Type 0 where
  pub at : ℕ
  pub has_one : HasBit (word_at one at) c
  pub has_other : HasBit (word_at other at) d

-- for each bit of the one words the bits of the others that it meets
pub record AreMeetings (one other words : List ℕ) : Type 0 where
  pub each : (c d : ℕ) → c < 64 → HasBit (word_at words c) d ↔ Meet one other c d

-- ---- the positions of the words that aren't empty

abbrev pub spot_if : ℕ → ℕ → List ℕ
spot_if at word = if word == 0 then [] else at ∷ []

-- the first word's position is a number
abbrev pub spots_from : ℕ → List ℕ → List ℕ
spots_from at [] = []
spots_from at (word ∷ words) = spot_if at word ++ spots_from (at + 1) words

-- ---- one position after the other

-- the two bits meet at one of the first positions
pub record MeetBefore (one other : List ℕ) (n c d : ℕ) : Type 0 where
  pub at : ℕ
  pub is_before : at < n
  pub has_one : HasBit (word_at one at) c
  pub has_other : HasBit (word_at other at) d

pub record AreMeetingsBefore (one other : List ℕ) (n : ℕ) (words : List ℕ) : Type 0 where
  pub is_long : length words ≡ 64
  pub each : (c d : ℕ) → c < 64 → HasBit (word_at words c) d ↔ MeetBefore one other n c d

-- the first bits of x have met those of y
pub record HaveMet (x y n : ℕ) (old new : List ℕ) : Type 0 where
  pub is_long : length new ≡ length old
  pub each : (c d : ℕ) → c < 64 → HasBit (word_at new c) d ↔ (HasBit (word_at old c) d ⊎ ((c < n) × HasBit x c × HasBit y d))

-- the bits of x have met those of y
pub record AreCovered (x y : ℕ) (words : List ℕ) : Type 0 where
  pub each : (c d : ℕ) → c < 64 → HasBit x c → HasBit y d → HasBit (word_at words c) d

-- two words have nothing that the two before them haven't
abbrev pub are_of : ℕ → ℕ → ℕ → ℕ → Bool
are_of x y last_x last_y = (x == 0) || ((y == 0) || ((x == last_x) && (y == last_y)))
