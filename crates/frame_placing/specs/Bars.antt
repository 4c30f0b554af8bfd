-- Stretches of bytes that are taken, in order, and the least offset that meets none.
use Rattle.std.specs.Prelude.{◌≡◌, ℕ, ◌%◌, ◌<◌, ◌≤◌, ◌⊎◌, List, Some, slice_get}
use Rattle.frame_placing.specs.Placed.{IsByteOf}
use Rattle.frame_placing.specs.declared.bars.Bar.{Bar}

-- no multiple of the alignment lies from one offset to another
abbrev pub IsNoneAligned : ℕ → ℕ → ℕ → Type 0
IsNoneAligned from align last = (x : ℕ) → from ≤ x → x % align ≡ 0 → last < x

-- the least multiple of the alignment from an offset on, which is not past the last
pub record IsNextAligned (from align last x : ℕ) : Type 0 where
  pub from_on : from ≤ x
  pub not_past : x ≤ last
  pub aligned : x % align ≡ 0
  pub least : (y : ℕ) → from ≤ y → y % align ≡ 0 → x ≤ y

-- the byte lies in the bar
abbrev pub IsInBar : ℕ → Bar → Type 0
IsInBar byte bar = (bar.start ≤ byte) × (byte < bar.end)

-- the byte lies in one of the bars
pub record IsCovered (bars : List Bar) (byte : ℕ) : Type 0 where
  pub at : ℕ
  pub bar : Bar
  pub is_there : slice_get bars at ≡ Some bar
  pub inside : IsInBar byte bar

-- no bar is empty, and their starts do not fall
pub record AreBars (bars : List Bar) : Type 0 where
  pub rise : (a b : ℕ) (x y : Bar) → slice_get bars a ≡ Some x → slice_get bars b ≡ Some y → a ≤ b → x.start ≤ y.start
  pub are_filled : (a : ℕ) (x : Bar) → slice_get bars a ≡ Some x → x.start < x.end

-- a field of the size and alignment meets no bar at the offset
pub record IsFree (bars : List Bar) (size align x : ℕ) : Type 0 where
  pub from_header : 16 ≤ x
  pub aligned : x % align ≡ 0
  pub apart : (byte : ℕ) → IsByteOf byte x size → IsCovered bars byte → ⊥

-- the least such offset
pub record IsLeastFree (bars : List Bar) (size align x : ℕ) : Type 0 where
  pub is_free : IsFree bars size align x
  pub least : (y : ℕ) → IsFree bars size align y → x ≤ y

-- the bars cover what others do, and the bytes of one more
pub record IsMore (bars : List Bar) (more : Bar) (all : List Bar) : Type 0 where
  pub are_bars : AreBars all
  pub told : (byte : ℕ) → IsCovered all byte → IsCovered bars byte ⊎ IsInBar byte more
  pub has_others : (byte : ℕ) → IsCovered bars byte → IsCovered all byte
  pub has_more : (byte : ℕ) → IsInBar byte more → IsCovered all byte

-- wherever a field of the size and alignment meets no bar, it stands at the offset or behind it
pub record IsFloor (bars : List Bar) (size align from : ℕ) : Type 0 where
  pub from_header : 16 ≤ from
  pub below : (x : ℕ) → IsFree bars size align x → from ≤ x
