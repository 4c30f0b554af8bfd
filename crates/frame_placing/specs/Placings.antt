-- The layouts of a frame: the plain one, and the one by the conflicts, which is not taken where it ends later.
use Rattle.std.specs.Prelude.{◌≡◌, ℕ, ◌^◌, ◌<◌, ◌≤◌, List, MatchOption, Option, nat_le, nat_lt, if◌then◌else◌}
use Rattle.std.specs.Int.{next_multiple_of}
use Rattle.std.specs.List.{list_any}
use Rattle.frame_placing.specs.Ends.{end_of}
use Rattle.frame_placing.specs.Placed.{Always, IsPair, IsPlaced}
use Rattle.frame_placing.specs.declared.placing.Placing.{Placing}
use Rattle.frame_placing.specs.declared.room.Room.{Room}

-- 16 where a field needs 16, else 8
abbrev pub frame_alignment : List Room → ℕ
frame_alignment rooms = (if list_any (λ room. nat_le 16 room.align) rooms then 16 else 8)

-- the layout has these offsets, and its size is their end rounded up to the frame's alignment
pub record IsFrame (rooms : List Room) (offsets : List ℕ) (placing : Placing) : Type 0 where
  pub offsets_are : placing.offsets ≡ offsets
  pub end_is : placing.end ≡ end_of rooms offsets
  pub align_is : placing.align ≡ frame_alignment rooms
  pub size_is : placing.size ≡ next_multiple_of placing.end placing.align

-- the plain layout, which is too large exactly where it ends above 2^24
pub record IsPlainPlacing (rooms : List Room) (promise : Option ℕ) (found : Option Placing) : Type 0 where
  pub plain : List ℕ
  pub plain_placed : IsPlaced rooms promise Always plain
  pub told : MatchOption found (2 ^ 24 < end_of rooms plain) (λ placing. (end_of rooms plain ≤ 2 ^ 24) × IsFrame rooms plain placing)

-- the offsets by the conflicts, but the plain ones where those end later
abbrev pub chosen_offsets : List Room → List ℕ → List ℕ → List ℕ
chosen_offsets rooms plain shared = (if nat_lt (end_of rooms plain) (end_of rooms shared) then plain else shared)

-- the layout by the conflicts, which is too large exactly where the plain one is
pub record IsPlacing (rooms : List Room) (promise : Option ℕ) (conflicts : List (ℕ × ℕ)) (found : Option Placing) : Type 0 where
  pub plain : List ℕ
  pub shared : List ℕ
  pub plain_placed : IsPlaced rooms promise Always plain
  pub shared_placed : IsPlaced rooms promise (IsPair conflicts) shared
  pub told : MatchOption found (2 ^ 24 < end_of rooms plain) (λ placing. (end_of rooms plain ≤ 2 ^ 24) × IsFrame rooms (chosen_offsets rooms plain shared) placing)

-- the same of any conflicts of fields
pub record IsPlacingBy (rooms : List Room) (promise : Option ℕ) (Conflict : ℕ → ℕ → Type 0) (found : Option Placing) : Type 0 where
  pub plain : List ℕ
  pub shared : List ℕ
  pub plain_placed : IsPlaced rooms promise Always plain
  pub shared_placed : IsPlaced rooms promise Conflict shared
  pub told : MatchOption found (2 ^ 24 < end_of rooms plain) (λ placing. (end_of rooms plain ≤ 2 ^ 24) × IsFrame rooms (chosen_offsets rooms plain shared) placing)
