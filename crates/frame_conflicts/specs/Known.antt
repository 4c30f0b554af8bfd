-- What is known of the slots of a function, and by it which of them conflict.
use Rattle.std.specs.Prelude.{◌≡◌, ◌↔◌, ◌⊎◌, ◌<◌, ◌≤◌, ◌*◌, ◌/◌, ◌%◌, ◌==◌, ◌||◌, ℕ, Bool, true, false, not, Option, None, List, [], bit_and, drop, length, slice_get, take, unwrap_or, option_map, Some}
use Rattle.std.specs.Int.{bit_at}
use Rattle.flow_bits.specs.Bits.{HasBit}
use Rattle.frame_classes.specs.flow_blocks.Words.{word_at}
use Rattle.ir_model.specs.declared.module.Function.{Function}
use Rattle.ir_paths.specs.Slots.{allocas_of}
use Rattle.ir_paths.specs.declared.point.Point.{Point}
use Rattle.frame_classes.specs.flow_reach.Reached.{row_of, word_at_point}
use Rattle.frame_conflicts.specs.Conflicts.{IsFrameSlotAt, IsUsedEarly}
use Rattle.frame_conflicts.specs.Looked.{AreLooked}
use Rattle.frame_conflicts.specs.Meeting.{AreMeetings, spots_from}
use Rattle.frame_conflicts.specs.Started.{IsStarted}
use Rattle.frame_conflicts.specs.declared.facts.Chunk.{Chunk}
use Rattle.frame_conflicts.specs.declared.facts.Known.{Known}
use Rattle.frame_classes.specs.Alive.{markers_of}
use Rattle.frame_classes.specs.Classes.{AreClasses}
use Rattle.frame_classes.specs.declared.class.SlotClass.{SlotClass}

-- the position is that of a frame slot
pub record IsFrameAt (f : Function) (i : ℕ) : Type 0 where
  pub slot : ℕ
  pub is_slot : IsFrameSlotAt f i slot

-- ---- chunks of 64 slots

abbrev pub chunk_slots : Function → ℕ → List ℕ
chunk_slots f k = take 64 (drop (64 * k) (allocas_of f))

-- the slot is started at the point of a number
pub record IsSeen (f : Function) (slot : ℕ) (looked : List Point) (k : ℕ) : Type 0 where
  pub point : Point
  pub is_point : slice_get looked k ≡ Some point
  pub is_started : IsStarted f slot point

-- which slots of the chunk have markers and aren't used before begin, which of these are started at the points looked at, and at
-- which of the points there are any
pub record TellsChunk (f : Function) (looked : List Point) (slots : List ℕ) (chunk : Chunk) : Type 0 where
  pub loose : (c slot : ℕ) → c < 64 → slice_get slots c ≡ Some slot → HasBit chunk.loose c → (markers_of f slot ≡ [] → ⊥) × (IsUsedEarly f slot → ⊥)
  pub tight : (c slot : ℕ) → c < 64 → slice_get slots c ≡ Some slot → (HasBit chunk.loose c → ⊥) → (markers_of f slot ≡ []) ⊎ IsUsedEarly f slot
  pub seen : (c slot k : ℕ) → c < 64 → slice_get slots c ≡ Some slot → HasBit chunk.loose c → HasBit (word_at chunk.seen k) c ↔ IsSeen f slot looked k
  pub spots : chunk.spots ≡ spots_from 0 chunk.seen

-- the chunks of the first slots
pub record AreChunks (f : Function) (looked : List Point) (chunks : List Chunk) : Type 0 where
  pub each : (k : ℕ) (chunk : Chunk) → slice_get chunks k ≡ Some chunk → TellsChunk f looked (chunk_slots f k) chunk

pub record IsKnown (f : Function) (known : Known) : Type 0 where
  pub looked : List Point
  pub are_looked : AreLooked f looked
  pub are_chunks : AreChunks f looked known.chunks
  pub are_all : (i : ℕ) → i < length (allocas_of f) → i / 64 < length known.chunks
  pub are_classes : AreClasses f known.classes
  pub is_count : known.count ≡ length (allocas_of f)

abbrev pub seen_word : List (List ℕ) → ℕ → Point → ℕ
seen_word rows loose p = bit_and (word_at_point rows p) loose

-- ---- the meetings of a chunk with others

abbrev pub seen_at : List Chunk → ℕ → List ℕ
seen_at chunks k = unwrap_or (option_map (λ x. x.seen) (slice_get chunks k)) []

abbrev pub spots_at : List Chunk → ℕ → List ℕ
spots_at chunks k = unwrap_or (option_map (λ x. x.spots) (slice_get chunks k)) []

-- the spots of a chunk are those of its words
abbrev pub AreSpotsAt : List Chunk → ℕ → Type 0
AreSpotsAt chunks k = spots_at chunks k ≡ spots_from 0 (seen_at chunks k)

abbrev pub loose_at : List Chunk → ℕ → ℕ
loose_at chunks k = unwrap_or (option_map (λ x. x.loose) (slice_get chunks k)) 0

-- the meetings of the slots of a chunk with those of each that isn't before it
pub record AreMet (chunks : List Chunk) (a : ℕ) (met : List (List ℕ)) : Type 0 where
  pub each : (b : ℕ) (words : List ℕ) → a ≤ b → slice_get met b ≡ Some words → AreMeetings (seen_at chunks a) (seen_at chunks b) words

-- and they are there for so many chunks
pub record AreMetFor (chunks : List Chunk) (a n : ℕ) (met : List (List ℕ)) : Type 0 where
  pub is_long : length met ≡ n
  pub are_met : AreMet chunks a met

-- the bit of a position is set
abbrev pub is_loose_at : List Chunk → ℕ → Bool
is_loose_at chunks i = bit_at (loose_at chunks (i / 64)) (i % 64) == 1

abbrev pub have_met_at : List (List ℕ) → ℕ → ℕ → Bool
have_met_at met i k = bit_at (word_at (row_of met (k / 64)) (i % 64)) (k % 64) == 1

-- the slots of two positions lack markers, are used before begin, or are alive together
abbrev pub are_apart : List Chunk → List (List ℕ) → ℕ → ℕ → Bool
are_apart chunks met i k = not (is_loose_at chunks i) || (not (is_loose_at chunks k) || have_met_at met i k)

-- ---- frame slots

abbrev pub is_frame_class : Option SlotClass → Bool
is_frame_class None = false
is_frame_class (Some SlotClass.Frame) = true
is_frame_class (Some SlotClass.Ramp) = false
is_frame_class (Some SlotClass.Local) = false
