-- Values by numbers, and the answers for 64 of them at once.
use Rattle.std.specs.Prelude.{◌≡◌, ℕ, Bool, true, false, not, List, [], IsTrue, length, map, slice_get, slice_set, Some, None, Option, bit_or, bit_xor, ◌+◌, ◌-◌, ◌/◌, ◌%◌, ◌^◌, ◌<◌, ◌≤◌, ◌==◌, ◌&&◌, ◌∷◌, ◌++◌, ◌⊎◌}
use Rattle.std.specs.Int.{bit_at}
use Rattle.flow_blocks.specs.Words.{word_at}
use Rattle.rule_uses.specs.Undefined.{ReachesWithout}
use Rattle.rule_uses.specs.Uses.{values_at}
use Rattle.rule_uses.specs.declared.open_use.OpenUse.{OpenUse}
use Rattle.flow_solver.specs.Paths.{IsListed}
use Rattle.ir_parts.specs.Contents.{result_of}
use Rattle.ir_model.specs.declared.instr.Instr.{Instr}
use Rattle.ir_model.specs.declared.instr.Phi.{Phi}
use Rattle.ir_model.specs.declared.module.Block.{Block}
use Rattle.ir_model.specs.declared.module.Function.{Function}

-- ---- numbers

-- each number is that of one value
pub record IsNumbering (names : ℕ) (numbers : List (Option ℕ)) (values : List ℕ) : Type 0 where
  pub numbers_length : length numbers ≡ names
  pub asked : (v k : ℕ) → slice_get numbers v ≡ Some (Some k) → slice_get values k ≡ Some v

-- the values of all these uses have numbers
pub record AreNumbered (names : ℕ) (opens : List OpenUse) (numbers : List (Option ℕ)) (values : List ℕ) : Type 0 where
  pub numbering : IsNumbering names numbers values
  pub numbered : (u : OpenUse) → IsListed u opens → (k : ℕ) × ((slice_get numbers u.value ≡ Some (Some k)) × (k < length values))

pub record HasNumber (numbers numbers2 : List (Option ℕ)) (values values2 : List ℕ) (v : ℕ) : Type 0 where
  pub number : ℕ
  pub has : slice_get numbers v ≡ Some (Some number)
  pub numbers_kept : numbers2 ≡ numbers
  pub values_kept : values2 ≡ values

pub record GetsNumber (numbers numbers2 : List (Option ℕ)) (values values2 : List ℕ) (v : ℕ) : Type 0 where
  pub had_none : slice_get numbers v ≡ Some None
  pub numbers_set : numbers2 ≡ slice_set numbers v (Some (length values))
  pub values_added : values2 ≡ values ++ v ∷ []

-- ---- words of 64 questions

abbrev pub bit_if : Bool → ℕ → Option ℕ
bit_if true c = Some c
bit_if false c = None

abbrev pub bit_in : Option (Option ℕ) → ℕ → Option ℕ
bit_in (Some (Some k)) chunk = bit_if (k / 64 == chunk) (k % 64)
bit_in _ chunk = None

-- which of a chunk's questions asks for the value
abbrev pub bit_of : List (Option ℕ) → ℕ → ℕ → Option ℕ
bit_of numbers chunk v = bit_in (slice_get numbers v) chunk

abbrev pub word_of_bit : Option ℕ → ℕ
word_of_bit None = 0
word_of_bit (Some c) = 2 ^ c

abbrev pub value_word : List (Option ℕ) → ℕ → ℕ → ℕ
value_word numbers chunk v = word_of_bit (bit_of numbers chunk v)

abbrev pub result_word : List (Option ℕ) → ℕ → ℕ → Option ℕ → ℕ
result_word numbers chunk word None = word
result_word numbers chunk word (Some v) = bit_or word (value_word numbers chunk v)

abbrev pub phis_word : List (Option ℕ) → ℕ → ℕ → List Phi → ℕ
phis_word numbers chunk word [] = word
phis_word numbers chunk word (p ∷ ps) = phis_word numbers chunk (bit_or word (value_word numbers chunk p.result)) ps

abbrev pub instrs_word : List (Option ℕ) → ℕ → ℕ → List Instr → ℕ
instrs_word numbers chunk word [] = word
instrs_word numbers chunk word (i ∷ is) = instrs_word numbers chunk (result_word numbers chunk word (result_of i)) is

-- the questions whose values a block makes
abbrev pub block_word : List (Option ℕ) → ℕ → Block → ℕ
block_word numbers chunk b = instrs_word numbers chunk (phis_word numbers chunk 0 b.phis) b.instrs

abbrev pub all_bits : ℕ
all_bits = 2 ^ 64 - 1

-- the questions whose values the block of an edge doesn't make
abbrev pub edge_word : List ℕ → ℕ × ℕ → ℕ
edge_word made e = bit_xor (word_at made e.0) all_bits

-- ---- answers

abbrev pub has_bit : ℕ → ℕ → Bool
has_bit word c = bit_at word c == 1

abbrev pub told_by : List ℕ → List ℕ → OpenUse → Option ℕ → Bool
told_by made words u None = false
told_by made words u (Some c) = has_bit (word_at words u.block) c && not (u.at_end && has_bit (word_at made u.block) c)

-- a question of this chunk asks for the use's value, and a path to the use makes none
abbrev pub is_told : List (Option ℕ) → ℕ → List ℕ → List ℕ → OpenUse → Bool
is_told numbers chunk made words u = told_by made words u (bit_of numbers chunk u.value)

pub record IsFirstTold (numbers : List (Option ℕ)) (chunk : ℕ) (made words : List ℕ) (opens : List OpenUse) (limit found : ℕ) : Type 0 where
  pub within : found ≤ limit
  pub here : (u : OpenUse) → found < limit → slice_get opens found ≡ Some u → is_told numbers chunk made words u ≡ true
  pub before : (i : ℕ) (u : OpenUse) → i < found → slice_get opens i ≡ Some u → is_told numbers chunk made words u ≡ false

-- an open use that is undefined
pub record IsOpen (f : Function) (u : OpenUse) : Type 0 where
  pub reaches : ReachesWithout f u.value u.block
  pub not_made : IsTrue u.at_end → IsListed u.value (values_at f u.block) → ⊥

-- what a chunk's answers say of the first undefined use, looked for below a limit
pub record IsSettled (f : Function) (numbers : List (Option ℕ)) (opens : List OpenUse) (chunk limit found : ℕ) : Type 0 where
  pub within : found ≤ limit
  pub here : (u : OpenUse) → found < limit → slice_get opens found ≡ Some u → IsOpen f u
  pub before : (i k : ℕ) (u : OpenUse) → i < found → slice_get opens i ≡ Some u → slice_get numbers u.value ≡ Some (Some k) → k / 64 ≡ chunk → IsOpen f u → ⊥

-- the same of all chunks below this one
pub record IsBest (f : Function) (numbers : List (Option ℕ)) (opens : List OpenUse) (chunk found : ℕ) : Type 0 where
  pub within : found ≤ length opens
  pub here : (u : OpenUse) → slice_get opens found ≡ Some u → IsOpen f u
  pub before : (i k : ℕ) (u : OpenUse) → i < found → slice_get opens i ≡ Some u → slice_get numbers u.value ≡ Some (Some k) → k / 64 < chunk → IsOpen f u → ⊥

-- the position of the first undefined use, or the number of uses
pub record IsFirstOpen (f : Function) (opens : List OpenUse) (found : ℕ) : Type 0 where
  pub here : (u : OpenUse) → slice_get opens found ≡ Some u → IsOpen f u
  pub before : (i : ℕ) (u : OpenUse) → i < found → slice_get opens i ≡ Some u → IsOpen f u → ⊥
