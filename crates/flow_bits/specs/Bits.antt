-- Words of bits as facts of an analysis: the empty word is below all others, and an edge only takes bits away.
use Rattle.std.specs.Prelude.{◌≡◌, ℕ, zero, suc, ◌+◌, ◌<◌, ◌≤◌, List, length, slice_get, unwrap_or, bit_and, bit_or}
use Rattle.std.specs.Int.{bit_at}
use Rattle.flow_solver.specs.Domain.{Domain}

-- the word has the bit at this position
abbrev pub HasBit : ℕ → ℕ → Type 0
HasBit word c = bit_at word c ≡ 1

-- how many of the lowest bits a word has
unfoldable pub bits_below : ℕ → ℕ → ℕ
bits_below zero word = 0
bits_below (suc k) word = bit_at word k + bits_below k word

-- each bit of the first is one of the second
abbrev pub IsWithin : ℕ → ℕ → Type 0
IsWithin a b = (c : ℕ) → c < 64 → bit_at a c ≤ bit_at b c

-- the bits that an edge lets through
abbrev pub kept_at : List ℕ → ℕ → ℕ
kept_at kept e = unwrap_or (slice_get kept e) 0

-- words of 64 bits, joined by all bits of both, of which each edge keeps those of its own word
abbrev pub words : List ℕ → Domain ℕ
words kept = record {
  IsFact = λ a. Unit {0};
  Below = IsWithin;
  HasEdge = λ e. e < length kept;
  bottom = 0;
  joined = bit_or;
  carried = λ e a. bit_and a (kept_at kept e);
  rank = bits_below 64;
  height = 64;
}
