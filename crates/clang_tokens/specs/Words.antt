-- What single tokens are.
use Rattle.std.specs.Prelude.{ℕ, Bool, true, false, List, [], ◌∷◌, ◌&&◌, ◌||◌, ◌==◌, nat_eq, unwrap_or, slice_get}
use Rattle.std.specs.Cmp.Lexicographic.{pointwise}

-- the same bytes
abbrev pub same : List ℕ → List ℕ → Bool
same = pointwise nat_eq

-- the token at a position, and no byte where there is none
abbrev pub at : ℕ → List (List ℕ) → List ℕ
at i ts = unwrap_or (slice_get ts i) []

-- the token at a position is this one
abbrev pub is_at : ℕ → List (List ℕ) → List ℕ → Bool
is_at i ts word = same (at i ts) word

-- the bytes begin with these
abbrev pub begins : List ℕ → List ℕ → Bool
begins [] bs = true
begins (h ∷ hs) [] = false
begins (h ∷ hs) (b ∷ bs) = (h == b) && begins hs bs

-- a word of this spelling stands in the line
abbrev pub has : List ℕ → List (List ℕ) → Bool
has word [] = false
has word (t ∷ ts) = same t word || has word ts
