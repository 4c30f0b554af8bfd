-- Tokens as a line.
use Rattle.std.specs.Prelude.{ℕ, List, [], ◌∷◌, ◌++◌}

-- each with a space before it
abbrev pub spaced_more : List (List ℕ) → List ℕ
spaced_more [] = []
spaced_more (t ∷ ts) = 32 ∷ (t ++ spaced_more ts)

-- with a space between
abbrev pub spaced : List (List ℕ) → List ℕ
spaced [] = []
spaced (t ∷ ts) = t ++ spaced_more ts

-- a line of these tokens, with its line feed
abbrev pub line_of : List (List ℕ) → List ℕ
line_of ts = spaced ts ++ 10 ∷ []
