-- What the tokens of a text are.
use Rattle.std.specs.Prelude.{◌≡◌, ℕ, ◌<◌, ◌≤◌, ◌⊎◌, Bool, true, not, List, [], ◌∷◌, ◌++◌, length, take, ◌==◌}
use Rattle.text_lexer.specs.Bytes.{is_digit, is_name_byte, is_word_start, is_mark}
use Rattle.text_lexer.specs.declared.token.Kind.{Kind}
use Rattle.text_lexer.specs.declared.token.Kind.TheVariants.{Label, Word, Int, String, Local, Global, Group, Meta, Mark}

-- each byte passes
abbrev pub Each : (ℕ → Bool) → List ℕ → Type 0
Each p [] = Unit {0}
Each p (b ∷ bs) = (p b ≡ true) × Each p bs

-- one byte or more, each of which passes
abbrev pub Some : (ℕ → Bool) → List ℕ → Type 0
Some p bs = (0 < length bs) × Each p bs

abbrev pub is_inside : ℕ → Bool
is_inside b = not (b == 34)

-- bytes between two quotes
abbrev pub IsQuoted : List ℕ → Type 0
IsQuoted w = (inside : List ℕ) × Each is_inside inside × (w ≡ 34 ∷ inside ++ 34 ∷ [])

-- a name, plain or quoted
abbrev pub IsName : List ℕ → Type 0
IsName w = Some is_name_byte w ⊎ IsQuoted w

abbrev pub IsToken : Kind → List ℕ → Type 0
IsToken Label w = (name : List ℕ) × IsName name × (w ≡ name ++ 58 ∷ [])
IsToken Word w = (b : ℕ) × (bs : List ℕ) × (is_word_start b ≡ true) × Each is_name_byte bs × (w ≡ b ∷ bs)
IsToken Int w = Some is_digit w ⊎ ((digits : List ℕ) × Some is_digit digits × (w ≡ 45 ∷ digits))
IsToken String w = IsQuoted w
IsToken Local w = (name : List ℕ) × IsName name × (w ≡ 37 ∷ name)
IsToken Global w = (name : List ℕ) × IsName name × (w ≡ 64 ∷ name)
IsToken Group w = (digits : List ℕ) × Some is_digit digits × (w ≡ 35 ∷ digits)
IsToken Meta w = (bs : List ℕ) × Each is_name_byte bs × (w ≡ 33 ∷ bs)
IsToken Mark w = (b : ℕ) × (is_mark b ≡ true) × (w ≡ b ∷ [])

-- the first n bytes of the text are a token of the kind and of no other, and no longer front of it is a token
pub record IsLongest (text : List ℕ) (k : Kind) (n : ℕ) : Type 0 where
  pub within : n ≤ length text
  pub token : IsToken k (take n text)
  pub only : (j : Kind) → IsToken j (take n text) → j ≡ k
  pub longest : (j : Kind) (w rest : List ℕ) → IsToken j w → text ≡ w ++ rest → length w ≤ n

-- no front of the text is a token
abbrev pub HasNone : List ℕ → Type 0
HasNone text = (j : Kind) (w rest : List ℕ) → IsToken j w → text ≡ w ++ rest → ⊥
