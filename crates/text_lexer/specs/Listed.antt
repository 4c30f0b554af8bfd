-- The tokens of a text as a list.
use Rattle.std.specs.Prelude.{◌≡◌, ℕ, List, [], ◌∷◌, ◌++◌, length, drop}
use Rattle.text_lexer.specs.Scan.{blank_len}
use Rattle.text_lexer.specs.Token.{IsLongest, HasNone}
use Rattle.text_lexer.specs.declared.token.Kind.{Kind}

-- the text behind its blanks and comments
abbrev pub behind_blanks : List ℕ → List ℕ
behind_blanks text = drop (blank_len text) text

-- The text's tokens, each the longest behind the blanks that stand before it, and the text in which none begins.
abbrev pub AreTokens : List ℕ → List (Kind × List ℕ) → List ℕ → Type 0
AreTokens text [] left = (text ≡ left) × HasNone (behind_blanks text)
AreTokens text (t ∷ ts) left = (rest : List ℕ) × (behind_blanks text ≡ t.1 ++ rest) × IsLongest (behind_blanks text) t.0 (length t.1) × AreTokens rest ts left
