-- What the next token of a text is.
use Rattle.std.specs.Prelude.{◌≡◌, ◌<◌, ℕ, ◌+◌, ◌-◌, List, length, drop}
use Rattle.text_lexer.specs.Scan.{blank_len}
use Rattle.text_lexer.specs.Token.{IsLongest, HasNone}
use Rattle.text_lexer.specs.declared.token.Kind.{Kind}
use Rattle.text_lexer.specs.declared.token.Token.{Token}
use Rattle.text_lexer.specs.declared.token.Next.{Next}
use Rattle.text_lexer.specs.declared.token.Next.TheVariants.{Tok, End, BadByte}

abbrev pub IfTok : Next → (Token → Type 0) → Type 0
IfTok (Tok t) P = P t
IfTok End P = Unit {0}
IfTok (BadByte n) P = Unit {0}

abbrev pub IfBadByte : Next → (ℕ → Type 0) → Type 0
IfBadByte (Tok t) P = Unit {0}
IfBadByte End P = Unit {0}
IfBadByte (BadByte n) P = P n

-- where blanks and comments end
abbrev pub first_place : List ℕ → ℕ → ℕ
first_place text at = at + blank_len (drop at text)

-- from the place on stand blanks and comments alone
abbrev pub IsBlankFrom : List ℕ → ℕ → Type 0
IsBlankFrom text at = first_place text at ≡ length text

-- the longest token behind the blanks and comments is of the kind, and stands at these bytes
pub record IsTokenAfter (text : List ℕ) (at : ℕ) (k : Kind) (start end : ℕ) : Type 0 where
  pub first : start ≡ first_place text at
  pub longest : IsLongest (drop start text) k (end - start)
  pub some : start < end

-- something else than blanks and comments is left, and no token begins at its first byte
pub record IsNoToken (text : List ℕ) (at place : ℕ) : Type 0 where
  pub first : place ≡ first_place text at
  pub left : place < length text
  pub none : HasNone (drop place text)
