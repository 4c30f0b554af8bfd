-- The tokens of a text, from left to right.
use Rattle.std.specs.Prelude.{◌≡◌, ◌-◌, ℕ, List, Option, Some, None, drop, take}
use Rattle.text_lexer.specs.Scan.{blank_len, token_at}
use Rattle.text_lexer.specs.Lists.{all_at}
use Rattle.text_lexer.specs.declared.token.Kind.{Kind}
use Rattle.text_lexer.specs.declared.token.Token.{Token}
use Rattle.text_lexer.specs.declared.token.Next.{Next}
use Rattle.text_lexer.specs.declared.token.Next.TheVariants.{Tok, End, BadByte}

-- a kind and its bytes at the front, and the text behind them
abbrev pub cut : List ℕ → Option (Kind × ℕ) → Option ((Kind × List ℕ) × List ℕ)
cut text None = None
cut text (Some x) = Some ((x.0, take x.1 text), drop x.1 text)

-- the first token behind blanks and comments, and the text behind it
unfoldable pub first_token : List ℕ → Option ((Kind × List ℕ) × List ℕ)
first_token text = cut (drop (blank_len text) text) (token_at (drop (blank_len text) text))

-- the tokens of a text, each the first of what the ones before leave, and the text in which none begins
abbrev pub tokens : List ℕ → List (Kind × List ℕ) × List ℕ
tokens text = all_at first_token text

-- a token's bytes
abbrev pub bytes_of : List ℕ → Token → List ℕ
bytes_of text t = take (t.span.end - t.span.start) (drop t.span.start text)

-- what follows in the text is the first token of what stands there
abbrev pub IsFirst : List ℕ → ℕ → Next → Type 0
IsFirst text at (Tok t) = first_token (drop at text) ≡ Some ((t.kind, bytes_of text t), drop t.span.end text)
IsFirst text at End = first_token (drop at text) ≡ None
IsFirst text at (BadByte place) = first_token (drop at text) ≡ None
