-- The tokens of a line.
use Rattle.std.specs.Prelude.{ℕ, Bool, List, map, length, ◌==◌}
use Rattle.text_lexer.specs.Scan.{blank_len}
use Rattle.text_lexer.specs.Tokens.{tokens}
use Rattle.text_lexer.specs.declared.token.Kind.{Kind}
use Rattle.clang_tokens.specs.declared.listing.Listed.{Listed}

-- blanks and comments alone
abbrev pub is_blank : List ℕ → Bool
is_blank text = blank_len text == length text

-- a token's bytes
abbrev pub bytes_of : Kind × List ℕ → List ℕ
bytes_of t = t.1

-- tokens as a line has them
abbrev pub listed : List (Kind × List ℕ) × List ℕ → Listed
listed t = record { tokens = map bytes_of t.0; whole = is_blank t.1 }

-- the bytes of a line's tokens, and whether they are all of it but blanks and comments
abbrev pub tokens_of : List ℕ → Listed
tokens_of line = listed (tokens line)
