-- What a text says.
use Rattle.std.specs.Prelude.{ℕ, Bool, List, map, length, ◌==◌}
use Rattle.text_lexer.specs.Scan.{blank_len}
use Rattle.text_lexer.specs.Tokens.{tokens}
use Rattle.text_lexer.specs.declared.token.Kind.{Kind}
use Rattle.text_symbols.specs.declared.listing.Symbols.{Symbols}
use Rattle.text_symbols.specs.Sym.{sym_of}

-- blanks and comments alone
abbrev pub is_blank : List ℕ → Bool
is_blank text = blank_len text == length text

abbrev pub said : List (Kind × List ℕ) × List ℕ → Symbols
said t = record { symbols = map sym_of t.0; whole = is_blank t.1 }

-- what the tokens of the text say, and whether they are all of it
abbrev pub symbols_of : List ℕ → Symbols
symbols_of text = said (tokens text)
